-- If the sync fails, all octets are a prefix of themselves.
-- Used by `append_kept`.

use Rattle.journal.proofs.CutAgain.{prefix_on_err}
use Rattle.journal.proofs.cutting.append_kept.Goals as goal

pub returns-clause-err : goal.returns-clause-err
returns-clause-err g c =
    let written = g.T.Tape.written c.args.tape.now in
    prefix_on_err c.sync.result written (g.T.Tape.written c.append_all.new.tape) (g.T.Tape.written c.sync.new.self) c.args.text.now
    c.in_ok-append_all.ensures.ok c.sync.ensures.same
