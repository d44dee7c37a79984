-- What could not be appended whole is cut off again.
-- Used by `end_text`.
use Rattle.std.proofs.Common.{◌∙◌, sym}
use Rattle.journal.proofs.CutAgain.{undone}
use Rattle.journal.proofs.cutting.end_text.Goals as goal

pub returns-in-Ok-clause-undone : goal.returns-in-Ok-clause-undone
returns-in-Ok-clause-undone g c _ =
    let written = g.T.Tape.written in
    undone c.cut.result c.append_kept.result c.args.whole (written c.args.tape.now) (written c.cut.new.self) (written c.append_kept.new.tape)
    (written c.cut-2.new.self) c.args.text.now
    (sym c.is_err.ensures.value ∙ c.if-is_err.false) c.cut.ensures.cuts (sym c.is_ok.ensures.value ∙ c.if-is_ok.false) c.append_kept.ensures.err
    (c.in-Ok.ensures {u = tt}).cuts
