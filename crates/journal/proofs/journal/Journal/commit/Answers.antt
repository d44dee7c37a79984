-- If the sync fails, all octets are a prefix of themselves.
use Rattle.std.proofs.Common.{subst, sym}
use Rattle.journal.specs.Journal.{Writes}
use Rattle.journal.proofs.Failing.{written_then_fails}
use Rattle.journal.proofs.journal.Journal.commit.Goals as goal

pub returns-clause-err : goal.returns-clause-err
returns-clause-err g c =
    let wrote = subst (λ noted. Writes c.args.self.now noted c.args.bytes.now) (sym c.self.view_is) c.in_ok-write.ensures.ok in
    written_then_fails _ _ _ _ _ _ _ c.sync-synced.result wrote c.sync-synced.ensures.same c.sync-synced.ensures.least c.is_err-self-inside.ensures.value
