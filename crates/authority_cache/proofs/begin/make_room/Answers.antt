-- Rebuilt ends cover the same answers, and reserving changes no end.
use Rattle.std.proofs.Common.{sym, subst}
use Rattle.authority_cache.specs.Ends.{Covers, KeptEnds}
use Rattle.authority_cache.proofs.EndLaws.{covers_same}
use Rattle.authority_cache.proofs.begin.make_room.Goals as goal
use Rattle.authority_cache.proofs.begin.make_room.Goals.{then-len, else-len}

pub returns-clause-covered : goal.returns-clause-covered
returns-clause-covered c =
    let es = c.args.sites.now.entries in
    covers_same c.if-len.ends c.reserve.new.self es c.reserve.ensures.ends
    (elim c.if-len.branch [
      | then-len w ↦ subst (λ (k : KeptEnds). Covers k es) (sym w.ends-is) w.renew.ensures.covered
      | else-len w ↦ subst (λ (k : KeptEnds). Covers k es) (sym w.ends-is) c.requires.covered
    ])
