-- One less is counted for the authority of the URL that was out under the number.
-- By `leaves` of `Counting`.
use Rattle.std.proofs.Common.{List, ℕ, subst}
use Rattle.permit_book.specs.Table.{out_under}
use Rattle.gate_core.specs.PlaceCounts.{TakesOne, held_by}
use Rattle.gate_core.proofs.Counting.{leaves}
use Rattle.gate_core.proofs.place_counts.PlaceCounts.leave.Goals as goal

pub returns-in-Some : goal.returns-in-Some
returns-in-Some c =
    leaves (held_by c.args.self.now) (held_by c.release.new.self) c.in-Some.url.now (out_under c.args.permits.now c.args.number) c.in-Some.ensures
    (subst (λ (a : List ℕ). TakesOne (held_by c.args.self.now) a (held_by c.release.new.self)) c.authority.ensures.value c.release.ensures)
