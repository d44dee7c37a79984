-- One more is counted at the authority's index, and the others stay.
-- By `adds_at` of `Counting`.
use Rattle.std.proofs.Common.{◌≡◌, ◌+◌, ℕ, Option, Some, IfSome, String, Global, ap, subst, string_bytes}
use Rattle.std.specs.Prelude.{slice_get}
use Rattle.gate_core.proofs.Counting.{adds_at}
use Rattle.gate_core.proofs.place_counts.PlaceCounts.add.Goals as goal

pub returns-clause-ok : goal.returns-clause-ok
returns-clause-ok c =
    let m = c.args.self.now.by_authority in
    let at = subst (λ (o : Option ℕ). IfSome o (λ i. (name : String Global) × (slice_get m.entries i ≡ Some (name, c.args.held.count)) × (string_bytes name ≡ c.args.authority.now))) c.in-Some.is c.requires.held.some in
    adds_at m c.in-Some.index at.0 c.args.authority.now c.args.held.count at.1 at.2 (c.args.held.count + 1) c.get_index_mut.ensures.unique
    (ap (λ n. n + 1) c.requires.held.count)
