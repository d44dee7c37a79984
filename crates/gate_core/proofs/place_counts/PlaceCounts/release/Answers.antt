-- One less is counted at the authority's index, and the others stay.
-- By `takes_one` and `takes_at` of `Counting`.
use Rattle.std.proofs.Common.{◌≡◌, ◌-◌, ℕ, List, Option, Some, None, IfSome, String, Global, is_some, sym, ap, ◌∙◌, subst, arith, string_bytes, true≢false}
use Rattle.std.specs.Prelude.{slice_get}
use Rattle.std.specs.HashMap.{UpdatesBy}
use Rattle.std.specs.Str.{bytes_eq}
use Rattle.std.specs.String.{string_eq}
use Rattle.gate_core.proofs.Counting.{somewhere, takes_at, takes_one}
use Rattle.gate_core.proofs.place_counts.PlaceCounts.release.Goals as goal

pub returns-then-len-gt-MOST_KEPT : goal.returns-then-len-gt-MOST_KEPT
returns-then-len-gt-MOST_KEPT c =
    let m = c.args.self.now.by_authority in
    let a = c.args.authority.now in
    let n = c.swap_remove_index.new.self in
    let at = subst (λ (o : Option ℕ). IfSome o (λ i. (name : String Global) × (slice_get m.entries i ≡ Some (name, c.find-held.result.count)) × (string_bytes name ≡ a))) c.in-Some.is c.find-held.ensures.some in
    let updates = subst (λ (o : Option (String Global × ℕ)). IfSome o (λ p. UpdatesBy string_eq (string_eq p.0) m n None)) (c.swap_remove_index.ensures.entry ∙ at.1) c.swap_remove_index.ensures.updates in
    takes_one m n a None (subst (λ (b : List ℕ). UpdatesBy string_eq (λ k. bytes_eq b (string_bytes k)) m n None) at.2 updates)
    (let few = c.if-held-le1.true in let count = c.find-held.ensures.count in omega (arith, few, count))

pub unreachable-requires : goal.unreachable-requires
unreachable-requires c =
    let m = c.args.self.now.by_authority in
    let a = c.args.authority.now in
    let at = subst (λ (o : Option ℕ). IfSome o (λ i. (name : String Global) × (slice_get m.entries i ≡ Some (name, c.find-held.result.count)) × (string_bytes name ≡ a))) c.in-Some.is c.find-held.ensures.some in
    absurd (true≢false (sym (c.get_index_mut.ensures.found.1 (somewhere m.entries c.in-Some.index (at.0, c.find-held.result.count) at.1)) ∙ ap is_some c.in-None.is))

pub returns : goal.returns
returns c =
    let m = c.args.self.now.by_authority in
    let a = c.args.authority.now in
    let at = subst (λ (o : Option ℕ). IfSome o (λ i. (name : String Global) × (slice_get m.entries i ≡ Some (name, c.find-held.result.count)) × (string_bytes name ≡ a))) c.in-Some.is c.find-held.ensures.some in
    takes_at m c.in-Some.index at.0 a c.find-held.result.count at.1 at.2 c.saturating_sub.result c.get_index_mut.ensures.unique
    (c.saturating_sub.ensures ∙ ap (λ n. n - 1) c.find-held.ensures.count)
