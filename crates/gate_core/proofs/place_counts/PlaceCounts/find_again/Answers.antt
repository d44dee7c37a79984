-- The entry at the last place has the authority's name.
use Rattle.std.proofs.Common.{◌≡◌, List, ℕ, Some, sym, ap, ◌∙◌, subst, string_bytes}
use Rattle.std.specs.Prelude.{unwrap_or}
use Rattle.std.specs.HashMap.{get_by_text}
use Rattle.std.proofs.lemmas.Slice.Eq.{bytes_eq-Decides}
use Rattle.gate_core.proofs.place_counts.PlaceCounts.find_again.Goals as goal

pub returns-in-Some : goal.returns-in-Some
returns-in-Some c =
    let a = c.args.authority.now in
    let m = c.args.self.now.by_authority in
    let name : string_bytes c.in-Some.name.now ≡ a =
    sym c.as_str.ensures.value ∙ (bytes_eq-Decides c.as_str.result.now a).0 (sym c.eq.ensures ∙ c.if-eq.true) in
    let found : get_by_text m a ≡ Some c.in-Some.count.now = subst (λ (b : List ℕ). get_by_text m b ≡ Some c.in-Some.count.now) name c.in-Some.ensures.value in
    record {
      some = (c.in-Some.name.now, sym c.in-Some.ensures.entry, name);
      none = tt;
      count = ap (λ o. unwrap_or o 0) (sym found);
    }
