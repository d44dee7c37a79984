-- No literal is kept.
use Rattle.std.proofs.Common.{◌≡◌, subst, sym, arith}
use Rattle.std.proofs.lemmas.List.Elements.{All-weaker}
use Rattle.path_pattern.specs.declared.kept.Stand.{Stand}
use Rattle.path_pattern.specs.Kept.{IsKept}
use Rattle.path_pattern.specs.Sorted.{ArePlacesOf}
use Rattle.path_pattern.proofs.path.Path.with.Goals as goal

pub invariant_of-result : goal.invariant_of-result
invariant_of-result c =
    let places = c.as_slice-places.result.now in (
      subst (ArePlacesOf c.args.text.now) (sym c.as_slice-places.ensures.value) c.requires,
      c.spell_fronts.ensures,
      c.next_places-next.ensures,
      All-weaker (λ (stand : Stand). stand.end ≡ 0) (IsKept c.args.text.now places) (λ (stand : Stand) none some. absurd (omega (arith, none, some))) _ c.forget_stands.ensures,
    )
