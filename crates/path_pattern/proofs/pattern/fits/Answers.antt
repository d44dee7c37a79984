-- The first literal is a prefix of the path, and the wildcard after it matches any octets.
use Rattle.std.proofs.Common.{◌≡◌, ◌∷◌, ◌∙◌, ◌↔◌, List, ℕ, Bool, false, IsTrue, drop, length, sym, subst}
use Rattle.std.proofs.lemmas.Bool.{true≢false}
use Rattle.memchr.specs.Find.{OccursAt}
use Rattle.path_pattern.specs.Matches.{Spells}
use Rattle.path_pattern.specs.Literals.{IsSplitAtStar}
use Rattle.path_pattern.proofs.PlaceLemmas.{begun, not_begun}
use Rattle.path_pattern.proofs.SpellsLemmas.{off_start, on_start, rest_is}
use Rattle.path_pattern.proofs.pattern.fits.Goals as goal
use Rattle.path_normal.specs.Octets.{star}

module _ (pattern literal after path octets : List ℕ) (anchored begins : Bool) (split : IsSplitAtStar pattern literal after) (same : octets ≡ path) (tested : IsTrue begins ↔ OccursAt octets literal 0) where
  fits_begun : (result : Bool) → IsTrue begins → (IsTrue result ↔ Spells (star ∷ after) anchored (drop (length literal) path)) → IsTrue result ↔ Spells pattern anchored path
  fits_begun result begun_so rest_fits =
      let is = begun path literal (subst (λ them. OccursAt them literal 0) same (tested.0 begun_so)) in (
        λ fits. on_start pattern literal after anchored path (drop (length literal) path) split is (rest_fits.0 fits),
        λ spells.
            let off = off_start pattern literal after anchored path split spells in
            rest_fits.1 (subst (Spells (star ∷ after) anchored) (rest_is literal path off.0 (drop (length literal) path) off.1 is) off.2),
      )

  fits_not : begins ≡ false → IsTrue begins ↔ Spells pattern anchored path
  fits_not not_so = (
    λ begins_so. absurd (true≢false (sym begins_so ∙ not_so)),
    λ spells.
        let off = off_start pattern literal after anchored path split spells in
        absurd (not_begun path literal (λ occurs. true≢false (sym (tested.1 (subst (λ them. OccursAt them literal 0) (sym same) occurs)) ∙ not_so)) off.0 off.1),
  )

pub returns-then-begins_with-clause-tells : goal.returns-then-begins_with-clause-tells
returns-then-begins_with-clause-tells c =
    let cut = c.split_at_place.result in
    fits_begun c.args.pattern.now cut.0.now cut.1.now c.args.path.now c.octets-in-Only.result.now c.args.anchored c.begins_with.result c.split_at_place.ensures c.octets-in-Only.ensures c.begins_with.ensures c.fits_last.result c.if-begins_with.true c.fits_last.ensures.tells

pub returns-else-begins_with-clause-tells : goal.returns-else-begins_with-clause-tells
returns-else-begins_with-clause-tells c =
    let cut = c.split_at_place.result in
    fits_not c.args.pattern.now cut.0.now cut.1.now c.args.path.now c.octets-in-Only.result.now c.args.anchored c.begins_with.result c.split_at_place.ensures c.octets-in-Only.ensures c.begins_with.ensures c.if-begins_with.false

pub returns-then-begins_with-2-clause-tells : goal.returns-then-begins_with-2-clause-tells
returns-then-begins_with-2-clause-tells c =
    let cut = c.split_at_place-in-First.result in
    fits_begun c.args.pattern.now cut.0.now cut.1.now c.args.path.now c.octets-in-First.result.now c.args.anchored c.begins_with-in-First.result c.split_at_place-in-First.ensures c.octets-in-First.ensures c.begins_with-in-First.ensures c.fits_after_star.result c.if-begins_with-2.true c.fits_after_star.ensures.tells

pub returns-else-begins_with-2-clause-tells : goal.returns-else-begins_with-2-clause-tells
returns-else-begins_with-2-clause-tells c =
    let cut = c.split_at_place-in-First.result in
    fits_not c.args.pattern.now cut.0.now cut.1.now c.args.path.now c.octets-in-First.result.now c.args.anchored c.begins_with-in-First.result c.split_at_place-in-First.ensures c.octets-in-First.ensures c.begins_with-in-First.ensures c.if-begins_with-2.false
