-- What begins at a site is paced.
-- Used by the law of pauses.
use Rattle.std.proofs.Common.{◌≡◌, ◌∙◌, ◌≤◌, ◌<◌, ◌+◌, ◌-◌, ◌==◌, ◌∷◌, [], ℕ, Bool, true, false, if◌then◌else◌, List, ap, sym, refl, arith}
use Rattle.std.proofs.lemmas.Bool.{eqb-true}
use Rattle.std.specs.Prelude.{Option, Some, None}
use Rattle.crawl_workers.specs.Pauses.{ArePaced, Coming, IsApart, begins_of, later_of, may_begin}

nothing_left : (delay last now : ℕ) → 0 < delay → (delay - (now - last) == 0) ≡ true → last + delay ≤ now
nothing_left delay last now long is = omega (arith, eqb-true (delay - (now - last)) 0 is, long)

is_apart : (delay : ℕ) (last : Option ℕ) (coming : Coming) → 0 < delay → may_begin delay last coming ≡ true → IsApart delay last coming
is_apart delay None coming long may = tt
is_apart delay (Some last) coming long may = λ waits.
    nothing_left delay last coming.now long (sym (ap (λ w. if w then delay - (coming.now - last) == 0 else true) waits) ∙ may)

one_paced : (delay : ℕ) (last : Option ℕ) (coming : Coming) (behind without : List Coming) → 0 < delay
    → ArePaced delay (Some (later_of last coming.now)) behind → ArePaced delay last without
    → (may : Bool) → may_begin delay last coming ≡ may → ArePaced delay last (if may then coming ∷ behind else without)
one_paced delay last coming behind without long begun not_begun true is = (is_apart delay last coming long is, begun)
one_paced delay last coming behind without long begun not_begun false is = not_begun

pub begins_are_paced : (delay : ℕ) (last : Option ℕ) (coming : List Coming) → 0 < delay → ArePaced delay last (begins_of delay last coming)
begins_are_paced delay last [] long = tt
begins_are_paced delay last (coming ∷ later) long =
    one_paced delay last coming _ _ long (begins_are_paced delay (Some (later_of last coming.now)) later long) (begins_are_paced delay last later long)
    (may_begin delay last coming) refl
