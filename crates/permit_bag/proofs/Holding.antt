-- What a bag holds, with one more and with one less.
-- Used by `Bag`.
use Rattle.std.proofs.Common.{◌≡◌, ℕ, ◌+◌, ◌==◌, ◌&&◌, ◌||◌, Bool, true, false, List, ◌∷◌, length, All, IsPermutation, MatchBool, Result, Ok, Err, OnOk, is_err, refl, sym, ap, ◌∙◌, true≢false, arith}
use Rattle.std.proofs.lemmas.Bool.{eqb-true}
use Rattle.std.proofs.lemmas.List.Elements.{All-cons, All-head, All-tail}
use Rattle.std.proofs.lemmas.List.Sorted.{All-permutation, length_permutation, list_any-IsPermutation}
use Rattle.std.proofs.lemmas.Slice.Eq.{bytes_eq-Decides}
use Rattle.std.specs.List.{list_any}
use Rattle.std.specs.Str.{bytes_eq}
use Rattle.permit_bag.specs.Bags.{BagView, pass_of}
use Rattle.gate_lock.specs.Desks.{Pass}

module _ {X : Type 0} (desk : X → ℕ) (no : ℕ) where
  pub less : (old new : List X) (x : X) → IsPermutation old (x ∷ new) → All (λ y. desk y ≡ no) old →
      All (λ y. desk y ≡ no) new × (desk x ≡ no) × (length old ≡ length new + 1)
  less old new x left all =
      let own = All-permutation (λ y. desk y ≡ no) old (x ∷ new) left all in
      let count = length_permutation old (x ∷ new) left in
      (All-tail (λ y. desk y ≡ no) x new own, All-head (λ y. desk y ≡ no) x new own, omega (arith, count))

  pub more : (old new : List X) (x : X) → IsPermutation (x ∷ old) new → All (λ y. desk y ≡ no) old → desk x ≡ no →
      All (λ y. desk y ≡ no) new × (length new ≡ length old + 1)
  more old new x kept all own =
      let count = length_permutation (x ∷ old) new kept in
      (All-permutation (λ y. desk y ≡ no) (x ∷ old) new kept (All-cons (λ y. desk y ≡ no) x old own all), omega (arith, count))

both : (b c : Bool) → (b && c) ≡ true → (b ≡ true) × (c ≡ true)
both true c is = (refl, is)
both false c is = absurd (true≢false (sym is))

pub named : (b : BagView) (p : Pass) (number : ℕ) (token url : List ℕ) →
    ((p.number == number) && (bytes_eq p.token token && bytes_eq p.url url)) ≡ true → p.desk ≡ b.desk → p ≡ pass_of b number token url
named b p number token url is own =
    let first = both (p.number == number) (bytes_eq p.token token && bytes_eq p.url url) is in
    let rest = both (bytes_eq p.token token) (bytes_eq p.url url) first.1 in
    let n = eqb-true p.number number first.0 in
    let t = (bytes_eq-Decides p.token token).0 rest.0 in
    let u = (bytes_eq-Decides p.url url).0 rest.1 in
    λ i. record { number = n i; token = t i; url = u i; desk = own i }

pub arm_of : (b : Bool) (P Q : Type 0) → b ≡ true → P → MatchBool b P Q
arm_of true P Q is p = p
arm_of false P Q is p = absurd (true≢false (sym is))

pub ok_then : {A E P : Type 0} (r : Result A E) → is_err r ≡ false → OnOk r P → P
ok_then (Ok x) none is = is
ok_then (Err e) none is = absurd (true≢false none)

pub there : {X : Type 0} (test : X → Bool) (old new : List X) (x : X) → IsPermutation old (x ∷ new) → test x ≡ true → list_any test old ≡ true
there test old new x left is = list_any-IsPermutation test old (x ∷ new) left ∙ ap (λ b. b || list_any test new) is
