-- Digits that are read up to a limit.
-- Used by `seconds_in`.
use Rattle.std.proofs.Common.{◌≡◌, ◌∙◌, ◌≤◌, ◌+◌, ◌-◌, ◌*◌, ◌&&◌, ◌∷◌, [], ℕ, Bool, true, false, List, min, refl, sym, ap, arith}
use Rattle.std.specs.Prelude.{nat_le}
use Rattle.std.specs.Char.{digit_value, is_ascii_digit}
use Rattle.std.specs.List.{list_all}
use Rattle.std.specs.Str.Parse.{digits_value, digits_value_after}
use Rattle.std.proofs.lemmas.Bool.{leb-true, leb-false}
use Rattle.std.proofs.lemmas.Str.{digit_value_digit}
use Rattle.site_door.proofs.Tabling.{idle_parts}

grows : (n : ℕ) (digits : List ℕ) → n ≤ digits_value_after 10 n digits
grows n [] = omega arith
grows n (digit ∷ digits) = let more = grows (n * 10 + digit_value digit) digits in omega (arith, more)

-- a front that counts as the limit leaves the limit
pub capped : (most n : ℕ) (digits : List ℕ) → min (digits_value_after 10 (min n most) digits) most ≡ min (digits_value_after 10 n digits) most
capped most n digits = by (nat_le n most) refl
  where
    by : (few : Bool) → nat_le n most ≡ few → min (digits_value_after 10 (min n most) digits) most ≡ min (digits_value_after 10 n digits) most
    by true is =
        let low = leb-true n most is in
        let same : min n most ≡ n = omega (arith, low) in
        ap (λ (n : ℕ). min (digits_value_after 10 n digits) most) same
    by false is =
        let high = leb-false n most is in
        let one = grows (min n most) digits in
        let other = grows n digits in
        omega (arith, high, one, other)

pub digit_is : (octet : ℕ) → is_ascii_digit octet ≡ true → digit_value octet + 48 ≡ octet
digit_is octet is =
    let both = idle_parts (nat_le 48 octet) (nat_le octet 57) is in
    digit_value_digit octet (leb-true 48 octet both.0, leb-true octet 57 both.1)

-- one digit more is read
pub reads_one : (most seconds next digit : ℕ) (digits rest after : List ℕ) → rest ≡ digit ∷ after → is_ascii_digit digit ≡ true
    → next ≡ min (seconds * 10 + (digit - 48)) most
    → list_all is_ascii_digit digits ≡ list_all is_ascii_digit rest
    → min (digits_value_after 10 seconds rest) most ≡ min (digits_value 10 digits) most
    → (list_all is_ascii_digit digits ≡ list_all is_ascii_digit after)
    × ((min (digits_value_after 10 next after) most ≡ min (digits_value 10 digits) most) × (next ≤ most))
reads_one most seconds next digit digits rest after front one is all value =
    let known = digit_is digit one in
    let more : seconds * 10 + (digit - 48) ≡ seconds * 10 + digit_value digit = omega (arith, known) in
    let low : next ≤ most = omega (arith, is) in (
      all ∙ ap (list_all is_ascii_digit) front ∙ ap (λ (b : Bool). b && list_all is_ascii_digit after) one,
      (
        ap (λ (n : ℕ). min (digits_value_after 10 n after) most) (is ∙ ap (λ (n : ℕ). min n most) more)
            ∙ capped most (seconds * 10 + digit_value digit) after
            ∙ sym (ap (λ (ds : List ℕ). min (digits_value_after 10 seconds ds) most) front)
            ∙ value,
        low,
      ),
    )
