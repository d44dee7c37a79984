-- A text that is no UTF-8 writes no number.
-- Used by `number_in`.
use Rattle.std.proofs.Common.{◌≡◌, ◌<◌, true, false, ℕ, List, All, Bool, get_or, None, refl, arith}
use Rattle.std.specs.Prelude.{IsUtf8}
use Rattle.std.specs.Char.{is_ascii_digit}
use Rattle.std.specs.List.{list_all}
use Rattle.std.proofs.lemmas.Bool.Decides.{nat_tests}
use Rattle.std.proofs.lemmas.List.Sums.{AllPass-from_list_all}
use Rattle.std.proofs.lemmas.Str.{IsUtf8-from_ascii}
use Rattle.std.proofs.lemmas.Str.Ascii.{IsAscii-from_all}
use Rattle.line_text.specs.Number.{is_numeral, is_number, number_of}

digits_ascii : (member : List ℕ) → list_all is_ascii_digit member ≡ true → All (λ octet. octet < 128) member
digits_ascii member digits = λ k d inside.
    let digit : is_ascii_digit (get_or member k d) ≡ true = AllPass-from_list_all is_ascii_digit member digits k d inside in
    grind (arith, nat_tests)

numeral_is_text : (member : List ℕ) → is_numeral member ≡ true → IsUtf8 member
numeral_is_text member numeral =
    let digits : list_all is_ascii_digit member ≡ true = grind (arith, nat_tests) in
    IsUtf8-from_ascii member (IsAscii-from_all member (digits_ascii member digits))

no_number_by : (tested : Bool) (member : List ℕ) → is_numeral member ≡ tested → ¬ (IsUtf8 member) → None ≡ number_of member
no_number_by true member numeral no_text = absurd (no_text (numeral_is_text member numeral))
no_number_by false member numeral no_text = let number : is_number member ≡ false = grind (arith, nat_tests) in rw number refl

pub no_number : (member : List ℕ) → ¬ (IsUtf8 member) → None ≡ number_of member
no_number member no_text = no_number_by (is_numeral member) member refl no_text
