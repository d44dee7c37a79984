-- What `parse` gives for a word of digits: used by the proof of `number_of`.
use Rattle.std.proofs.Common.{◌≡◌, ◌<◌, ◌^◌, ℕ, true, false, List, length, Some, None, Result, Ok, Err, ap, sym, refl, ◌∙◌, arith, rules}
use Rattle.std.specs.Char.{is_ascii_digit}
use Rattle.std.specs.List.{list_all}
use Rattle.std.specs.Result.{result_ok}
use Rattle.std.specs.Str.Parse.{ParsesUnsigned, digits_value}
use Rattle.std.proofs.lemmas.Bool.Decides.{nat_tests}
use Rattle.std.proofs.lemmas.Str.Parse.{IsNumeralModel, numerals_by_value, parse_digits}
use Rattle.line_text.specs.Number.{is_numeral, is_small, number_of}

own : IsNumeralModel (λ ds. list_all is_ascii_digit ds ≡ true) (digits_value 10)
own = numerals_by_value _ (search rules)

numeral_parts : (word : List ℕ) → is_numeral word ≡ true → (0 < length word) × (list_all is_ascii_digit word ≡ true)
numeral_parts word h = (grind (arith, nat_tests), grind (arith, nat_tests))

number_small : (word : List ℕ) → is_numeral word ≡ true → digits_value 10 word < 2 ^ 64 → number_of word ≡ Some (digits_value 10 word)
number_small word h s = let small : is_small word ≡ true = grind (arith, nat_tests) in rw (h, small) refl

number_great : (word : List ℕ) → is_numeral word ≡ true → ¬ (digits_value 10 word < 2 ^ 64) → number_of word ≡ None
number_great word h s = let great : is_small word ≡ false = grind (arith, nat_tests) in rw (h, great) refl

pub number_parsed : {E : Type 0} (word : List ℕ) (r : Result ℕ E) → is_numeral word ≡ true → ParsesUnsigned 64 10 word r → result_ok r ≡ number_of word
number_parsed {E} word (Ok x) h p =
    let parts = numeral_parts word h in
    let fact = parse_digits own {E = E} 64 word (Ok x) p parts.1 in
    ap Some fact.1 ∙ sym (number_small word h fact.0.1)
number_parsed {E} word (Err e) h p =
    let parts = numeral_parts word h in
    let fact = parse_digits own {E = E} 64 word (Err e) p parts.1 in
    sym (number_great word h (λ small. fact (parts.0, small)))
