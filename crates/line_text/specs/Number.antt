-- Decimal numbers below 2 to the 64, with any leading zeros.
-- Used by the contracts that read the numbers of command lines and the length of a response's body.
use Rattle.std.specs.Prelude.{◌&&◌, ◌^◌, ℕ, Bool, List, Option, Some, None, length, nat_lt, if◌then◌else◌}
use Rattle.std.specs.Char.{is_ascii_digit}
use Rattle.std.specs.List.{list_all}
use Rattle.std.specs.Str.Parse.{digits_value}

-- the word is one or more decimal digits
abbrev pub is_numeral : List ℕ → Bool
is_numeral word = nat_lt 0 (length word) && list_all is_ascii_digit word

-- the value of the digits is below 2 to the 64
abbrev pub is_small : List ℕ → Bool
is_small word = nat_lt (digits_value 10 word) (2 ^ 64)

-- the word writes such a number
abbrev pub is_number : List ℕ → Bool
is_number word = is_numeral word && is_small word

-- the number of the word, if it is one
abbrev pub number_of : List ℕ → Option ℕ
number_of word = if is_number word then Some (digits_value 10 word) else None
