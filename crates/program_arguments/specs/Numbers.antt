-- Numbers and bounds by options, each under its own name.
-- Cited by `numbers` and `journal`; docs/crawlgate.1.md has the options.
use Rattle.std.specs.Prelude.{◌≡◌, ◌≤◌, ℕ, IfSome, List, Option, Some, None}
use Rattle.std.specs.Str.Parse.{digits_value, without_leading_plus}
use Rattle.clap.specs.Words.{first_value, one_text}
use Rattle.clap.specs.declared.parser.matches.Found.{Found}

-- the number matched under this name, by its digits
abbrev pub IsNumberOf : Found → List ℕ → ℕ → Type 0
IsNumberOf words name number =
    (text : List ℕ) × ((one_text words name ≡ Some text) × (number ≡ digits_value 10 (without_leading_plus text)))

-- the bound is the number matched under this name; without it there is none
abbrev pub IsBoundOf : Found → List ℕ → Option ℕ → Type 0
IsBoundOf words name None = first_value words name ≡ None
IsBoundOf words name (Some bound) = IsNumberOf words name bound

-- a bound, if any, is from the least to the most that it may be
abbrev pub IsBoundWithin : (least most : ℕ) → Option ℕ → Type 0
IsBoundWithin least most bound = IfSome bound (λ number. (least ≤ number) × (number ≤ most))
