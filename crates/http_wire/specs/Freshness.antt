-- How long a response may be used, by its Cache-Control fields.
-- RFC 9111, sections 1.2.2, 5.2 and 5.2.2.1.
use Rattle.std.specs.Prelude.{◌≡◌, ℕ, ◌-◌, ◌^◌, ◌⊎◌, IsTrue, if◌then◌else◌, List, [], ◌∷◌, ◌++◌, All, Option, None, Some, codes, min}
use Rattle.std.specs.Str.Parse.{digits_value}
use Rattle.line_text.specs.Number.{is_numeral}
use Rattle.http_wire.specs.Fields.{Pair, members_of}
use Rattle.robots_text.specs.Words.{is_same_word}

-- the largest count of seconds, even for larger ones
abbrev pub max_seconds : ℕ
max_seconds = 2 ^ 64 - 1

-- delta-seconds = 1*DIGIT: the seconds that the digits write
abbrev pub delta_seconds : List ℕ → Option ℕ
delta_seconds digits = if is_numeral digits then Some (min (digits_value 10 digits) max_seconds) else None

-- DQUOTE
abbrev pub quotation_mark : ℕ
quotation_mark = 34

-- the text is between two quotation marks
abbrev pub IsQuoted : List ℕ → List ℕ → Type 0
IsQuoted argument text = argument ≡ quotation_mark ∷ (text ++ quotation_mark ∷ [])

-- the argument is these seconds in digits, bare or quoted
pub record WritesSeconds (argument : List ℕ) (seconds : ℕ) : Type 0 where
  pub digits : List ℕ
  pub form : (argument ≡ digits) ⊎ IsQuoted argument digits
  pub value : delta_seconds digits ≡ Some seconds

-- cache-directive = token "=" ( token / quoted-string ): the member is a max-age of these seconds
pub record IsMaxAge (member : List ℕ) (seconds : ℕ) : Type 0 where
  pub name : List ℕ
  pub argument : List ℕ
  pub parts : member ≡ name ++ argument
  pub name_is : IsTrue (is_same_word name (codes "max-age="))
  pub writes : WritesSeconds argument seconds

-- the member is no max-age
abbrev pub IsNoMaxAge : List ℕ → Type 0
IsNoMaxAge member = (seconds : ℕ) → ¬ (IsMaxAge member seconds)

-- the first max-age among the members has these seconds
pub record IsFirstMaxAge (members : List (List ℕ)) (seconds : ℕ) : Type 0 where
  pub before : List (List ℕ)
  pub member : List ℕ
  pub after : List (List ℕ)
  pub parts : members ≡ before ++ member ∷ after
  pub none : All IsNoMaxAge before
  pub is : IsMaxAge member seconds

-- the seconds that the members give, if any
abbrev pub TellsMaxAge : List (List ℕ) → Option ℕ → Type 0
TellsMaxAge members None = All IsNoMaxAge members
TellsMaxAge members (Some seconds) = IsFirstMaxAge members seconds

-- the seconds that the fields give, if any
abbrev pub HasMaxAge : List Pair → Option ℕ → Type 0
HasMaxAge fields seconds = TellsMaxAge (members_of (codes "cache-control") fields) seconds
