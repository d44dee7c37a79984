-- What is kept of a robots text, and its lines: the only way to write it as lines and ends.
-- RFC 9309, sections 2.2 and 2.5.
use Rattle.std.specs.Prelude.{◌≡◌, ◌≢◌, ◌⊎◌, ◌≤◌, ℕ, Bool, true, false, ◌&&◌, ◌||◌, ◌==◌, nat_le, List, [], ◌∷◌, ◌++◌, length, take, if◌then◌else◌, Option, None, Some}
use Rattle.std.specs.List.{list_any, onto_first}
use Rattle.robots_text.specs.Octets.{carriage_return, line_feed}

-- the octets read of a robots text (RFC 9309, 2.5: at least 500 kibibytes)
abbrev pub text_limit : ℕ
text_limit = 512000

-- the octet is CR or LF
abbrev pub is_line_end : ℕ → Bool
is_line_end octet = octet == carriage_return || octet == line_feed

-- the octets up to and including the last CR or LF, or none
abbrev pub whole_lines : List ℕ → List ℕ
whole_lines [] = []
whole_lines (octet ∷ octets) =
    if list_any is_line_end (octet ∷ octets) then octet ∷ whole_lines octets else []

-- what is kept of a body: all, or the whole lines within the limit
abbrev pub kept : List ℕ → List ℕ
kept body = if nat_le (length body) text_limit then body else whole_lines (take text_limit body)

-- what is kept of the body is what is kept of the whole input, if known
abbrev pub KeepsSame : Option (List ℕ) → List ℕ → Type 0
KeepsSame None body = Unit {0}
KeepsSame (Some input) body = kept body ≡ kept input

-- a prefix of a body, within the limit, that ends with CR or LF
pub record IsWholeFront (body front : List ℕ) : Type 0 where
  pub rest : List ℕ
  pub split : body ≡ front ++ rest
  pub fits : length front ≤ text_limit
  pub before : List ℕ
  pub last : ℕ
  pub ends : front ≡ before ++ last ∷ []
  pub line_end : is_line_end last ≡ true

-- the longest such prefix, or nothing
pub record IsLongestFront (body front : List ℕ) : Type 0 where
  pub whole : IsWholeFront body front ⊎ ((front ≡ []) × ((other : List ℕ) → IsWholeFront body other → ⊥))
  pub longest : (other : List ℕ) → IsWholeFront body other → length other ≤ length front

-- a text without a leading byte order mark EF BB BF
abbrev pub unmarked : List ℕ → List ℕ
unmarked (a ∷ b ∷ c ∷ text) =
    if a == 239 && b == 187 && c == 191 then text else a ∷ b ∷ c ∷ text
unmarked text = text

-- the lines with one more octet in front, after a CR or not: CR and LF end an empty line, but LF after CR nothing;
-- other octets join the first line
abbrev pub with_octet : Bool → ℕ → List (List ℕ) → List (List ℕ)
with_octet behind_cr octet lines =
    if octet == carriage_return then [] ∷ lines
    else if octet == line_feed then (if behind_cr then lines else [] ∷ lines)
    else onto_first octet lines

-- the lines of a text, after a CR or not
abbrev pub lines_from : Bool → List ℕ → List (List ℕ)
lines_from behind_cr [] = []
lines_from behind_cr (octet ∷ text) = with_octet behind_cr octet (lines_from (octet == carriage_return) text)

-- the lines of a text, without its byte order mark
abbrev pub lines_of : List ℕ → List (List ℕ)
lines_of text = lines_from false (unmarked text)

-- the text begins with LF
abbrev pub begins_with_lf : List ℕ → Bool
begins_with_lf [] = false
begins_with_lf (octet ∷ text) = octet == line_feed

-- a line ends with CR LF, LF, or CR not before LF; the last may lack an end if not empty
abbrev pub EndsLine : (line end rest : List ℕ) → Type 0
EndsLine line end rest =
    (end ≡ carriage_return ∷ line_feed ∷ [])
    ⊎ ((end ≡ carriage_return ∷ []) × (begins_with_lf rest ≡ false))
    ⊎ (end ≡ line_feed ∷ [])
    ⊎ ((end ≡ []) × (rest ≡ []) × (line ≢ []))

-- the text is a line without CR and LF, its end, and a rest
pub record BeginsWithLine (text line : List ℕ) (rest_is : List ℕ → Type 0) : Type 0 where
  pub end : List ℕ
  pub rest : List ℕ
  pub text_is : text ≡ line ++ (end ++ rest)
  pub plain : list_any is_line_end line ≡ false
  pub ends : EndsLine line end rest
  pub goes_on : rest_is rest

-- the text is these lines, each with its end
abbrev pub AreLines : List ℕ → List (List ℕ) → Type 0
AreLines text [] = text ≡ []
AreLines text (line ∷ lines) = BeginsWithLine text line (λ rest. AreLines rest lines)
