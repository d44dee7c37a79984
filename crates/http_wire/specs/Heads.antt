-- Heads of responses: interim heads, which are skipped, and the final one.
-- RFC 9112, sections 2 to 5; RFC 9110, section 15.2.
use Rattle.std.specs.Prelude.{◌≡◌, ℕ, ◌+◌, ◌<◌, ◌≤◌, ◌⊎◌, Bool, ◌&&◌, ◌||◌, nat_lt, nat_le, ◌==◌, IsTrue, false, List, ◌++◌, length, map, take, All, count_by, flat_map}
use Rattle.httparse.specs.Ascii.{line_feed}
use Rattle.httparse.specs.Grammar.{ResponseHead, IsResponseHead, print_response, status_code, HasNoResponse, NeverHasResponse, MayBecomeResponse}
use Rattle.httparse.specs.Spans.{name_and_value}
use Rattle.http_wire.specs.Fields.{Pair}
use Rattle.http_wire.specs.Limits.{max_head, max_header_lines, max_interim_heads}

-- the names and the values of a head's fields
abbrev pub head_fields : ResponseHead → List Pair
head_fields head = map name_and_value head.fields

-- a head within the limits
pub record IsHead (head : ResponseHead) : Type 0 where
  pub valid : IsResponseHead head
  pub lines : length head.fields ≤ max_header_lines
  pub octets : length (print_response head) ≤ max_head

-- the text is that head and then the rest
pub record HasHead (text : List ℕ) (head : ResponseHead) (rest : List ℕ) : Type 0 where
  pub is : IsHead head
  pub parts : text ≡ print_response head ++ rest

-- 100, and 102 to 199
abbrev pub is_interim : ℕ → Bool
is_interim status = (status == 100) || (nat_lt 101 status && nat_lt status 200)

-- 200 to 999
abbrev pub is_final : ℕ → Bool
is_final status = nat_le 200 status

-- an interim head within the limits
pub record IsInterim (head : ResponseHead) : Type 0 where
  pub is : IsHead head
  pub status : IsTrue (is_interim (status_code head))

-- the text is these interim heads and then the rest
pub record HasInterims (heads : List ResponseHead) (text rest : List ℕ) : Type 0 where
  pub are : All IsInterim heads
  pub parts : text ≡ flat_map print_response heads ++ rest

-- the fact holds after interim heads, at most the limit
pub record AfterInterims (Fact : List ℕ → Type 0) (text : List ℕ) : Type 0 where
  pub heads : List ResponseHead
  pub rest : List ℕ
  pub few : length heads ≤ max_interim_heads
  pub passed : HasInterims heads text rest
  pub fact : Fact rest

-- the text begins with a head of a final status
pub record BeginsFinal (head : ResponseHead) (after text : List ℕ) : Type 0 where
  pub has : HasHead text head after
  pub status : IsTrue (is_final (status_code head))

-- the text's final head, and what follows it
abbrev pub HasFinal : List ℕ → ResponseHead → List ℕ → Type 0
HasFinal text head after = AfterInterims (BeginsFinal head after) text

-- the first head's status is neither interim nor final
pub record HasStrangeStatus (text : List ℕ) : Type 0 where
  pub head : ResponseHead
  pub rest : List ℕ
  pub has : HasHead text head rest
  pub status : (is_interim (status_code head) || is_final (status_code head)) ≡ false

-- no acceptable head begins the text, whatever follows
abbrev pub IsBadHead : List ℕ → Type 0
IsBadHead text = NeverHasResponse text ⊎ HasStrangeStatus text

-- the number of line ends
abbrev pub line_ends : List ℕ → ℕ
line_ends text = count_by (λ octet. octet == line_feed) text

-- no head within the limits begins the text, which has too many octets or lines
pub record IsLongHead (text : List ℕ) : Type 0 where
  pub none : (head : ResponseHead) (rest : List ℕ) → ¬ (HasHead text head rest)
  pub long : (max_head ≤ length text) ⊎ (max_header_lines < line_ends (take max_head text))

-- the text ends in a head that may yet be within the limits
pub record EndsInHead (text : List ℕ) : Type 0 where
  pub none : HasNoResponse text
  pub unfinished : MayBecomeResponse text
  pub octets : length text < max_head
  pub lines : line_ends text ≤ max_header_lines

-- one interim head more than the limit
pub record HasTooManyInterim (text : List ℕ) : Type 0 where
  pub heads : List ResponseHead
  pub rest : List ℕ
  pub many : length heads ≡ max_interim_heads + 1
  pub passed : HasInterims heads text rest
