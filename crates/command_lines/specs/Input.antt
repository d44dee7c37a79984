-- The lines of an input, and what may follow the lines taken.
-- Cited by the definition of a session.
use Rattle.std.specs.Prelude.{◌≡◌, ◌⊎◌, ℕ, ◌<◌, ◌≤◌, List, [], ◌∷◌, ◌++◌, length, map, All, Option, MatchOption, option_to_list, unwrap_or}
use Rattle.std.specs.Io.KnownBytes.{Consumes, IsAtEnd, prepend_known}
use Rattle.counted_io.specs.Lines.{HasNoLineFeed, without_cr, IsDrained, TakesLine, TakesLast, TakesPart, line_feed}

-- lines of an input, each with its line feed
abbrev pub with_line_feeds : List (List ℕ) → List ℕ
with_line_feeds [] = []
with_line_feeds (raw ∷ raws) = (raw ++ line_feed ∷ []) ++ with_line_feeds raws

-- a line without a line feed, at the end of the input
pub record IsLastLine (behind : Option (List ℕ)) (line : List ℕ) : Type 0 where
  pub no_line_feed : HasNoLineFeed line
  pub some : 0 < length line
  pub at_end : IsAtEnd behind

-- the front of an input is these lines, each within the limit, without its line feed and one carriage return before
-- it; a last line may lack a line feed, and is whole
pub record TakesLines (limit : ℕ) (input behind : Option (List ℕ)) (lines : List (List ℕ)) : Type 0 where
  pub raws : List (List ℕ)
  pub last : Option (List ℕ)
  pub no_line_feed : All HasNoLineFeed raws
  pub last_line : MatchOption last (Unit {0}) (IsLastLine behind)
  pub lines_are : lines ≡ map without_cr raws ++ option_to_list last
  pub fit : All (λ line. length line ≤ limit) lines
  pub consumed : Consumes input behind (with_line_feeds raws ++ unwrap_or last [])

-- nothing that follows was taken, and nothing follows unless the session has ended
pub record FindsNoMore (behind : Option (List ℕ)) (unread : List ℕ) (left : Option (List ℕ))
    (has_ended : Type 0) : Type 0 where
  pub kept : Consumes behind (prepend_known unread left) []
  pub none : has_ended ⊎ IsDrained unread left

-- a further line follows, with a line feed or as the last
pub record FindsLine (limit : ℕ) (behind : Option (List ℕ)) (unread : List ℕ) (left : Option (List ℕ)) : Type 0 where
  pub line : List ℕ
  pub taken : TakesLine limit behind (prepend_known unread left) line ⊎ TakesLast limit behind unread left line

-- at most a part of a line follows, up to where reading stopped
pub record FindsPart (behind : Option (List ℕ)) (unread : List ℕ) (left : Option (List ℕ)) : Type 0 where
  pub part : List ℕ
  pub taken : TakesPart behind (prepend_known unread left) part
