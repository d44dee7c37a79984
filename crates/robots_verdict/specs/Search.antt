-- How rows are found by text: two lists of places, and each plain row's longest prefix.
-- Cited by `RankedRows`.
use Rattle.std.specs.Prelude.{◌≡◌, ℕ, ◌+◌, ◌<◌, ◌≤◌, Bool, true, false, not, ◌&&◌, ◌==◌, nat_lt, ◌↔◌, Contains, List, [], ◌∷◌, length, map, Option, Some, None, slice_index, if◌then◌else◌}
use Rattle.std.specs.List.Sorted.{IsSortedBy}
use Rattle.std.specs.declared.cmp.Ordering.{Ordering}
use Rattle.std.specs.Ordering.{is_gt, is_lt, nat_cmp, ordering_then}
use Rattle.std.specs.Cmp.Lexicographic.{slice_cmp}
use Rattle.path_normal.specs.Normal.{is_anchored}
use Rattle.path_pattern.specs.Matches.{Matches}
use Rattle.path_pattern.specs.Literals.{has_no_star}
use Rattle.robots_text.specs.Lines.{text_limit}
use Rattle.robots_verdict.specs.declared.ranked_rows.RankedRows.{RankedRows}
use Rattle.robots_verdict.specs.Parents.{parent_of}
use Rattle.robots_verdict.specs.Placed.{Placed}
use Rattle.robots_verdict.specs.Rows.{row_at}

-- one text is a prefix of the other
abbrev pub is_front_of : List ℕ → List ℕ → Bool
is_front_of [] text = true
is_front_of (octet ∷ front) [] = false
is_front_of (octet ∷ front) (first ∷ text) = octet == first && is_front_of front text

-- the length of the common prefix
abbrev pub common : List ℕ → List ℕ → ℕ
common [] other = 0
common (octet ∷ one) [] = 0
common (octet ∷ one) (first ∷ other) = if octet == first then common one other + 1 else 0

-- the pattern is plain: without special characters, and not empty
abbrev pub is_plain_pattern : List ℕ → Bool
is_plain_pattern form = nat_lt 0 (length form) && not (is_anchored form) && has_no_star form

-- the key of a place: the group, then the pattern
abbrev pub key : List Placed → ℕ → List ℕ
key rows place = (row_at rows place).group ∷ (row_at rows place).form

-- plain places in order: by key, and of equal ones the stronger last
abbrev pub compare_plain : List Placed → ℕ → ℕ → Ordering
compare_plain rows one other = ordering_then (slice_cmp nat_cmp (key rows one) (key rows other)) (nat_cmp other one)

-- the places are sorted as plain places
abbrev pub IsPlainOrder : List Placed → List ℕ → Type 0
IsPlainOrder rows places = IsSortedBy (λ one other. is_lt (compare_plain rows one other)) places

-- other places in order: by group, the stronger first
abbrev pub compare_others : List Placed → ℕ → ℕ → Ordering
compare_others rows one other =
    ordering_then (nat_cmp (row_at rows one).group (row_at rows other).group) (nat_cmp one other)

-- the key at an index
abbrev pub key_at : List Placed → List ℕ → ℕ → List ℕ
key_at rows plain index = key rows (slice_index plain index)

-- exactly the first keys, this many, are not after the text
pub record IsCut (rows : List Placed) (places text : List ℕ) (count : ℕ) : Type 0 where
  pub fits : count ≤ length places
  pub below : (k : ℕ) → k < count → is_gt (slice_cmp nat_cmp (key_at rows places k) text) ≡ false
  pub above : (k : ℕ) → count ≤ k → k < length places → is_gt (slice_cmp nat_cmp (key_at rows places k) text) ≡ true

-- of the first indices, the last whose key is a prefix of the text, if any
abbrev pub IsLastBegun : List Placed → List ℕ → ℕ → List ℕ → Option ℕ → Type 0
IsLastBegun rows plain count text None =
    (index : ℕ) → index < count → is_front_of (key_at rows plain index) text ≡ false
IsLastBegun rows plain count text (Some last) =
    (last < count) × (is_front_of (key_at rows plain last) text ≡ true)
    × ((index : ℕ) → index < count → is_front_of (key_at rows plain index) text ≡ true → index ≤ last)

-- the parent of each plain place is its last prefix before it
abbrev pub AreParents : List Placed → List ℕ → List (ℕ × ℕ) → ℕ → Type 0
AreParents rows plain parents count =
    (index : ℕ) → index < count → IsLastBegun rows plain index (key_at rows plain index) (parent_of parents index)

-- all places below the count whose rows are plain, or all whose are not
pub record ArePlaces (rows : List Placed) (plain : Bool) (places : List ℕ) (count : ℕ) : Type 0 where
  pub few : length places ≤ count
  pub are : (place : ℕ)
      → Contains places place ↔ ((place < count) × (is_plain_pattern (row_at rows place).form ≡ plain))

-- the groups of these places
abbrev pub groups_at : List Placed → List ℕ → List ℕ
groups_at rows places = map (λ place. (row_at rows place).group) places

-- among the places is one with the same group and pattern that is as strong
pub record IsStoodFor (rows : List Placed) (places : List ℕ) (place : ℕ) : Type 0 where
  pub by : ℕ
  pub stands : Contains places by
  pub alike : key rows by ≡ key rows place
  pub above : by ≤ place

-- these are some of the places, and each of those is stood for
pub record AreStrongest (rows : List Placed) (places strongest : List ℕ) : Type 0 where
  pub few : length strongest ≤ length places
  pub are : (place : ℕ) → Contains strongest place → Contains places place
  pub each : (place : ℕ) → Contains places place → IsStoodFor rows strongest place

-- plain places sorted by key, the strongest of each group and pattern, with their parents
pub record IsPlainIndex (rows : List Placed) (places : List ℕ) (parents : List (ℕ × ℕ)) : Type 0 where
  pub few : length places ≤ text_limit
  pub are : (place : ℕ)
      → Contains places place → (place < length rows) × (is_plain_pattern (row_at rows place).form ≡ true)
  pub each : (place : ℕ)
      → place < length rows → is_plain_pattern (row_at rows place).form ≡ true → IsStoodFor rows places place
  pub rise : IsPlainOrder rows places
  pub parents_are : AreParents rows places parents (length places)

-- the plain row is of the group, and a prefix of the path
pub record IsPlainHit (rows : List Placed) (group : ℕ) (path : List ℕ) (place : ℕ) : Type 0 where
  pub within : place < length rows
  pub plain : is_plain_pattern (row_at rows place).form ≡ true
  pub in_group : (row_at rows place).group ≡ group
  pub begun : is_front_of (row_at rows place).form path ≡ true

-- the other places sorted by group, each with its group
pub record IsOtherIndex (rows : List Placed) (places groups : List ℕ) : Type 0 where
  pub are : (place : ℕ)
      → Contains places place ↔ ((place < length rows) × (is_plain_pattern (row_at rows place).form ≡ false))
  pub rise : IsSortedBy (λ one other. is_lt (compare_others rows one other)) places
  pub groups_are : groups ≡ groups_at rows places

-- the other row is of the group, and matches the path
pub record IsOtherHit (rows : List Placed) (group : ℕ) (path : List ℕ) (place : ℕ) : Type 0 where
  pub within : place < length rows
  pub other : is_plain_pattern (row_at rows place).form ≡ false
  pub in_group : (row_at rows place).group ≡ group
  pub matches : Matches (row_at rows place).form path

-- the row is of the group, and matches the path
pub record IsHitIn (rows : List Placed) (group : ℕ) (path : List ℕ) (place : ℕ) : Type 0 where
  pub within : place < length rows
  pub in_group : (row_at rows place).group ≡ group
  pub matches : Matches (row_at rows place).form path

-- the place found so far
abbrev pub IsFound : Option ℕ → ℕ → Type 0
IsFound found place = found ≡ Some place

-- the place found so far has a stronger row
abbrev pub IsAbove : Option ℕ → ℕ → Type 0
IsAbove None place = ⊥
IsAbove (Some found) place = found < place

-- exactly the first groups, this many, are before this one
pub record IsGroupCut (groups : List ℕ) (group count : ℕ) : Type 0 where
  pub fits : count ≤ length groups
  pub below : (k : ℕ) → k < count → slice_index groups k < group
  pub above : (k : ℕ) → count ≤ k → k < length groups → group ≤ slice_index groups k

-- no place between the indices is an other hit
abbrev pub IsPassed : List Placed → List ℕ → ℕ → List ℕ → ℕ → ℕ → Type 0
IsPassed rows places group path start index =
    (k : ℕ) → start ≤ k → k < index → IsOtherHit rows group path (slice_index places k) → ⊥

-- both lists of places are the rows'
pub record IsSearchable (rows : List Placed) (ranks : RankedRows) : Type 0 where
  pub plain : IsPlainIndex rows ranks.plain.places.items ranks.plain.parents
  pub others : IsOtherIndex rows ranks.others.places.items ranks.others.groups.items
