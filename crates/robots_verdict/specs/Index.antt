-- How the parts of a policy relate to its text.
-- Cited by `Index`, and by readers of its rows.
use Rattle.std.specs.Prelude.{ℕ, ◌<◌, ◌≤◌, Contains, List, length, Option, Some, None}
use Rattle.std.specs.List.Sorted.{IsPermutation, IsSortedBy}
use Rattle.path_pattern.specs.Matches.{Matches}
use Rattle.robots_text.specs.Grouped.{grouped_records}
use Rattle.robots_verdict.specs.declared.index.Index.{Index}
use Rattle.robots_verdict.specs.Placed.{everybody_in, named_in, Names, Placed, placed_in, Table}
use Rattle.robots_verdict.specs.Rows.{is_row_above, row_at}
use Rattle.robots_verdict.specs.Search.{IsSearchable}

-- the rows are the text's rule lines, strongest first, and the names are its names
pub record IsIndex (text : List ℕ) (table : Table) (names : Names) : Type 0 where
  pub rows : IsPermutation (placed_in (grouped_records text)) table.rows
  pub falling : IsSortedBy is_row_above table.rows
  pub named : IsPermutation (named_in (grouped_records text)) names.named
  pub everybody : IsPermutation (everybody_in (grouped_records text)) names.everybody

-- the index of the text, by which its rows are found
abbrev pub IsIndexOf : List ℕ → Index → Type 0
IsIndexOf text index = IsIndex text index.rows index.heads × IsSearchable index.rows.rows index.ranks

-- the row is of one of these groups, and matches the path
pub record IsHit (rows : List Placed) (groups path : List ℕ) (place : ℕ) : Type 0 where
  pub within : place < length rows
  pub governs : Contains groups (row_at rows place).group
  pub matches : Matches (row_at rows place).form path

-- the smallest number that passes, if any
abbrev pub FindsLeast : (ℕ → Type 0) → Option ℕ → Type 0
FindsLeast Test None = (place : ℕ) → Test place → ⊥
FindsLeast Test (Some least) = Test least × ((place : ℕ) → Test place → least ≤ place)
