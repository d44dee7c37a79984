-- The outstanding permits of each authority, counted beside the table of permits.
-- Used by `PlaceCounts`.
use Rattle.std.specs.Prelude.{◌≡◌, ℕ, ◌+◌, ◌-◌, IfNone, IfSome, List, None, Some, if◌then◌else◌, slice_get, string_bytes, unwrap_or}
use Rattle.std.specs.HashMap.{get_by_text}
use Rattle.std.specs.Str.{bytes_eq}
use Rattle.std.specs.declared.string.String.{String}
use Rattle.std.specs.declared.alloc.Global.{Global}
use Rattle.permit_book.specs.declared.out.SlotContent.{SlotContent}
use Rattle.permit_book.specs.Table.{one_for}
use Rattle.gate_core.specs.declared.place_counts.Count.{Count}
use Rattle.gate_core.specs.declared.place_counts.PlaceCounts.{PlaceCounts}

-- the outstanding permits by authority
abbrev pub HeldBy : Type 0
HeldBy = List ℕ → ℕ

-- the count of an authority
abbrev pub held_by : PlaceCounts → HeldBy
held_by places authority = unwrap_or (get_by_text places.by_authority authority) 0

-- an authority's index among the counts, and its count; or no index
pub record IsCount (places : PlaceCounts) (authority : List ℕ) (held : Count) : Type 0 where
  pub some : IfSome held.index
      (λ i. (name : String Global) × (slice_get places.by_authority.entries i ≡ Some (name, held.count))
      × (string_bytes name ≡ authority))
  pub none : IfNone held.index (get_by_text places.by_authority authority ≡ None)
  pub count : held.count ≡ held_by places authority

-- 1 for the same authority, else 0
abbrev pub one_at : List ℕ → List ℕ → ℕ
one_at authority other = if bytes_eq authority other then 1 else 0

-- one more is counted for this authority only
abbrev pub AddsOne : HeldBy → List ℕ → HeldBy → Type 0
AddsOne old authority new = (other : List ℕ) → new other ≡ old other + one_at authority other

-- one less is counted for this authority only
abbrev pub TakesOne : HeldBy → List ℕ → HeldBy → Type 0
TakesOne old authority new = (other : List ℕ) → new other ≡ old other - one_at authority other

-- what was outstanding is no longer counted
abbrev pub LeavesPlace : HeldBy → SlotContent → HeldBy → Type 0
LeavesPlace old out new = (authority : List ℕ) → new authority ≡ old authority - one_for authority out
