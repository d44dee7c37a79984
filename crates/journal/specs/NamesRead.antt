-- Which of a journal's files a start reads, by their names in order: from the last base but one on.
-- Used by `FoundNames`.
use Rattle.std.specs.Prelude.{◌==◌, ◌&&◌, ◌+◌, ℕ, Bool, List, [], ◌∷◌, if◌then◌else◌, length, nat_le, string_bytes}
use Rattle.std.specs.declared.string.String.{String}

-- a base has twenty digits and nothing else; a log has more
abbrev pub is_base : {A : Type 0} → String A → Bool
is_base name = length (string_bytes name) == 20

-- how many names are those of bases
abbrev pub base_count : {A : Type 0} → List (String A) → ℕ
base_count [] = 0
base_count (name ∷ names) = if is_base name then base_count names + 1 else base_count names

-- the names from the last base but one on, or from the only one
abbrev pub from_last_but_one : {A : Type 0} → List (String A) → List (String A)
from_last_but_one [] = []
from_last_but_one (name ∷ names) =
    if is_base name && nat_le (base_count names) 1 then name ∷ names else from_last_but_one names

-- the names of the files that a start reads: of all, if none is a base
abbrev pub names_read : {A : Type 0} → List (String A) → List (String A)
names_read names = if base_count names == 0 then names else from_last_but_one names
