-- Lists of places of which some begin with a range of first places.
-- Cited by the merge.
use Rattle.std.specs.Prelude.{◌≡◌, ℕ, ◌+◌, nat_lt, List, map}
use Rattle.authority_cache.specs.Calls.{one_if}
use Rattle.gate_marks.specs.Marks.{Receipt, kept_places, places_of}
use Rattle.gate_marks.specs.Places.{times_in_all}

-- beside single places, the receipts have all places below a number, each once
abbrev pub AreFirst : ℕ → List Receipt → Type 0
AreFirst first rs =
    (place : ℕ) → times_in_all place (map places_of rs)
    ≡ times_in_all place (map kept_places rs) + one_if (nat_lt place first)
