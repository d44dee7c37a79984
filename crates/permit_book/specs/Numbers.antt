-- The numbers of permits and their limits.
-- Used by `PermitNo`, and by the definition of a legal history.
use Rattle.std.specs.Prelude.{ℕ, ◌+◌, ◌*◌, ◌/◌, ◌%◌}

-- the most slots of a table
abbrev pub most_slots : ℕ
most_slots = 65536

-- the last generation of a slot
abbrev pub last_generation : ℕ
last_generation = 281474976710655

-- the numbers of a generation, one for each possible slot
abbrev pub numbers_of_generation : ℕ
numbers_of_generation = 65536

-- the slot of a permit's number
abbrev pub slot_of : ℕ → ℕ
slot_of number = number % numbers_of_generation

-- the generation of a permit's number
abbrev pub generation_of : ℕ → ℕ
generation_of number = number / numbers_of_generation

-- the number of a generation's grant in a slot
abbrev pub number_in : ℕ → ℕ → ℕ
number_in slot generation = generation * numbers_of_generation + slot
