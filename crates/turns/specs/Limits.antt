-- The limits of a loop.
-- The contracts of `Sizes` and `Moment` cite them.
use Rattle.std.specs.Prelude.{◌≤◌, ◌-◌, ◌^◌, ℕ}

-- the most connections that are open at a time
abbrev pub most_places : ℕ
most_places = 10_000

-- the most workers
abbrev pub most_workers : ℕ
most_workers = 1_040

-- the milliseconds of a deadline that is never over
abbrev pub never : ℕ
never = 2 ^ 64 - 1

-- possible numbers of places, of workers, and of those that may be in slow steps at a time
pub record AreSizes (places workers slow : ℕ) : Type 0 where
  pub some_places : 1 ≤ places
  pub few_places : places ≤ most_places
  pub some_slow : 1 ≤ slow
  pub few_slow : slow ≤ workers
  pub few_workers : workers ≤ most_workers
