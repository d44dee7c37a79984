-- The limits of a line of jobs, which the code's constants equal.
use Rattle.std.specs.Prelude.{ℕ, ◌≤◌}

-- the most jobs of a line
abbrev pub max_jobs : ℕ
max_jobs = 4096

-- the most workers of a line
abbrev pub max_workers : ℕ
max_workers = 16

-- this many workers may share a line
abbrev pub IsCrew : ℕ → Type 0
IsCrew workers = (1 ≤ workers) × (workers ≤ max_workers)
