-- A tape in memory as its callers see it.
-- Cited by `MemoryTape`.
use Rattle.std.specs.Prelude.{ℕ, List, Option}

-- its octets, how many survive a crash, which call fails, and how many failed
pub record Taped : Type 0 where
  pub bytes : List ℕ
  pub kept : ℕ
  pub fails_at : Option ℕ
  pub failures : ℕ
