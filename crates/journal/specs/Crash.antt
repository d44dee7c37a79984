-- What a crash leaves of appended octets.
-- Cited by `Tape`, `Journal` and the law of whole lines.
use Rattle.std.specs.Prelude.{◌≡◌, ℕ, ◌≤◌, List, length, take, Option, Some, None, ⊤}

-- all that was written survives any crash, if known
abbrev pub HasKept : Option (List ℕ) → ℕ → Type 0
HasKept None kept = ⊤
HasKept (Some octets) kept = length octets ≤ kept

-- a crash leaves a prefix of what was written, with at least what was kept: in a crash during a call, what is written
-- after it, and what was kept before it
pub record MayLeave (written : List ℕ) (kept : ℕ) (left : List ℕ) : Type 0 where
  pub size : ℕ
  pub least : kept ≤ size
  pub front : left ≡ take size written
