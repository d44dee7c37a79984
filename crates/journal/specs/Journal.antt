-- A journal as its callers see it, and the effects of its calls.
-- Cited by `Journal`.
use Rattle.std.specs.Prelude.{◌≡◌, ℕ, ◌≤◌, List, Option, Bool, true, false, Result, if◌then◌else◌}
use Rattle.std.specs.Io.KnownBytes.{Appends}
use Rattle.counted_io.specs.Device.{failures_after, AppendsPrefix}
use Rattle.journal.specs.Crash.{HasKept}

-- the tape's octets, how many survive any crash, how many calls failed, and whether one did for good
pub record Noted : Type 0 where
  pub written : Option (List ℕ)
  pub kept : ℕ
  pub failures : ℕ
  pub failed : Bool

-- the octets were appended, and nothing failed
pub record Writes (old new : Noted) (octets : List ℕ) : Type 0 where
  pub worked : old.failed ≡ false
  pub works : new.failed ≡ false
  pub wrote : Appends old.written new.written octets
  pub least : old.kept ≤ new.kept

-- the octets were appended, and everything survives any crash
pub record Commits (old new : Noted) (octets : List ℕ) : Type 0 where
  pub writes : Writes old new octets
  pub all : HasKept new.written new.kept

-- a prefix of the octets was written, and the journal failed for good
pub record Fails (old new : Noted) (octets : List ℕ) : Type 0 where
  pub front : AppendsPrefix old.written new.written octets
  pub least : old.kept ≤ new.kept
  pub failed : new.failed ≡ true

-- the tape's failures after a call of its journal, which uses the tape only if it has not failed
abbrev pub failures_unless : {T E : Type 0} → Noted → Result T E → ℕ
failures_unless old result = if old.failed then old.failures else failures_after old.failures result
