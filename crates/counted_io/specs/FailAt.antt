-- A device in memory: its octets, and when it fails.
-- Cited by `FailAt`.
use Rattle.std.specs.Prelude.{◌≡◌, ℕ, zero, suc, List, Option, None, Some, Result, IsErr}
use Rattle.counted_io.specs.declared.fault.DeviceFault.{DeviceFault}

-- its octets, how many it moves a call, and which call fails
pub record Memory : Type 0 where
  pub bytes : List ℕ
  pub unread : List ℕ
  pub per_call : ℕ
  pub fails_at : Option ℕ
  pub failures : ℕ

-- the calls left before the failing one, after a call
abbrev pub one_call_later : Option ℕ → Option ℕ
one_call_later None = None
one_call_later (Some zero) = None
one_call_later (Some (suc calls)) = Some calls

-- the chosen call fails, earlier calls count, and the octets a call stay
pub record FollowsPlan (old new : Memory) (result : Result ℕ DeviceFault) : Type 0 where
  pub chosen : old.fails_at ≡ Some 0 → IsErr result
  pub later : new.fails_at ≡ one_call_later old.fails_at
  pub per_call : new.per_call ≡ old.per_call

-- the same octets, as many a call
pub record HasSameBytes (old new : Memory) : Type 0 where
  pub bytes : new.bytes ≡ old.bytes
  pub unread : new.unread ≡ old.unread
  pub per_call : new.per_call ≡ old.per_call
