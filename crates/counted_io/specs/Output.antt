-- What octets given to a buffer before a sink become.
-- Cited by `Output` and its users.
use Rattle.std.specs.Prelude.{◌≡◌, ℕ, List, ◌++◌, Option, Result, OnOk, OnErr}
use Rattle.std.specs.Io.KnownBytes.{Appends}
use Rattle.counted_io.specs.Device.{failures_after, AppendsPrefix}

-- a prefix of the octets was written, and the others are pending
pub record Passes (old new : Option (List ℕ)) (octets pending : List ℕ) : Type 0 where
  pub front : List ℕ
  pub wrote : Appends old new front
  pub split : octets ≡ front ++ pending

-- a push: the octets pass on after the pending ones, or a write fails after a prefix of all
pub record Pushes
    {T E : Type 0} (written written' : Option (List ℕ)) (failures failures' : ℕ)
    (pending pending' octets : List ℕ) (result : Result T E) : Type 0 where
  pub ok : OnOk result (Passes written written' (pending ++ octets) pending')
  pub err : OnErr result (AppendsPrefix written written' (pending ++ octets))
  pub count : failures' ≡ failures_after failures result
