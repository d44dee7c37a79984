-- What is read of a source, at once or to its end.
-- Cited by `read_to` and its callers.
use Rattle.std.specs.Prelude.{◌≡◌, ◌≤◌, ◌<◌, ℕ, List, ◌++◌, length, Option, Result, Ok, Err}
use Rattle.std.specs.Io.KnownBytes.{Consumes, IsAtEnd}
use Rattle.counted_io.specs.Device.{one_more}
use Rattle.counted_io.specs.declared.next_line.ReadLineFault.{ReadLineFault}
use Rattle.counted_io.specs.declared.next_line.ReadLineFault.TheVariants.{Read, NoMemory}

-- the body is the input, up to this many octets
pub record ReadsTo (most : ℕ) (old new : Option (List ℕ)) (body : List ℕ) : Type 0 where
  pub consumed : Consumes old new body
  pub fits : length body ≤ most
  pub all : length body < most → IsAtEnd new

-- at most a prefix of the input was read, up to this many octets
pub record ReadsFront (most : ℕ) (old new : Option (List ℕ)) : Type 0 where
  pub front : List ℕ
  pub consumed : Consumes old new front
  pub fits : length front ≤ most

-- one read gave these octets: none only at the end
pub record ReadsMore (old new : Option (List ℕ)) (before after : List ℕ) (most : ℕ) : Type 0 where
  pub octets : List ℕ
  pub added : after ≡ before ++ octets
  pub consumed : Consumes old new octets
  pub fits : length octets ≤ most
  pub end : length octets ≡ 0 → IsAtEnd new

-- after one read, whose octets may be lost
pub record ReadsLost (old new : Option (List ℕ)) (most : ℕ) : Type 0 where
  pub octets : List ℕ
  pub consumed : Consumes old new octets
  pub fits : length octets ≤ most

-- the source's failures: one more exactly if a read failed
abbrev pub failures_after_reads : {T : Type 0} → ℕ → Result T ReadLineFault → ℕ
failures_after_reads failures (Ok _) = failures
failures_after_reads failures (Err Read) = one_more failures
failures_after_reads failures (Err NoMemory) = failures
