-- One request and its response, at a writer and a reader.
-- Used by `exchange`.
use Rattle.std.specs.Prelude.{◌≡◌, ◌⊎◌, ℕ, List, Option, Result, Err}
use Rattle.std.specs.Io.KnownBytes.{Appends}
use Rattle.counted_io.specs.Device.{one_more, AppendsPrefix}
use Rattle.http_wire.specs.declared.fault.WireFault.{WireFault}
use Rattle.http_wire.specs.declared.fault.WireFault.TheVariants.{Device}
use Rattle.http_wire.specs.declared.response.HttpReply.{HttpReply}
use Rattle.http_wire.specs.Response.{Tells, Finds, failures_after_reading}

-- a write fails: part of the request is written, and nothing is read
pub record IsUnsent
    (request : List ℕ) (written written' : Option (List ℕ)) (writes writes' reads reads' : ℕ)
    (result : Result HttpReply WireFault) : Type 0 where
  pub fault : result ≡ Err Device
  pub wrote : AppendsPrefix written written' request
  pub write_count : writes' ≡ one_more writes
  pub read_count : reads' ≡ reads

-- the request is written, and the reader's octets give the result
pub record IsAnswered
    (request : List ℕ) (limit : ℕ) (written written' : Option (List ℕ)) (writes writes' : ℕ)
    (left : Option (List ℕ)) (reads reads' : ℕ) (result : Result HttpReply WireFault) : Type 0 where
  pub wrote : Appends written written' request
  pub tells : Tells left limit result
  pub found : Finds left limit result
  pub write_count : writes' ≡ writes
  pub read_count : reads' ≡ failures_after_reading reads result

-- unsent or answered
abbrev pub Exchanges :
    List ℕ → ℕ → Option (List ℕ) → Option (List ℕ) → ℕ → ℕ → Option (List ℕ) → ℕ → ℕ
    → Result HttpReply WireFault → Type 0
Exchanges request limit written written' writes writes' left reads reads' result =
    IsUnsent request written written' writes writes' reads reads' result
    ⊎ IsAnswered request limit written written' writes writes' left reads reads' result
