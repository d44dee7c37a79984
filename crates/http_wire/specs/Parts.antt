-- How the reading of a part of a response ends: heads, or a body.
-- Cited by `fill_until`; each part defines what it waits for, gives and refuses.
use Rattle.std.specs.Prelude.{◌≡◌, ℕ, ◌<◌, ◌≤◌, ◌⊎◌, List, length, Option, IfSome}
use Rattle.std.specs.Io.KnownBytes.{IsAtEnd}
use Rattle.http_wire.specs.Reading.{Grows}
use Rattle.http_wire.specs.declared.fault.WireFault.{WireFault}
use Rattle.http_wire.specs.declared.fault.WireFault.TheVariants.{Device, NoMemory}
use Rattle.http_wire.specs.declared.part.Reached.{Reached}
use Rattle.http_wire.specs.declared.part.Reached.TheVariants.{Parsed, Ended, Past}

-- the octets received, at most as many as a response may have, give this and leave the others in the buffer
pub record IsFoundIn {T : Type 0} (most : ℕ)
    (gives : List ℕ → List ℕ → T → Type 0) (left left' : Option (List ℕ)) (old new : List ℕ) (found : T) : Type 0 where
  pub seen : List ℕ
  pub grows : Grows left left' old seen
  pub few : length seen ≤ most
  pub given : gives seen new found

-- the input ended while the part still waits
pub record EndsWaiting (most : ℕ) (waits : List ℕ → Type 0) (left left' : Option (List ℕ)) (old new : List ℕ)
    : Type 0 where
  pub before : Option (List ℕ)
  pub came : Grows left before old new
  pub ended : IsAtEnd before
  pub grows : Grows left left' old new
  pub few : length new ≤ most
  pub waiting : waits new

-- the buffer is full, the part still waits, and the input goes on
pub record GoesOnWaiting (most : ℕ) (waits : List ℕ → Type 0) (left : Option (List ℕ)) (old new : List ℕ) : Type 0 where
  pub before : Option (List ℕ)
  pub came : Grows left before old new
  pub more : IfSome before (λ octets. 0 < length octets)
  pub full : length new ≡ most
  pub waiting : waits new

-- the state when the reading of a part ends
abbrev pub Stops : {T : Type 0} → ℕ → (List ℕ → Type 0) → (List ℕ → List ℕ → T → Type 0) → Option (List ℕ)
    → Option (List ℕ) → List ℕ → List ℕ → Reached T → Type 0
Stops most waits gives left left' old new (Parsed found) = IsFoundIn most gives left left' old new found
Stops most waits gives left left' old new Ended = EndsWaiting most waits left left' old new
Stops most waits gives left left' old new Past = GoesOnWaiting most waits left old new

-- why it breaks off: the part refuses, a read failed, or memory ran out
pub record Breaks (refuses : List ℕ → WireFault → Type 0) (left : Option (List ℕ)) (old : List ℕ)
    (fault : WireFault) : Type 0 where
  pub before : Option (List ℕ)
  pub seen : List ℕ
  pub came : Grows left before old seen
  pub cause : refuses seen fault ⊎ (fault ≡ Device) ⊎ (fault ≡ NoMemory)
