-- What reads of a source leave, and what the reader's parts answer for the whole input.
-- Cited by their contracts.
use Rattle.std.specs.Prelude.{◌≡◌, ℕ, ◌+◌, ◌-◌, ◌<◌, ◌≤◌, List, [], ◌++◌, length, drop, take, Option, None, Some, IfSome, Result, Ok, Err, ⊤}
use Rattle.std.specs.Io.KnownBytes.{Consumes, IsAtEnd}
use Rattle.http_wire.specs.Bodies.{Gives, EndsInBody, IsBodyPrefix, IsBadBody}
use Rattle.http_wire.specs.declared.body.Body.{Body}
use Rattle.http_wire.specs.declared.buffer.Fill.{Fill}
use Rattle.http_wire.specs.declared.buffer.Fill.TheVariants.{More, Ended, Past}
use Rattle.http_wire.specs.declared.fault.WireFault.{WireFault}
use Rattle.http_wire.specs.declared.fault.WireFault.TheVariants.{EarlyEnd, BadHead, HeadTooLong, TooManyInterim, BadLength, BadChunk, Coding, Device, NoMemory, TooMuch}
use Rattle.http_wire.specs.declared.framing.Framing.{Framing}
use Rattle.http_wire.specs.Limits.{raw_limit}

-- the buffer grew by what the source gave
pub record Grows (left left' : Option (List ℕ)) (old new : List ℕ) : Type 0 where
  pub piece : List ℕ
  pub read : Consumes left left' piece
  pub grown : new ≡ old ++ piece

-- no more than so many octets were taken from a source, whatever the answer
abbrev pub TakesAtMost : ℕ → Option (List ℕ) → Option (List ℕ) → Type 0
TakesAtMost most None left' = ⊤
TakesAtMost most (Some octets) None = ⊥
TakesAtMost most (Some octets) (Some octets') = length octets ≤ most + length octets'

-- no more than what is missing in the buffer to the longest response, and one octet that shows that there are more
abbrev pub TakesTheRest : ℕ → List ℕ → Option (List ℕ) → Option (List ℕ) → Type 0
TakesTheRest most old left left' = TakesAtMost (most + 1 - length old) left left'

-- the effect of a call that fills the buffer up to as many octets as a response may have, by its answer
abbrev pub Fills : ℕ → Option (List ℕ) → Option (List ℕ) → List ℕ → List ℕ → Fill → Type 0
Fills most left left' old new More = Grows left left' old new × (length old < length new)
Fills most left left' old new Ended = IsAtEnd left × (new ≡ old) × Grows left left' old new
Fills most left left' old new Past =
    IfSome left (λ octets. 0 < length octets) × (length old ≡ most) × (new ≡ old)

-- the input is what was seen and any known rest of the source
pub record IsWhole (left : Option (List ℕ)) (seen input : List ℕ) : Type 0 where
  pub more : List ℕ
  pub parts : input ≡ seen ++ more
  pub known : IfSome left (λ octets. octets ≡ more)

-- a body in the input from a place on, within the longest response
pub record HasBody (framing : Framing) (limit start : ℕ) (input : List ℕ) (body : Body) : Type 0 where
  pub rest : List ℕ
  pub gives : Gives framing limit (drop start input) body.octets.items body.cut rest
  pub within : length input ≤ raw_limit limit + length rest

-- the input goes on where the body should have ended
pub record GoesOn (framing : Framing) (limit start : ℕ) (input : List ℕ) : Type 0 where
  pub more : raw_limit limit < length input
  pub prefix : IsBodyPrefix framing limit (drop start (take (raw_limit limit) input))

-- the fault's cause: no body from a place on
abbrev pub HasNoBody : WireFault → Framing → ℕ → ℕ → List ℕ → Type 0
HasNoBody EarlyEnd framing limit start input = EndsInBody framing limit (drop start input)
HasNoBody BadHead framing limit start input = ⊥
HasNoBody HeadTooLong framing limit start input = ⊥
HasNoBody TooManyInterim framing limit start input = ⊥
HasNoBody BadLength framing limit start input = ⊥
HasNoBody BadChunk framing limit start input = IsBadBody framing limit (drop start input)
HasNoBody Coding framing limit start input = ⊥
HasNoBody Device framing limit start input = ⊤
HasNoBody NoMemory framing limit start input = ⊤
HasNoBody TooMuch framing limit start input = GoesOn framing limit start input

-- all that was seen of the source ends with the body from a place on
pub record EndsWith (framing : Framing) (limit start : ℕ) (left left' : Option (List ℕ)) (old : List ℕ) (body : Body)
    : Type 0 where
  pub seen : List ℕ
  pub grows : Grows left left' old seen
  pub gives : Gives framing limit (drop start seen) body.octets.items body.cut []

-- the answer for the input's body from a place on
abbrev pub TellsBody : Framing → ℕ → ℕ → List ℕ → Result Body WireFault → Type 0
TellsBody framing limit start input (Ok body) = HasBody framing limit start input body
TellsBody framing limit start input (Err fault) = HasNoBody fault framing limit start input

-- the answer for the body of some input that begins as seen
pub record ReadsBody
    (framing : Framing) (limit start : ℕ) (left : Option (List ℕ)) (seen : List ℕ)
    (result : Result Body WireFault) : Type 0 where
  pub input : List ℕ
  pub whole : IsWhole left seen input
  pub tells : TellsBody framing limit start input result
