-- What the reader of heads finds in the octets received.
-- Cited by `head`.
use Rattle.std.specs.Prelude.{◌≡◌, ℕ, ◌*◌, ◌+◌, ◌<◌, ◌≤◌, ◌⊎◌, Bool, ◌||◌, false, true, IsTrue, List, ◌++◌, length, take, drop, Option, Some, None, option_map, Ok, Err, ⊤}
use Rattle.std.specs.String.{string_bytes}
use Rattle.httparse.specs.Grammar.{ResponseHead, print_response, status_code, HasNoResponse, NeverHasResponse, MayBecomeResponse}
use Rattle.httparse.specs.Spans.{IsResponseAt, IsResponseWithin, ResponseOverflows, ResponseExceeds}
use Rattle.httparse.specs.declared.spans.HeaderSpan.{HeaderSpan}
use Rattle.httparse.specs.declared.spans.ResponseSpans.{ResponseSpans}
use Rattle.http_wire.specs.Fields.{Pair, framing_of, is_coded, IsLocation}
use Rattle.http_wire.specs.Freshness.{HasMaxAge}
use Rattle.http_wire.specs.Options.{persists}
use Rattle.http_wire.specs.Heads.{HasFinal, HasInterims, IsHead, head_fields, is_interim, is_final}
use Rattle.http_wire.specs.Reading.{IsWhole}
use Rattle.http_wire.specs.Response.{Cause}
use Rattle.http_wire.specs.declared.fault.WireFault.{WireFault}
use Rattle.http_wire.specs.declared.fault.WireFault.TheVariants.{EarlyEnd, BadHead, HeadTooLong, TooManyInterim, BadLength, BadChunk, Coding, Device, NoMemory, TooMuch}
use Rattle.http_wire.specs.declared.framing.Unframed.TheVariants as Unframed
use Rattle.http_wire.specs.declared.head.Class.{Class}
use Rattle.http_wire.specs.declared.head.Class.TheVariants as classes
use Rattle.http_wire.specs.declared.head.FinalHead.{FinalHead}
use Rattle.http_wire.specs.declared.head.HeadFinder.{HeadFinder}
use Rattle.http_wire.specs.declared.head.Parsed.{Parsed}
use Rattle.http_wire.specs.declared.head.Parsed.TheVariants as parsed
use Rattle.http_wire.specs.declared.head.Seen.{Seen}
use Rattle.http_wire.specs.declared.head.Seen.TheVariants as seen
use Rattle.http_wire.specs.Limits.{max_head, max_header_lines, max_interim_heads}

-- the text begins with a head within the limits, whose parts the spans cover
pub record IsHeadAt (text : List ℕ) (headers : List HeaderSpan) (spans : ResponseSpans)
    (head : ResponseHead) : Type 0 where
  pub is : IsHead head
  pub at : IsResponseAt text headers spans head
  pub within : IsResponseWithin text headers spans

-- what the parser finds in the text
abbrev pub Parses : List ℕ → List HeaderSpan → Parsed → Type 0
Parses text headers (parsed.Head spans) = (head : ResponseHead) × IsHeadAt text headers spans head
Parses text headers parsed.Open = HasNoResponse text × MayBecomeResponse text
Parses text headers parsed.TooMany = ResponseOverflows max_header_lines text × ResponseExceeds max_header_lines text
Parses text headers parsed.Bad = NeverHasResponse text

-- the class of the status
abbrev pub IsClass : ℕ → Class → Type 0
IsClass status classes.Interim = IsTrue (is_interim status)
IsClass status classes.Final = IsTrue (is_final status)
IsClass status classes.Strange = (is_interim status || is_final status) ≡ false

-- the finder's place follows the interim heads skipped
pub record Passes (finder : HeadFinder) (bytes : List ℕ) : Type 0 where
  pub heads : List ResponseHead
  pub passed : HasInterims heads bytes (drop finder.at bytes)
  pub count : length heads ≡ finder.passed
  pub few : finder.passed ≤ max_interim_heads
  pub within : finder.at ≤ length bytes
  pub soon : finder.at ≤ finder.passed * max_head

-- the text from the finder's place on, up to the longest head
pub record LooksAt (finder : HeadFinder) (bytes text : List ℕ) : Type 0 where
  pub passes : Passes finder bytes
  pub prefix : text ≡ take max_head (drop finder.at bytes)

-- the text is a prefix of a head, shorter than the longest
pub record IsHeadPrefix (text : List ℕ) : Type 0 where
  pub none : HasNoResponse text
  pub unfinished : MayBecomeResponse text
  pub octets : length text < max_head

-- the finder found this final head in the bytes
pub record IsFound (bytes : List ℕ) (found : FinalHead) : Type 0 where
  pub head : ResponseHead
  pub final : HasFinal bytes head (drop found.end bytes)
  pub within : found.end ≤ length bytes
  pub framed : framing_of (status_code head) (head_fields head) ≡ Ok found.framing
  pub uncoded : is_coded (status_code head) (head_fields head) ≡ false
  pub status : found.status ≡ status_code head
  pub location : IsLocation (head_fields head) (option_map string_bytes found.location)
  pub max_age : HasMaxAge (head_fields head) found.max_age
  pub persists : found.persists ≡ persists head.minor (head_fields head)
  pub octets : found.octets.items ≡ print_response head

-- the fault's cause, whatever follows and whatever the limit
abbrev pub Faults : List ℕ → WireFault → Type 0
Faults bytes fault = (more : List ℕ) (limit : ℕ) → Cause fault (bytes ++ more) limit

-- the result of one look at the bytes
abbrev pub SeesHead : List ℕ → Bool → ℕ → HeadFinder → Seen → Type 0
SeesHead bytes last passed finder (seen.Final found) = IsFound bytes found
SeesHead bytes last passed finder seen.Interim = Passes finder bytes × (finder.passed ≡ passed + 1)
SeesHead bytes last passed finder seen.More =
    Passes finder bytes × (length bytes < finder.at + max_head)
    × (IsTrue last → IsHeadPrefix (drop finder.at bytes))

-- what looks find: the final head, or that octets are missing
abbrev pub FindsHead : List ℕ → Bool → HeadFinder → Option FinalHead → Type 0
FindsHead bytes last finder (Some found) = IsFound bytes found
FindsHead bytes last finder None =
    Passes finder bytes × (length bytes < finder.at + max_head)
    × (IsTrue last → IsHeadPrefix (drop finder.at bytes))

-- the fault of some input of the source, whatever the limit
pub record Fails (left : Option (List ℕ)) (seen : List ℕ) (fault : WireFault) : Type 0 where
  pub input : List ℕ
  pub whole : IsWhole left seen input
  pub cause : (limit : ℕ) → Cause fault input limit

-- the plan by this status, this minor version, these fields and the text of their head
pub record IsPlan (code minor : ℕ) (fields : List Pair) (text : List ℕ) (end : ℕ) (found : FinalHead) : Type 0 where
  pub framed : framing_of code fields ≡ Ok found.framing
  pub uncoded : is_coded code fields ≡ false
  pub status : found.status ≡ code
  pub location : IsLocation fields (option_map string_bytes found.location)
  pub max_age : HasMaxAge fields found.max_age
  pub persists : found.persists ≡ persists minor fields
  pub octets : found.octets.items ≡ text
  pub end_is : found.end ≡ end

-- why there is no plan
abbrev pub HasNoPlan : ℕ → List Pair → WireFault → Type 0
HasNoPlan status fields BadLength = framing_of status fields ≡ Err Unframed.BadLength
HasNoPlan status fields Coding =
    (is_coded status fields ≡ true) ⊎ (framing_of status fields ≡ Err Unframed.OtherCoding)
HasNoPlan status fields NoMemory = ⊤
HasNoPlan status fields EarlyEnd = ⊥
HasNoPlan status fields BadHead = ⊥
HasNoPlan status fields HeadTooLong = ⊥
HasNoPlan status fields TooManyInterim = ⊥
HasNoPlan status fields BadChunk = ⊥
HasNoPlan status fields Device = ⊥
HasNoPlan status fields TooMuch = ⊥
