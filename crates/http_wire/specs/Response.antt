-- What a response gives, and the cause of each fault, by the whole input.
-- RFC 9112, sections 2 and 6.
use Rattle.std.specs.Prelude.{◌≡◌, ℕ, ◌+◌, ◌<◌, ◌≤◌, ◌⊎◌, Bool, false, true, List, length, take, Option, IfSome, Result, Ok, Err, ⊤, option_map}
use Rattle.httparse.specs.Grammar.{ResponseHead, print_response, status_code}
use Rattle.std.specs.String.{string_bytes}
use Rattle.counted_io.specs.Device.{one_more}
use Rattle.http_wire.specs.Fields.{framing_of, is_coded, IsLocation}
use Rattle.http_wire.specs.Freshness.{HasMaxAge}
use Rattle.http_wire.specs.Heads.{AfterInterims, HasFinal, IsBadHead, IsLongHead, EndsInHead, HasTooManyInterim, head_fields}
use Rattle.http_wire.specs.Bodies.{Gives, EndsInBody, IsBodyPrefix, IsBadBody, InBody}
use Rattle.http_wire.specs.declared.fault.WireFault.{WireFault}
use Rattle.http_wire.specs.declared.fault.WireFault.TheVariants.{EarlyEnd, BadHead, HeadTooLong, TooManyInterim, BadLength, BadChunk, Coding, Device, NoMemory, TooMuch}
use Rattle.http_wire.specs.declared.framing.Framing.{Framing}
use Rattle.http_wire.specs.declared.framing.Unframed.TheVariants as Unframed
use Rattle.http_wire.specs.Limits.{raw_limit}
use Rattle.http_wire.specs.declared.response.HttpReply.{HttpReply}

-- what a reader of the response gets
pub record Reply : Type 0 where
  pub status : ℕ
  pub location : Option (List ℕ)
  pub max_age : Option ℕ
  pub head : List ℕ
  pub body : List ℕ
  pub cut : Bool

-- the input is interim heads, a final head, the reply's body, and the rest
pub record GivesReply (input : List ℕ) (limit : ℕ) (reply : Reply) (rest : List ℕ) : Type 0 where
  pub head : ResponseHead
  pub text : List ℕ
  pub final : HasFinal input head text
  pub framing : Framing
  pub framed : framing_of (status_code head) (head_fields head) ≡ Ok framing
  pub uncoded : is_coded (status_code head) (head_fields head) ≡ false
  pub gives : Gives framing limit text reply.body reply.cut rest
  pub status : reply.status ≡ status_code head
  pub location : IsLocation (head_fields head) reply.location
  pub max_age : HasMaxAge (head_fields head) reply.max_age
  pub octets : reply.head ≡ print_response head

-- the reply is within the longest response
pub record Response (input : List ℕ) (limit : ℕ) (reply : Reply) : Type 0 where
  pub rest : List ℕ
  pub gives : GivesReply input limit reply rest
  pub within : length input ≤ raw_limit limit + length rest

-- the fact holds of the final head
pub record AtFinal (Fact : ResponseHead → Type 0) (input : List ℕ) : Type 0 where
  pub head : ResponseHead
  pub text : List ℕ
  pub final : HasFinal input head text
  pub fact : Fact head

-- the fields of the head give no length
abbrev pub HasBadLength : ResponseHead → Type 0
HasBadLength head = framing_of (status_code head) (head_fields head) ≡ Err Unframed.BadLength

-- the body has a coding that is not read
abbrev pub IsInCoding : ResponseHead → Type 0
IsInCoding head =
    (is_coded (status_code head) (head_fields head) ≡ true)
    ⊎ (framing_of (status_code head) (head_fields head) ≡ Err Unframed.OtherCoding)

-- the input ends inside a head or a body
abbrev pub EndsEarly : List ℕ → ℕ → Type 0
EndsEarly input limit =
    AfterInterims EndsInHead input
    ⊎ InBody (λ framing after. EndsInBody framing limit after) input

-- the input goes on where a response should have ended
pub record IsTooMuch (input : List ℕ) (limit : ℕ) : Type 0 where
  pub more : raw_limit limit < length input
  pub prefix : InBody (λ framing after. IsBodyPrefix framing limit after) (take (raw_limit limit) input)

-- the cause of the fault
abbrev pub Cause : WireFault → List ℕ → ℕ → Type 0
Cause EarlyEnd input limit = EndsEarly input limit
Cause BadHead input limit = AfterInterims IsBadHead input
Cause HeadTooLong input limit = AfterInterims IsLongHead input
Cause TooManyInterim input limit = HasTooManyInterim input
Cause BadLength input limit = AtFinal HasBadLength input
Cause BadChunk input limit = InBody (λ framing after. IsBadBody framing limit after) input
Cause Coding input limit = AtFinal IsInCoding input
Cause Device input limit = ⊤
Cause NoMemory input limit = ⊤
Cause TooMuch input limit = IsTooMuch input limit

-- the code's value as a reply
abbrev pub reply_of : HttpReply → Reply
reply_of reply = record {
  status = reply.status;
  location = option_map string_bytes reply.location;
  max_age = reply.max_age;
  head = reply.head.items;
  body = reply.body.items;
  cut = reply.cut;
}

-- the answer for this input: its reply, or a fault with its cause
abbrev pub AnswersRead : List ℕ → ℕ → Result HttpReply WireFault → Type 0
AnswersRead input limit (Ok reply) = Response input limit (reply_of reply)
AnswersRead input limit (Err fault) = Cause fault input limit

-- the answer for some input, which is what the source has left, if known
pub record Tells (left : Option (List ℕ)) (limit : ℕ) (result : Result HttpReply WireFault) : Type 0 where
  pub input : List ℕ
  pub whole : IfSome left (λ octets. octets ≡ input)
  pub answers : AnswersRead input limit result

-- this reply, or a failure of memory or the device
abbrev pub GivesOrStops : Reply → Result HttpReply WireFault → Type 0
GivesOrStops reply (Ok given) = reply_of given ≡ reply
GivesOrStops reply (Err fault) = (fault ≡ Device) ⊎ (fault ≡ NoMemory)

-- a reply in what the source has left is given
abbrev pub Finds : Option (List ℕ) → ℕ → Result HttpReply WireFault → Type 0
Finds left limit result =
    IfSome left (λ input. (reply : Reply) → Response input limit reply → GivesOrStops reply result)

-- one failure more after a device fault
abbrev pub failures_after_fault : ℕ → WireFault → ℕ
failures_after_fault failures Device = one_more failures
failures_after_fault failures _ = failures

-- the device's failures after this result
abbrev pub failures_after_reading : {T : Type 0} → ℕ → Result T WireFault → ℕ
failures_after_reading failures (Ok _) = failures
failures_after_reading failures (Err fault) = failures_after_fault failures fault
