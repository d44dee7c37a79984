-- What looks at the octets of a body see.
-- Cited by `BodyDecoder`.
use Rattle.std.specs.Prelude.{◌≡◌, ℕ, ◌<◌, ◌≤◌, ◌⊎◌, Bool, false, true, IsTrue, List, [], ◌++◌, length, ⊤}
use Rattle.http_wire.specs.Bodies.{Gives, GivesFirst, IsBadBody}
use Rattle.http_wire.specs.Chunks.{EndsInChunked, EndsTooLong}
use Rattle.http_wire.specs.Decoding.{Stands}
use Rattle.http_wire.specs.declared.body.Body.{Body}
use Rattle.http_wire.specs.declared.body_decoder.BodyDecoder.{BodyDecoder}
use Rattle.http_wire.specs.declared.body_decoder.BodySeen.{BodySeen}
use Rattle.http_wire.specs.declared.body_decoder.BodySeen.TheVariants.{Given, Full, More}
use Rattle.http_wire.specs.declared.body_decoder.FramedBody.{FramedBody}
use Rattle.http_wire.specs.declared.body_decoder.FramedBody.TheVariants as forms
use Rattle.http_wire.specs.declared.chunked.ChunkDecoder.{ChunkDecoder}
use Rattle.http_wire.specs.declared.fault.WireFault.{WireFault}
use Rattle.http_wire.specs.declared.fault.WireFault.TheVariants.{BadChunk, NoMemory}
use Rattle.http_wire.specs.declared.framing.Framing.{Framing}
use Rattle.http_wire.specs.declared.framing.Framing.TheVariants.{Counted, Chunked, ToEnd}

-- ---- the decoder

-- the framing of this form of decoding
abbrev pub framing_by : FramedBody → Framing
framing_by (forms.Counted size) = Counted size
framing_by (forms.Chunked chunks) = Chunked
framing_by forms.ToEnd = ToEnd

-- the framing that the decoder reads by
abbrev pub framing_in : BodyDecoder → Framing
framing_in decoder = framing_by decoder.form

-- a decoder of chunks with this start and limit, read up to its place
pub record ChunksStand (limit start : ℕ) (chunks : ChunkDecoder) (bytes : List ℕ) : Type 0 where
  pub limit_is : chunks.limit ≡ limit
  pub start_is : chunks.start ≡ start
  pub stands : Stands chunks bytes

-- the decoded part agrees with the bytes
abbrev pub FramedBodyStands : ℕ → ℕ → FramedBody → List ℕ → Type 0
FramedBodyStands limit start (forms.Counted size) bytes = ⊤
FramedBodyStands limit start (forms.Chunked chunks) bytes = ChunksStand limit start chunks bytes
FramedBodyStands limit start forms.ToEnd bytes = ⊤

-- the body begins among the bytes, which agree with the decoder's state
pub record BodyStands (decoder : BodyDecoder) (bytes : List ℕ) : Type 0 where
  pub within : decoder.start ≤ length bytes
  pub form : FramedBodyStands decoder.limit decoder.start decoder.form bytes

-- its framing, its start and its limit stay
pub record KeepsBody (old new : BodyDecoder) : Type 0 where
  pub framing : framing_in new ≡ framing_in old
  pub start : new.start ≡ old.start
  pub limit : new.limit ≡ old.limit

-- ---- what a look sees

-- the text gives this body, whatever follows, and has nothing behind it where it is alone
pub record GivesBody (framing : Framing) (limit : ℕ) (text : List ℕ) (body : Body) : Type 0 where
  pub rest : List ℕ
  pub gives : (more : List ℕ) → Gives framing limit (text ++ more) body.octets.items body.cut (rest ++ more)
  pub alone : IsTrue body.alone → rest ≡ []

-- as many lines as trailers may have, without an end
abbrev pub HasFullTrailers : Framing → ℕ → List ℕ → Type 0
HasFullTrailers (Counted size) limit text = ⊥
HasFullTrailers Chunked limit text = EndsTooLong limit text
HasFullTrailers ToEnd limit text = ⊥

-- a prefix of the body, which can go on
abbrev pub IsOpen : Framing → ℕ → List ℕ → Type 0
IsOpen (Counted size) limit text = (length text < size) × (length text ≤ limit)
IsOpen Chunked limit text = EndsInChunked limit text
IsOpen ToEnd limit text = length text ≤ limit

-- no body yet; for chunks only the last look tells
abbrev pub IsShort : Framing → ℕ → List ℕ → Type 0
IsShort (Counted size) limit text = (length text < size) × (length text ≤ limit)
IsShort Chunked limit text = ⊤
IsShort ToEnd limit text = length text ≤ limit

-- the result of a look; only the last sees a body that can go on
abbrev pub SeesBody : Framing → ℕ → List ℕ → Bool → BodySeen → Type 0
SeesBody framing limit text last (Given body) = GivesBody framing limit text body
SeesBody framing limit text last Full = IsTrue last × HasFullTrailers framing limit text
SeesBody framing limit text last More = IsTrue last → IsOpen framing limit text

-- the body is the first limit octets of a longer text
pub record GivesPrefix (limit : ℕ) (text : List ℕ) (body : Body) : Type 0 where
  pub cut : body.cut ≡ true
  pub alone : body.alone ≡ false
  pub rest : List ℕ
  pub first : (more : List ℕ) → GivesFirst limit (text ++ more) body.octets.items (rest ++ more)

-- whether the text is longer than the limit
abbrev pub SeesPrefix : ℕ → List ℕ → BodySeen → Type 0
SeesPrefix limit text (Given body) = GivesPrefix limit text body
SeesPrefix limit text Full = ⊥
SeesPrefix limit text More = length text ≤ limit

-- a body of these octets, cut or not, alone in the buffer or not
abbrev pub IsGiven : List ℕ → Bool → Bool → BodySeen → Type 0
IsGiven octets cut alone (Given body) = (body.octets.items ≡ octets) × (body.cut ≡ cut) × (body.alone ≡ alone)
IsGiven octets cut alone Full = ⊥
IsGiven octets cut alone More = ⊥

-- a look without a result leaves the buffer
abbrev pub LeavesBuffer : List ℕ → List ℕ → BodySeen → Type 0
LeavesBuffer old new (Given body) = ⊤
LeavesBuffer old new Full = new ≡ old
LeavesBuffer old new More = new ≡ old

-- why a look gives nothing: the text is unreadable, whatever follows, or memory ran out
abbrev pub Refuses : Framing → ℕ → List ℕ → WireFault → Type 0
Refuses framing limit text fault =
    ((fault ≡ BadChunk) × ((more : List ℕ) → IsBadBody framing limit (text ++ more)))
    ⊎ (fault ≡ NoMemory)
