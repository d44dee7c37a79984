-- Bodies of each framing: what they give, when they end too early, and when they can't be read.
-- RFC 9112, section 6.3.
use Rattle.std.specs.Prelude.{◌≡◌, ℕ, ◌<◌, ◌≤◌, ◌⊎◌, Bool, true, false, List, [], ◌∷◌, ◌++◌, length, Ok}
use Rattle.httparse.specs.Grammar.{ResponseHead, status_code}
use Rattle.http_wire.specs.Fields.{framing_of}
use Rattle.http_wire.specs.Heads.{HasFinal, head_fields}
use Rattle.http_wire.specs.Chunks.{GivesChunked, EndsInChunked, EndsTooLong, IsRefusedChunked}
use Rattle.http_wire.specs.declared.framing.Framing.{Framing}
use Rattle.http_wire.specs.declared.framing.Framing.TheVariants.{Counted, Chunked, ToEnd}

-- the text's first octets up to the limit, followed by one more
pub record GivesFirst (limit : ℕ) (text given rest : List ℕ) : Type 0 where
  pub last : ℕ
  pub parts : text ≡ given ++ last ∷ rest
  pub full : length given ≡ limit

-- this many octets, at most the limit
abbrev pub GivesCounted : ℕ → ℕ → List ℕ → List ℕ → Bool → List ℕ → Type 0
GivesCounted size limit text given false rest = (size ≤ limit) × (length given ≡ size) × (text ≡ given ++ rest)
GivesCounted size limit text given true rest = (limit < size) × GivesFirst limit text given rest

-- the whole text up to the limit
abbrev pub GivesToEnd : ℕ → List ℕ → List ℕ → Bool → List ℕ → Type 0
GivesToEnd limit text given false rest = (length given ≤ limit) × (text ≡ given) × (rest ≡ [])
GivesToEnd limit text given true rest = GivesFirst limit text given rest

-- the text's body, whether it is cut, and the rest
abbrev pub Gives : Framing → ℕ → List ℕ → List ℕ → Bool → List ℕ → Type 0
Gives (Counted size) limit text given cut rest = GivesCounted size limit text given cut rest
Gives Chunked limit text given cut rest = GivesChunked limit text given cut rest
Gives ToEnd limit text given cut rest = GivesToEnd limit text given cut rest

-- the text ends before the body, after at most limit octets
abbrev pub EndsInBody : Framing → ℕ → List ℕ → Type 0
EndsInBody (Counted size) limit text = (length text < size) × (length text ≤ limit)
EndsInBody Chunked limit text = EndsInChunked limit text
EndsInBody ToEnd limit text = ⊥

-- the text is a prefix of the body, with at most limit octets, and can go on
abbrev pub IsBodyPrefix : Framing → ℕ → List ℕ → Type 0
IsBodyPrefix (Counted size) limit text = (length text < size) × (length text ≤ limit)
IsBodyPrefix Chunked limit text = EndsInChunked limit text ⊎ EndsTooLong limit text
IsBodyPrefix ToEnd limit text = length text ≤ limit

-- the body can't be read, after at most limit octets
abbrev pub IsBadBody : Framing → ℕ → List ℕ → Type 0
IsBadBody (Counted size) limit text = ⊥
IsBadBody Chunked limit text = IsRefusedChunked limit text
IsBadBody ToEnd limit text = ⊥

-- the fact holds of the final head's framing and the text after it
pub record InBody (Fact : Framing → List ℕ → Type 0) (input : List ℕ) : Type 0 where
  pub head : ResponseHead
  pub text : List ℕ
  pub final : HasFinal input head text
  pub framing : Framing
  pub framed : framing_of (status_code head) (head_fields head) ≡ Ok framing
  pub fact : Fact framing text
