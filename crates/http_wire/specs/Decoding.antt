-- What the decoder of bodies in chunks knows of the octets received.
-- Cited by `ChunkDecoder`.
use Rattle.std.specs.Prelude.{◌≡◌, ℕ, ◌<◌, ◌≤◌, ◌⊎◌, Bool, true, false, List, ◌++◌, length, drop, IsTrue, Option, Some, None}
use Rattle.httparse.specs.Ascii.{crlf_bytes}
use Rattle.httparse.specs.Grammar.{ChunkLine, ReadsChunkLine, chunk_size, HasNoSection, NeverHasSection, MayBecomeSection}
use Rattle.httparse.specs.Spans.{SectionOverflows, SectionExceeds}
use Rattle.http_wire.specs.Limits.{max_trailers}
use Rattle.http_wire.specs.declared.part_seen.PartSeen.{PartSeen}
use Rattle.http_wire.specs.declared.part_seen.PartSeen.TheVariants.{Whole, Cut, Bad, Full, More}
use Rattle.http_wire.specs.declared.chunked.ChunkState.{ChunkState}
use Rattle.http_wire.specs.declared.chunked.ChunkState.TheVariants as places
use Rattle.http_wire.specs.declared.chunked.ChunkEnd.{ChunkEnd}
use Rattle.http_wire.specs.declared.chunked.ChunkEnd.TheVariants as ends
use Rattle.http_wire.specs.declared.chunked.ChunkDecoder.{ChunkDecoder}
use Rattle.http_wire.specs.declared.trailers.TrailerSection.{TrailerSection}
use Rattle.http_wire.specs.declared.trailers.TrailerSection.TheVariants as sections
use Rattle.http_wire.specs.Chunks.{Chunk, joined, ReadsChunks, ReadsTrailers, GivesChunked, IsOpenEnd, NeverHasEnd, EndsInTrailers, EndsInChunked, IsTooLong, IsBadChunked, HasTooManyLines, EndsTooLong}

-- ---- the end of a chunk, and the trailers

-- what follows the octets of a chunk
abbrev pub EndTells : List ℕ → ChunkEnd → Type 0
EndTells text ends.Whole = (rest : List ℕ) × (text ≡ crlf_bytes ++ rest)
EndTells text ends.Open = IsOpenEnd text
EndTells text ends.Bad = NeverHasEnd text

-- text begins with this many octets and a chunk's end
pub record StandsWhole (size : ℕ) (text : List ℕ) : Type 0 where
  pub within : size ≤ length text
  pub ends : EndTells (drop size text) ends.Whole

-- what octets of trailers are
abbrev pub SectionTells : List ℕ → TrailerSection → Type 0
SectionTells text (sections.Whole len) = (len ≤ length text) × ReadsTrailers text (drop len text)
SectionTells text sections.Open = HasNoSection text × MayBecomeSection text
SectionTells text sections.Over = SectionOverflows max_trailers text × SectionExceeds max_trailers text
SectionTells text sections.Bad = NeverHasSection text

-- what follows the last chunk's line
abbrev pub TrailersTell : List ℕ → Bool → PartSeen → Type 0
TrailersTell text last (Whole behind) = (rest : List ℕ) × ReadsTrailers text rest × (length rest ≡ behind)
TrailersTell text last Cut = ⊥
TrailersTell text last Bad = SectionOverflows max_trailers text ⊎ IsTooLong text
TrailersTell text last Full = IsTrue last × HasTooManyLines text
TrailersTell text last More = IsTrue last → EndsInTrailers text

-- ---- the body

-- middle was read at the place, then comes rest
abbrev pub StandsAt : ChunkState → List ℕ → List ℕ → Type 0
StandsAt places.Line middle rest = middle ≡ rest
StandsAt (places.Octets size) middle rest =
    (line : ChunkLine) × ReadsChunkLine middle line rest × (size ≡ chunk_size line) × (0 < size)
StandsAt places.Trailers middle rest =
    (line : ChunkLine) × ReadsChunkLine middle line rest × (chunk_size line ≡ 0)

-- text is chunks (octets collected), then what was read at the place, then rest
pub record Decoded (limit : ℕ) (text octets : List ℕ) (place : ChunkState) (rest : List ℕ) : Type 0 where
  pub chunks : List Chunk
  pub middle : List ℕ
  pub reads : ReadsChunks limit text chunks middle
  pub octets_are : octets ≡ joined chunks
  pub at : StandsAt place middle rest

-- the decoder has read from start to place
pub record Stands (decoder : ChunkDecoder) (bytes : List ℕ) : Type 0 where
  pub started : decoder.start ≤ decoder.at
  pub within : decoder.at ≤ length bytes
  pub decoded : Decoded decoder.limit (drop decoder.start bytes) decoder.octets.items decoder.place
      (drop decoder.at bytes)

-- the start of the body and its limit stay
pub record KeepsBounds (old new : ChunkDecoder) : Type 0 where
  pub limit : new.limit ≡ old.limit
  pub start : new.start ≡ old.start

-- the result of a look from the decoder's start on, with the octets collected
abbrev pub Decodes : List ℕ → Bool → ChunkDecoder → PartSeen → Type 0
Decodes bytes last decoder (Whole behind) =
    (rest : List ℕ) × GivesChunked decoder.limit (drop decoder.start bytes) decoder.octets.items false rest
    × (length rest ≡ behind)
Decodes bytes last decoder Cut =
    (rest : List ℕ) × GivesChunked decoder.limit (drop decoder.start bytes) decoder.octets.items true rest
Decodes bytes last decoder Bad = IsBadChunked decoder.limit (drop decoder.start bytes)
Decodes bytes last decoder Full =
    IsTrue last × EndsTooLong decoder.limit (drop decoder.start bytes)
Decodes bytes last decoder More =
    Stands decoder bytes × (IsTrue last → EndsInChunked decoder.limit (drop decoder.start bytes))

-- a step tells, or moves the place on
abbrev pub DecodesOrMoves : List ℕ → Bool → ℕ → ChunkDecoder → Option PartSeen → Type 0
DecodesOrMoves bytes last at decoder (Some look) = Decodes bytes last decoder look
DecodesOrMoves bytes last at decoder None = (at < decoder.at) × Stands decoder bytes
