-- Bodies in chunks: read, cut at a limit, or unreadable.
-- RFC 9112, section 7.1.
use Rattle.std.specs.Prelude.{◌≡◌, ℕ, ◌+◌, ◌-◌, ◌<◌, ◌≤◌, ◌⊎◌, Bool, true, false, List, [], ◌∷◌, ◌++◌, length, take, All}
use Rattle.std.specs.List.{flat_map}
use Rattle.httparse.specs.Ascii.{carriage_return, crlf_bytes}
use Rattle.httparse.specs.Grammar.{ChunkLine, print_chunk_line, IsChunkLine, chunk_size, ReadsChunkLine, HasNoChunkLine, NeverHasChunkLine, MayBecomeChunkLine, LineEnd, Field, IsField, print_section, ReadsSection, HasNoSection, MayBecomeSection}
use Rattle.httparse.specs.Spans.{SectionOverflows}
use Rattle.http_wire.specs.Heads.{line_ends}
use Rattle.http_wire.specs.Limits.{max_trailers, max_trailer_bytes}

-- chunk = chunk-line chunk-data CRLF; the line has the size and the extension
pub record Chunk : Type 0 where
  pub line : ChunkLine
  pub octets : List ℕ

-- a chunk's bytes
abbrev pub print_chunk : Chunk → List ℕ
print_chunk c = print_chunk_line c.line ++ (c.octets ++ crlf_bytes)

-- it has octets, as many as the line says
pub record IsChunk (c : Chunk) : Type 0 where
  pub line : IsChunkLine c.line
  pub some : 0 < chunk_size c.line
  pub size : length c.octets ≡ chunk_size c.line

-- bytes of chunks in a row
abbrev pub print_chunks : List Chunk → List ℕ
print_chunks chunks = flat_map print_chunk chunks

-- the octets that chunks in a row give
abbrev pub joined : List Chunk → List ℕ
joined chunks = flat_map (λ c. c.octets) chunks

-- text is chunks of at most limit octets, then rest
pub record ReadsChunks (limit : ℕ) (text : List ℕ) (chunks : List Chunk) (rest : List ℕ) : Type 0 where
  pub valid : All IsChunk chunks
  pub fits : length (joined chunks) ≤ limit
  pub text_is : text ≡ print_chunks chunks ++ rest

-- ---- whole bodies

-- chunked-body = *chunk last-chunk trailer-section CRLF
pub record ChunkedBody : Type 0 where
  pub chunks : List Chunk
  pub last : ChunkLine
  pub trailers : List Field
  pub end : LineEnd

-- the bytes of a body
abbrev pub print_body : ChunkedBody → List ℕ
print_body b = print_chunks b.chunks ++ (print_chunk_line b.last ++ print_section b.trailers b.end)

-- the last line's size is 0, and the trailers are within both limits
pub record IsChunkedBody (b : ChunkedBody) : Type 0 where
  pub chunks : All IsChunk b.chunks
  pub last : IsChunkLine b.last
  pub size : chunk_size b.last ≡ 0
  pub trailers : All IsField b.trailers
  pub few : length b.trailers ≤ max_trailers
  pub short : length (print_section b.trailers b.end) ≤ max_trailer_bytes

-- text is trailers within both limits and the rest
pub record ReadsTrailers (text rest : List ℕ) : Type 0 where
  pub fields : List Field
  pub last : LineEnd
  pub reads : ReadsSection text fields last rest
  pub few : length fields ≤ max_trailers
  pub short : length (print_section fields last) ≤ max_trailer_bytes

-- text is a body of at most limit octets, all given, then rest
pub record GivesWhole (limit : ℕ) (text given rest : List ℕ) : Type 0 where
  pub body : ChunkedBody
  pub valid : IsChunkedBody body
  pub text_is : text ≡ print_body body ++ rest
  pub given_is : given ≡ joined body.chunks
  pub fits : length given ≤ limit

-- ---- bodies that are cut

-- a body up to an octet of a chunk
pub record BodyPrefix : Type 0 where
  pub chunks : List Chunk
  pub line : ChunkLine
  pub octets : List ℕ

-- a prefix's bytes
abbrev pub print_prefix : BodyPrefix → List ℕ
print_prefix b = print_chunks b.chunks ++ (print_chunk_line b.line ++ b.octets)

-- octets that a prefix gives
abbrev pub prefix_octets : BodyPrefix → List ℕ
prefix_octets b = joined b.chunks ++ b.octets

-- it ends with octet limit + 1, within its last chunk
pub record IsPrefixPast (limit : ℕ) (b : BodyPrefix) : Type 0 where
  pub chunks : All IsChunk b.chunks
  pub fits : length (joined b.chunks) ≤ limit
  pub line : IsChunkLine b.line
  pub within : length b.octets ≤ chunk_size b.line
  pub past : length (prefix_octets b) ≡ limit + 1

-- text begins with a prefix up to octet limit + 1, whose first limit octets are given
pub record GivesCut (limit : ℕ) (text given rest : List ℕ) : Type 0 where
  pub prefix : BodyPrefix
  pub valid : IsPrefixPast limit prefix
  pub text_is : text ≡ print_prefix prefix ++ rest
  pub given_is : given ≡ take limit (prefix_octets prefix)

-- what the text's body gives, and what follows the last octet looked at
abbrev pub GivesChunked : ℕ → List ℕ → List ℕ → Bool → List ℕ → Type 0
GivesChunked limit text given false rest = GivesWhole limit text given rest
GivesChunked limit text given true rest = GivesCut limit text given rest

-- ---- texts that give no body

-- after chunks of at most limit octets, P of the room and the text left
abbrev pub AfterChunks : ℕ → (ℕ → List ℕ → Type 0) → List ℕ → Type 0
AfterChunks limit P text =
    (chunks : List Chunk) × (rest : List ℕ)
    × ReadsChunks limit text chunks rest × P (limit - length (joined chunks)) rest

-- text is a chunk line of size 0 and a text with P
abbrev pub AfterLast : (List ℕ → Type 0) → List ℕ → Type 0
AfterLast P text =
    (line : ChunkLine) × (after : List ℕ)
    × ReadsChunkLine text line after × (chunk_size line ≡ 0) × P after

-- text is a chunk line, all its octets (at most room), and a text with P
abbrev pub AfterOctets : ℕ → (List ℕ → Type 0) → List ℕ → Type 0
AfterOctets room P text =
    (line : ChunkLine) × (octets : List ℕ) × (after : List ℕ)
    × ReadsChunkLine text line (octets ++ after) × (0 < chunk_size line)
    × (length octets ≡ chunk_size line) × (length octets ≤ room) × P after

-- the end of a chunk is missing or cut
abbrev pub IsOpenEnd : List ℕ → Type 0
IsOpenEnd text = (text ≡ []) ⊎ (text ≡ carriage_return ∷ [])

-- no continuation of the text begins with the end of a chunk
abbrev pub NeverHasEnd : List ℕ → Type 0
NeverHasEnd text = (more after : List ℕ) → text ++ more ≡ crlf_bytes ++ after → ⊥

-- text ends in trailers that may be within both limits
pub record EndsInTrailers (text : List ℕ) : Type 0 where
  pub none : HasNoSection text
  pub may : MayBecomeSection text
  pub short : length text < max_trailer_bytes
  pub few : line_ends text < max_trailers

-- where text ends: in a chunk line, a chunk's octets, their end, or the trailers
pub data EndsAt (room : ℕ) (text : List ℕ) : Type 0 where
  in_line : HasNoChunkLine text → MayBecomeChunkLine text → EndsAt room text
  in_octets : (line : ChunkLine) (part : List ℕ) → ReadsChunkLine text line part
      → length part < chunk_size line → length part ≤ room → EndsAt room text
  in_end : AfterOctets room IsOpenEnd text → EndsAt room text
  in_trailers : AfterLast EndsInTrailers text → EndsAt room text

-- the text ends inside a body, after at most limit octets
abbrev pub EndsInChunked : ℕ → List ℕ → Type 0
EndsInChunked limit = AfterChunks limit EndsAt

-- the bytes that trailers may have hold no trailers within the line limit
pub record IsTooLong (text : List ℕ) : Type 0 where
  pub long : max_trailer_bytes ≤ length text
  pub none : (fields : List Field) (last : LineEnd) (rest : List ℕ)
      → ReadsSection (take max_trailer_bytes text) fields last rest → max_trailers < length fields

-- unreadable whatever follows: a chunk line, a chunk's end, or trailers within both limits
pub data IsBadAt (room : ℕ) (text : List ℕ) : Type 0 where
  bad_line : NeverHasChunkLine text → IsBadAt room text
  bad_end : AfterOctets room NeverHasEnd text → IsBadAt room text
  bad_trailers : AfterLast (SectionOverflows max_trailers) text → IsBadAt room text
  too_long : AfterLast IsTooLong text → IsBadAt room text

-- no continuation of the text begins with a body
abbrev pub IsBadChunked : ℕ → List ℕ → Type 0
IsBadChunked limit = AfterChunks limit IsBadAt

-- text has the most trailer lines, without their end
pub record HasTooManyLines (text : List ℕ) : Type 0 where
  pub none : HasNoSection text
  pub many : max_trailers ≤ line_ends text

-- after a body's last chunk come the most trailer lines, without their end
abbrev pub EndsTooLong : ℕ → List ℕ → Type 0
EndsTooLong limit = AfterChunks limit (λ room. AfterLast HasTooManyLines)

-- the cause of BadChunk, for all octets received
abbrev pub IsRefusedChunked : ℕ → List ℕ → Type 0
IsRefusedChunked limit text = IsBadChunked limit text ⊎ EndsTooLong limit text
