-- What each place of a body tells, over plain lists.
-- Used by `ChunkDecoder`.
use Rattle.std.proofs.Common.{◌≡◌, ℕ, ◌+◌, ◌-◌, ◌<◌, ◌≤◌, List, [], ◌∷◌, ◌++◌, length, take, drop, refl, sym, ap, subst, ◌∙◌, arith, append_assoc, append-nil, length-append, take-append-drop, inl, inr}
use Rattle.std.specs.Prelude.{◌⊎◌}
use Rattle.std.proofs.Math.Seq.{take-append-add}
use Rattle.std.proofs.lemmas.Grind.{flat_map-append}
use Rattle.std.proofs.lemmas.List.{length-take-le, take-take}
use Rattle.std.proofs.lemmas.List.Elements.{All-push}
use Rattle.httparse.specs.Ascii.{crlf_bytes}
use Rattle.httparse.specs.Grammar.{ChunkLine, print_chunk_line, chunk_size, ReadsChunkLine, HasNoChunkLine, MayBecomeChunkLine, print_section}
use Rattle.httparse.specs.Spans.{SectionOverflows}
use Rattle.http_wire.specs.Limits.{max_trailers}
use Rattle.http_wire.specs.declared.chunked.ChunkState.TheVariants as places
use Rattle.http_wire.specs.Chunks.{Chunk, print_chunk, IsChunk, print_chunks, joined, ReadsChunks, ReadsTrailers, GivesWhole, GivesCut, AfterLast, AfterOctets, IsOpenEnd, NeverHasEnd, EndsInTrailers, in_line, in_octets, in_end, in_trailers, EndsInChunked, IsTooLong, HasTooManyLines, bad_end, bad_trailers, too_long, IsBadChunked, EndsTooLong}
use Rattle.http_wire.specs.Decoding.{Decoded}
use Rattle.http_wire.proofs.ChunkLists.{regroup}

-- ---- at a chunk line

line_reads : (limit : ℕ) (text octets rest : List ℕ) (d : Decoded limit text octets places.Line rest) → ReadsChunks limit text d.chunks rest
line_reads limit text octets rest d = subst (ReadsChunks limit text d.chunks) d.at d.reads

pub line_ends : (limit : ℕ) (text octets rest : List ℕ) → Decoded limit text octets places.Line rest
    → HasNoChunkLine rest → MayBecomeChunkLine rest → EndsInChunked limit text
line_ends limit text octets rest d none may = (d.chunks, rest, line_reads limit text octets rest d, in_line none may)

pub line_read : (limit : ℕ) (text octets rest after : List ℕ) (line : ChunkLine) (size : ℕ) → Decoded limit text octets places.Line rest
    → ReadsChunkLine rest line after → size ≡ chunk_size line → 0 < size → Decoded limit text octets (places.Octets size) after
line_read limit text octets rest after line size d reads is some = record {
  chunks = d.chunks;
  middle = rest;
  reads = line_reads limit text octets rest d;
  octets_are = d.octets_are;
  at = (line, reads, is, some);
}

pub line_last : (limit : ℕ) (text octets rest after : List ℕ) (line : ChunkLine) → Decoded limit text octets places.Line rest
    → ReadsChunkLine rest line after → chunk_size line ≡ 0 → Decoded limit text octets places.Trailers after
line_last limit text octets rest after line d reads zero = record {
  chunks = d.chunks;
  middle = rest;
  reads = line_reads limit text octets rest d;
  octets_are = d.octets_are;
  at = (line, reads, zero);
}

-- ---- in the octets of a chunk

pub octets_end : (limit size : ℕ) (text octets rest : List ℕ) → Decoded limit text octets (places.Octets size) rest
    → length rest < size → length rest + length octets ≤ limit → EndsInChunked limit text
octets_end limit size text octets rest d less fits =
    let (line, reads, is, some) = d.at in (
      d.chunks,
      d.middle,
      d.reads,
      in_octets line rest reads (omega (arith, is, less)) (omega (arith, fits, ap length d.octets_are)),
    )

pub octets_cut : (limit size room : ℕ) (text octets rest : List ℕ) → Decoded limit text octets (places.Octets size) rest
    → room + length octets ≡ limit → room < size → room < length rest
    → GivesCut limit text (octets ++ take room rest) (drop (room + 1) rest)
octets_cut limit size room text octets rest d full past more =
    let (line, reads, is, some) = d.at in
    let prefix = take (room + 1) rest in
    let len : length prefix ≡ room + 1 = length-take-le (room + 1) rest (omega arith) in
    let kept : length octets ≡ length (joined d.chunks) = ap length d.octets_are in
    let whole : length (joined d.chunks) + room ≡ limit = omega arith in
    let cut : take limit (joined d.chunks ++ prefix) ≡ joined d.chunks ++ take room prefix = subst (λ n. take n (joined d.chunks ++ prefix) ≡ joined d.chunks ++ take room prefix) whole (take-append-add (joined d.chunks) prefix room) in
    let same : take room prefix ≡ take room rest = take-take room (room + 1) rest (omega arith) in
    let ends : d.middle ≡ print_chunk_line line ++ (prefix ++ drop (room + 1) rest) = reads.1 ∙ ap (λ t. print_chunk_line line ++ t) (sym (take-append-drop (room + 1) rest)) in
    record {
      prefix = record { chunks = d.chunks; line = line; octets = prefix };
      valid = record {
        chunks = d.reads.valid;
        fits = d.reads.fits;
        line = reads.0;
        within = omega (arith, len, past, is);
        past = omega (arith, len, whole, length-append (joined d.chunks) prefix);
      };
      text_is = d.reads.text_is ∙ ap (λ t. print_chunks d.chunks ++ t) ends ∙ sym (regroup (print_chunks d.chunks) (print_chunk_line line) prefix (drop (room + 1) rest));
      given_is = ap (λ t. t ++ take room rest) d.octets_are ∙ ap (λ t. joined d.chunks ++ t) (sym same) ∙ sym cut;
    }

after_octets : (P : List ℕ → Type 0) (limit size : ℕ) (text octets rest : List ℕ) (d : Decoded limit text octets (places.Octets size) rest)
    → size + length octets ≤ limit → size ≤ length rest → P (drop size rest) → AfterOctets (limit - length (joined d.chunks)) P d.middle
after_octets P limit size text octets rest d fits stand p =
    let (line, reads, is, some) = d.at in
    let len : length (take size rest) ≡ size = length-take-le size rest stand in (
      line,
      take size rest,
      drop size rest,
      (reads.0, reads.1 ∙ ap (λ t. print_chunk_line line ++ t) (sym (take-append-drop size rest))),
      omega (arith, some, is),
      len ∙ is,
      omega (arith, len, fits, ap length d.octets_are),
      p,
    )

pub chunk_open : (limit size : ℕ) (text octets rest : List ℕ) → Decoded limit text octets (places.Octets size) rest
    → size + length octets ≤ limit → size ≤ length rest → IsOpenEnd (drop size rest) → EndsInChunked limit text
chunk_open limit size text octets rest d fits stand open' =
    (d.chunks, d.middle, d.reads, in_end (after_octets IsOpenEnd limit size text octets rest d fits stand open'))

pub chunk_bad : (limit size : ℕ) (text octets rest : List ℕ) → Decoded limit text octets (places.Octets size) rest
    → size + length octets ≤ limit → size ≤ length rest → NeverHasEnd (drop size rest) → IsBadChunked limit text
chunk_bad limit size text octets rest d fits stand never =
    (d.chunks, d.middle, d.reads, bad_end (after_octets NeverHasEnd limit size text octets rest d fits stand never))

print_one_more : (cs : List Chunk) (c : Chunk) → print_chunks (cs ++ c ∷ []) ≡ print_chunks cs ++ print_chunk c
print_one_more cs c = flat_map-append print_chunk cs (c ∷ []) ∙ ap (λ t. print_chunks cs ++ t) (append-nil (print_chunk c))

join_one_more : (cs : List Chunk) (c : Chunk) → joined (cs ++ c ∷ []) ≡ joined cs ++ c.octets
join_one_more cs c = flat_map-append (λ (k : Chunk). k.octets) cs (c ∷ []) ∙ ap (λ t. joined cs ++ t) (append-nil c.octets)

pub chunk_read : (limit size : ℕ) (text octets rest after : List ℕ) → Decoded limit text octets (places.Octets size) rest
    → size + length octets ≤ limit → size ≤ length rest → drop size rest ≡ crlf_bytes ++ after
    → Decoded limit text (octets ++ take size rest) places.Line after
chunk_read limit size text octets rest after d fits stand ends =
    let (line, reads, is, some) = d.at in
    let len : length (take size rest) ≡ size = length-take-le size rest stand in
    let c : Chunk = record { line = line; octets = take size rest } in
    let one : IsChunk c = record { line = reads.0; some = omega (arith, some, is); size = len ∙ is } in
    let split : rest ≡ take size rest ++ (crlf_bytes ++ after) = sym (take-append-drop size rest) ∙ ap (λ t. take size rest ++ t) ends in
    let middle : d.middle ≡ print_chunk c ++ after = reads.1 ∙ ap (λ t. print_chunk_line line ++ t) split ∙ sym (regroup (print_chunk_line line) (take size rest) crlf_bytes after) in
    let all : length (joined d.chunks) ≡ length octets = ap length (sym d.octets_are) in
    record {
      chunks = d.chunks ++ c ∷ [];
      middle = after;
      reads = record {
        valid = All-push IsChunk d.chunks c d.reads.valid one;
        fits = omega (arith, ap length (join_one_more d.chunks c), length-append (joined d.chunks) (take size rest), len, fits, all);
        text_is = d.reads.text_is ∙ ap (λ t. print_chunks d.chunks ++ t) middle
            ∙ sym (append_assoc (print_chunks d.chunks) (print_chunk c) after)
            ∙ ap (λ t. t ++ after) (sym (print_one_more d.chunks c));
      };
      octets_are = ap (λ t. t ++ take size rest) d.octets_are ∙ sym (join_one_more d.chunks c);
      at = refl;
    }

-- ---- at the trailers

after_last : (P : List ℕ → Type 0) (limit : ℕ) (text octets rest : List ℕ) (d : Decoded limit text octets places.Trailers rest) → P rest → AfterLast P d.middle
after_last P limit text octets rest d p = let (line, reads, zero) = d.at in (line, rest, reads, zero, p)

pub trailers_whole : (limit : ℕ) (text octets rest after : List ℕ) → Decoded limit text octets places.Trailers rest → ReadsTrailers rest after → GivesWhole limit text octets after
trailers_whole limit text octets rest after d t =
    let (line, reads, zero) = d.at in
    let section = print_section t.fields t.last in
    let ends : d.middle ≡ print_chunk_line line ++ (section ++ after) = reads.1 ∙ ap (λ s. print_chunk_line line ++ s) t.reads.1 in
    record {
      body = record { chunks = d.chunks; last = line; trailers = t.fields; end = t.last };
      valid = record {
        chunks = d.reads.valid;
        last = reads.0;
        size = zero;
        trailers = t.reads.0;
        few = t.few;
        short = t.short;
      };
      text_is = d.reads.text_is ∙ ap (λ s. print_chunks d.chunks ++ s) ends ∙ sym (regroup (print_chunks d.chunks) (print_chunk_line line) section after);
      given_is = d.octets_are;
      fits = omega (arith, ap length d.octets_are, d.reads.fits);
    }

pub trailers_end : (limit : ℕ) (text octets rest : List ℕ) → Decoded limit text octets places.Trailers rest → EndsInTrailers rest → EndsInChunked limit text
trailers_end limit text octets rest d ends =
    (d.chunks, d.middle, d.reads, in_trailers (after_last EndsInTrailers limit text octets rest d ends))

pub trailers_bad : (limit : ℕ) (text octets rest : List ℕ) → Decoded limit text octets places.Trailers rest
    → SectionOverflows max_trailers rest ⊎ IsTooLong rest → IsBadChunked limit text
trailers_bad limit text octets rest d tells =
    elim tells [
      | inl over ↦ (d.chunks, d.middle, d.reads, bad_trailers (after_last (SectionOverflows max_trailers) limit text octets rest d over))
      | inr long ↦ (d.chunks, d.middle, d.reads, too_long (after_last IsTooLong limit text octets rest d long))
    ]

pub trailers_full : (limit : ℕ) (text octets rest : List ℕ) → Decoded limit text octets places.Trailers rest → HasTooManyLines rest → EndsTooLong limit text
trailers_full limit text octets rest d full =
    (d.chunks, d.middle, d.reads, after_last HasTooManyLines limit text octets rest d full)

-- ---- more bytes
