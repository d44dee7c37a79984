-- How the decoder's place moves over the bytes.
-- Used by `ChunkDecoder`.
use Rattle.std.proofs.Common.{◌≡◌, ℕ, ◌+◌, ◌-◌, ◌<◌, ◌≤◌, Bool, List, ◌++◌, length, take, drop, sym, ap, subst, ◌∙◌, arith, length-append}
use Rattle.std.proofs.lemmas.List.{drop-drop, take_rest, length-drop}
use Rattle.httparse.specs.Grammar.{ChunkLine, print_chunk_line, IsChunkLine, ReadsChunkLine, chunk_size, print_extension, print_end, crlf}
use Rattle.httparse.specs.Spans.{IsChunkLineAt}
use Rattle.http_wire.specs.declared.part_seen.PartSeen.{PartSeen}
use Rattle.http_wire.specs.declared.part_seen.PartSeen.TheVariants.{Whole, Cut, Bad, Full, More}
use Rattle.http_wire.specs.declared.chunked.ChunkState.{ChunkState}
use Rattle.http_wire.specs.declared.chunked.ChunkState.TheVariants as places
use Rattle.http_wire.specs.declared.chunked.ChunkDecoder.{ChunkDecoder}
use Rattle.http_wire.specs.Decoding.{TrailersTell, Decoded, Stands, Decodes}
use Rattle.http_wire.proofs.ChunkPlaces.{trailers_whole, trailers_bad, trailers_full, trailers_end}

pub at_place : (decoder : ChunkDecoder) (bytes : List ℕ) (place : ChunkState) → Stands decoder bytes → decoder.place ≡ place
    → Decoded decoder.limit (drop decoder.start bytes) decoder.octets.items place (drop decoder.at bytes)
at_place decoder bytes place s is =
    subst (λ p. Decoded decoder.limit (drop decoder.start bytes) decoder.octets.items p (drop decoder.at bytes)) is s.decoded

-- a place that has moved on
pub record Moves (old new : ChunkDecoder) (len : ℕ) (place : ChunkState) : Type 0 where
  pub limit : new.limit ≡ old.limit
  pub start : new.start ≡ old.start
  pub here : new.place ≡ place
  pub at : new.at ≡ old.at + len

pub moved : (old new : ChunkDecoder) (bytes : List ℕ) (len : ℕ) (place : ChunkState) (octets : List ℕ) → Stands old bytes → Moves old new len place
    → new.octets.items ≡ octets → 0 < len → len ≤ length (drop old.at bytes)
    → Decoded old.limit (drop old.start bytes) octets place (drop len (drop old.at bytes))
    → (old.at < new.at) × Stands new bytes
moved old new bytes len place octets s m kept some fits d =
    let rest : drop len (drop old.at bytes) ≡ drop new.at bytes = drop-drop len old.at bytes ∙ ap (λ n. drop n bytes) (sym m.at) in
    let a = subst (λ n. Decoded n (drop old.start bytes) octets place (drop len (drop old.at bytes))) (sym m.limit) d in
    let b = subst (λ n. Decoded new.limit (drop n bytes) octets place (drop len (drop old.at bytes))) (sym m.start) a in
    let c = subst (λ t. Decoded new.limit (drop new.start bytes) t place (drop len (drop old.at bytes))) (sym kept) b in
    let e = subst (Decoded new.limit (drop new.start bytes) new.octets.items place) rest c in (
      omega (arith, some, m.at),
      record {
        started = omega (arith, s.started, m.start, m.at);
        within = omega (arith, s.within, m.at, fits, length-drop old.at bytes);
        decoded = subst (λ p. Decoded new.limit (drop new.start bytes) new.octets.items p (drop new.at bytes)) (sym m.here) e;
      },
    )

line_some : (line : ChunkLine) → IsChunkLine line → 0 < length (print_chunk_line line)
unfolding print_chunk_line
line_some line valid =
    omega (arith, valid.digits.0, length-append line.digits line.pad, length-append (line.digits ++ line.pad) (print_extension line.extension), length-append (line.digits ++ line.pad ++ print_extension line.extension) (print_end crlf))

-- a chunk line at the place
pub record LineFound (text : List ℕ) (len size : ℕ) : Type 0 where
  pub line : ChunkLine
  pub reads : ReadsChunkLine text line (drop len text)
  pub size_is : size ≡ chunk_size line
  pub some : 0 < len
  pub within : len ≤ length text

pub line_found : (bytes : List ℕ) (at len size : ℕ) → ((line : ChunkLine) × IsChunkLineAt (take (length bytes - at) (drop at bytes)) len size line)
    → LineFound (drop at bytes) len size
line_found bytes at len size (line, read) =
    let found = subst (λ t. IsChunkLineAt t len size line) (take_rest bytes at) read in
    let some = line_some line found.reads.0 in
    let whole = length-append (print_chunk_line line) (drop len (drop at bytes)) in
    record {
      line = line;
      reads = found.reads;
      size_is = found.size_is;
      some = omega (arith, some, found.len_is);
      within = omega (arith, found.len_is, whole, ap length found.reads.1);
    }

pub text_behind : (P : List ℕ → Type 0) (bytes : List ℕ) (at size : ℕ)
    → P (take (length (take (length bytes - at) (drop at bytes)) - size) (drop size (take (length bytes - at) (drop at bytes)))) → P (drop size (drop at bytes))
text_behind P bytes at size p =
    let behind = subst (λ t. P (take (length t - size) (drop size t))) (take_rest bytes at) p in
    subst P (take_rest (drop at bytes) size) behind

pub end_decodes : (decoder : ChunkDecoder) (bytes : List ℕ) (last : Bool) (look : PartSeen) → Stands decoder bytes → decoder.place ≡ places.Trailers
    → TrailersTell (drop decoder.at bytes) last look → Decodes bytes last decoder look
end_decodes decoder bytes last (Whole behind) s is (rest, reads, len) =
    (rest, trailers_whole _ _ _ _ rest (at_place decoder bytes places.Trailers s is) reads, len)
end_decodes decoder bytes last Cut s is tells = absurd tells
end_decodes decoder bytes last Bad s is tells =
    trailers_bad _ _ _ _ (at_place decoder bytes places.Trailers s is) tells
end_decodes decoder bytes last Full s is tells =
    (tells.0, trailers_full _ _ _ _ (at_place decoder bytes places.Trailers s is) tells.1)
end_decodes decoder bytes last More s is tells =
    (s, λ true'. trailers_end _ _ _ _ (at_place decoder bytes places.Trailers s is) (tells true'))
