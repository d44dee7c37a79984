-- A text begins with only one list of chunks, before what is no chunk within the limit.
-- Used by `ChunkLaws`.
use Rattle.std.proofs.Common.{◌≡◌, ℕ, ◌-◌, ◌≤◌, List, [], ◌∷◌, ◌++◌, length, refl, sym, ap, subst, ◌∙◌, arith, append_assoc, length-append}
use Rattle.std.proofs.lemmas.List.Elements.{All-head, All-tail}
use Rattle.httparse.specs.Ascii.{crlf_bytes}
use Rattle.httparse.specs.Grammar.{print_chunk_line, chunk_size, ReadsChunkLine}
use Rattle.httparse.proofs.ChunkLemmas.{chunk_line_unique}
use Rattle.http_wire.specs.Chunks.{Chunk, print_chunk, IsChunk, print_chunks, joined, ReadsChunks}

pub prefixes_same : (a b r q : List ℕ) → length a ≡ length b → a ++ r ≡ b ++ q → (a ≡ b) × (r ≡ q)
prefixes_same [] [] r q len e = (refl, e)
prefixes_same [] (y ∷ b) r q len e = absurd (omega arith)
prefixes_same (x ∷ a) [] r q len e = absurd (omega arith)
prefixes_same (x ∷ a) (y ∷ b) r q len e =
    let tails = prefixes_same a b r q (omega arith) (cc) in
    (cc, tails.1)

pub regroup : (a b c r : List ℕ) → (a ++ (b ++ c)) ++ r ≡ a ++ (b ++ (c ++ r))
regroup a b c r = simp append_assoc

pub line_of : (text rest : List ℕ) (c : Chunk) → IsChunk c → text ≡ print_chunk c ++ rest
    → ReadsChunkLine text c.line (c.octets ++ (crlf_bytes ++ rest))
line_of text rest c valid e =
    (valid.line, e ∙ regroup (print_chunk_line c.line) c.octets crlf_bytes rest)

pub same_chunk : (text : List ℕ) (c d : Chunk) (r q : List ℕ) → IsChunk c → IsChunk d
    → text ≡ print_chunk c ++ r → text ≡ print_chunk d ++ q → (c ≡ d) × (r ≡ q)
same_chunk text c d r q x y e f =
    let lines = chunk_line_unique text c.line d.line _ _ (line_of text r c x e) (line_of text q d y f) in
    let octets = prefixes_same c.octets d.octets (crlf_bytes ++ r) (crlf_bytes ++ q)
    (x.size ∙ ap chunk_size lines.0 ∙ sym y.size) lines.1 in
    (λ i. record { line = lines.0 i; octets = octets.0 i }, cc (octets.1))

-- the text begins with no chunk of at most room octets
pub record HasNoChunk (room : ℕ) (text : List ℕ) : Type 0 where
  pub none : (c : Chunk) (rest : List ℕ) → IsChunk c → length c.octets ≤ room → text ≡ print_chunk c ++ rest → ⊥

first_of_list : (limit : ℕ) (text : List ℕ) (c : Chunk) (cs : List Chunk) (rest : List ℕ) → ReadsChunks limit text (c ∷ cs) rest
    → IsChunk c × (length c.octets ≤ limit) × (text ≡ print_chunk c ++ (print_chunks cs ++ rest))
    × ReadsChunks (limit - length c.octets) (print_chunks cs ++ rest) cs rest
first_of_list limit text c cs rest x =
    let len = length-append c.octets (joined cs) in (
      All-head IsChunk c cs x.valid,
      omega (arith, x.fits, len),
      x.text_is ∙ append_assoc (print_chunk c) (print_chunks cs) rest,
      record { valid = All-tail IsChunk c cs x.valid; fits = omega (arith, x.fits, len); text_is = refl },
    )

room_of_rest : (limit : ℕ) (c : Chunk) (cs : List Chunk) (rest : List ℕ) → HasNoChunk (limit - length (joined (c ∷ cs))) rest
    → HasNoChunk (limit - length c.octets - length (joined cs)) rest
room_of_rest limit c cs rest none =
    let same : limit - length (joined (c ∷ cs)) ≡ limit - length c.octets - length (joined cs) = omega (arith, length-append c.octets (joined cs)) in
    subst (λ n. HasNoChunk n rest) same none

-- two lists of chunks of one text, with no further chunk after either, are equal
pub same_chunks : (limit : ℕ) (text : List ℕ) (cs ds : List Chunk) (r q : List ℕ)
    → ReadsChunks limit text cs r → ReadsChunks limit text ds q
    → HasNoChunk (limit - length (joined cs)) r → HasNoChunk (limit - length (joined ds)) q
    → (cs ≡ ds) × (r ≡ q)
same_chunks limit text [] [] r q x y no_r no_q = (refl, sym x.text_is ∙ y.text_is)
same_chunks limit text [] (d ∷ ds) r q x y no_r no_q =
    let first = first_of_list limit text d ds q y in
    absurd (no_r.none d _ first.0 (omega (arith, first.1)) (sym x.text_is ∙ first.2))
same_chunks limit text (c ∷ cs) [] r q x y no_r no_q =
    let first = first_of_list limit text c cs r x in
    absurd (no_q.none c _ first.0 (omega (arith, first.1)) (sym y.text_is ∙ first.2))
same_chunks limit text (c ∷ cs) (d ∷ ds) r q x y no_r no_q =
    let a = first_of_list limit text c cs r x in
    let b = first_of_list limit text d ds q y in
    let heads = same_chunk text c d _ _ a.0 b.0 a.2 b.2 in
    let len : length d.octets ≡ length c.octets = ap (λ (e : Chunk). length e.octets) (sym heads.0) in
    let others = subst (λ n. ReadsChunks (limit - n) (print_chunks ds ++ q) ds q) len b.3 in
    let moved = subst (λ t. ReadsChunks (limit - length c.octets) t ds q) (sym heads.1) others in
    let stops = subst (λ n. HasNoChunk (limit - n - length (joined ds)) q) len (room_of_rest limit d ds q no_q) in
    let tails = same_chunks (limit - length c.octets) (print_chunks cs ++ r) cs ds r q a.3 moved (room_of_rest limit c cs r no_r) stops in
    (λ i. heads.0 i ∷ tails.0 i, tails.1)
