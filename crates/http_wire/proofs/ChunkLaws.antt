-- A text gives one body at most, whatever follows it, and none beside a fault.
-- RFC 9112, section 7.1.
use Rattle.std.proofs.Common.{◌≡◌, ℕ, ◌+◌, ◌-◌, ◌<◌, ◌≤◌, Bool, true, false, List, [], ◌∷◌, ◌++◌, length, take, refl, sym, ap, subst, ◌∙◌, arith, append_assoc, append-nil, length-append, inl, inr}
use Rattle.std.proofs.Math.Seq.{take-append-add}
use Rattle.std.proofs.lemmas.List.{take_all, take-append-le}
use Rattle.httparse.specs.Ascii.{crlf_bytes}
use Rattle.httparse.specs.Grammar.{ChunkLine, print_chunk_line, chunk_size, ReadsChunkLine, HasNoChunkLine, NeverHasChunkLine, print_section, ReadsSection}
use Rattle.httparse.specs.Spans.{SectionOverflows}
use Rattle.httparse.proofs.ChunkLemmas.{chunk_line_unique, ReadsChunkLine-append}
use Rattle.httparse.proofs.GrammarLemmas.{section_unique}
use Rattle.httparse.proofs.PieceLemmas.{front-append}
use Rattle.http_wire.specs.Limits.{max_trailers, max_trailer_bytes}
use Rattle.http_wire.specs.Chunks.{Chunk, print_chunks, joined, ReadsChunks, ReadsTrailers, GivesChunked, AfterChunks, AfterLast, AfterOctets, NeverHasEnd, EndsAt, in_line, in_octets, in_end, in_trailers, EndsInChunked, IsTooLong, IsBadAt, bad_line, bad_end, bad_trailers, too_long, IsBadChunked, HasTooManyLines, EndsTooLong, IsRefusedChunked, print_body, print_prefix}
use Rattle.http_wire.proofs.ChunkLists.{prefixes_same, regroup, line_of, HasNoChunk, same_chunks}

-- ---- a body by its parts: chunks, and what follows the last of them

-- text is a chunk's line and its octets up to the first past the room, and then rest
pub record ReadsPast (room : ℕ) (text prefix rest : List ℕ) : Type 0 where
  pub line : ChunkLine
  pub reads : ReadsChunkLine text line (prefix ++ rest)
  pub within : length prefix ≤ chunk_size line
  pub past : length prefix ≡ room + 1

-- what follows the chunks of a body, and its octets
abbrev pub GivesAt : ℕ → List ℕ → List ℕ → Bool → List ℕ → Type 0
GivesAt room text prefix false rest = (prefix ≡ []) × AfterLast (λ after. ReadsTrailers after rest) text
GivesAt room text prefix true rest = ReadsPast room text prefix rest

-- the parts of a body that is given
pub record Parts (limit : ℕ) (text given : List ℕ) (cut : Bool) (rest : List ℕ) : Type 0 where
  pub chunks : List Chunk
  pub middle : List ℕ
  pub prefix : List ℕ
  pub reads : ReadsChunks limit text chunks middle
  pub at : GivesAt (limit - length (joined chunks)) middle prefix cut rest
  pub given_is : given ≡ take limit (joined chunks ++ prefix)

pub parts : (limit : ℕ) (text given : List ℕ) (cut : Bool) (rest : List ℕ)
    → GivesChunked limit text given cut rest → Parts limit text given cut rest
parts limit text given false rest g =
    let b = g.body in
    let section = print_section b.trailers b.end in
    let fits : length (joined b.chunks) ≤ limit = omega (arith, g.fits, ap length g.given_is) in
    record {
      chunks = b.chunks;
      middle = print_chunk_line b.last ++ (section ++ rest);
      prefix = [];
      reads = record {
        valid = g.valid.chunks;
        fits = fits;
        text_is = g.text_is ∙ regroup (print_chunks b.chunks) (print_chunk_line b.last) section rest;
      };
      at = (
        refl,
        (
          b.last,
          section ++ rest,
          (g.valid.last, refl),
          g.valid.size,
          record {
            fields = b.trailers;
            last = b.end;
            reads = (g.valid.trailers, refl);
            few = g.valid.few;
            short = g.valid.short;
          },
        ),
      );
      given_is = g.given_is ∙ sym (take_all limit (joined b.chunks) fits) ∙ ap (take limit) (sym (append-nil (joined b.chunks)));
    }
parts limit text given true rest g =
    let b = g.prefix in
    let fits = g.valid.fits in
    record {
      chunks = b.chunks;
      middle = print_chunk_line b.line ++ (b.octets ++ rest);
      prefix = b.octets;
      reads = record {
        valid = g.valid.chunks;
        fits = fits;
        text_is = g.text_is ∙ regroup (print_chunks b.chunks) (print_chunk_line b.line) b.octets rest;
      };
      at = record {
        line = b.line;
        reads = (g.valid.line, refl);
        within = g.valid.within;
        past = omega (arith, fits, g.valid.past, length-append (joined b.chunks) b.octets);
      };
      given_is = g.given_is;
    }

-- ---- no further chunk

pub last_no_chunk : (P : List ℕ → Type 0) (room : ℕ) (text : List ℕ) → AfterLast P text → HasNoChunk room text
last_no_chunk P room text (line, after, reads, zero, p) = record {
  none = λ c rest valid fits e.
      let same = chunk_line_unique text line c.line _ _ reads (line_of text rest c valid e) in
      omega (arith, zero, valid.some, ap chunk_size same.0);
}

octets_no_chunk : (P : List ℕ → Type 0) (bound room : ℕ) (text : List ℕ) → AfterOctets bound P text
    → ((rest : List ℕ) → P (crlf_bytes ++ rest) → ⊥) → HasNoChunk room text
octets_no_chunk P bound room text (line, octets, after, reads, some, size, fits, p) never = record {
  none = λ c rest valid _ e.
      let same = chunk_line_unique text line c.line _ _ reads (line_of text rest c valid e) in
      let tails = prefixes_same octets c.octets after (crlf_bytes ++ rest) (size ∙ ap chunk_size same.0 ∙ sym valid.size) same.1 in
      never rest (subst P tails.1 p);
}

line_no_chunk : (room : ℕ) (text : List ℕ) → HasNoChunkLine text → HasNoChunk room text
line_no_chunk room text none = record { none = λ c rest valid _ e. none c.line _ (line_of text rest c valid e) }

gives_no_chunk : (room : ℕ) (text prefix : List ℕ) (cut : Bool) (rest : List ℕ) → GivesAt room text prefix cut rest → HasNoChunk room text
gives_no_chunk room text prefix false rest g = last_no_chunk (λ after. ReadsTrailers after rest) room text g.1
gives_no_chunk room text prefix true rest g = record {
  none = λ c after valid fits e.
      let same = chunk_line_unique text g.line c.line _ _ g.reads (line_of text after c valid e) in
      omega (arith, g.within, g.past, valid.size, fits, ap chunk_size same.0);
}

not_open : (rest : List ℕ) → (crlf_bytes ++ rest ≡ []) → ⊥
not_open rest e = cc

not_half : (rest : List ℕ) → (crlf_bytes ++ rest ≡ 13 ∷ []) → ⊥
not_half rest e = cc

pub ends_no_chunk : (room : ℕ) (text : List ℕ) → EndsAt room text → HasNoChunk room text
ends_no_chunk room text (in_line none may) = line_no_chunk room text none
ends_no_chunk room text (in_octets line part reads less fits) = record {
  none = λ c rest valid _ e.
      let same = chunk_line_unique text line c.line _ _ reads (line_of text rest c valid e) in
      omega (arith, less, valid.size, ap chunk_size same.0, ap length same.1, length-append c.octets (crlf_bytes ++ rest));
}
ends_no_chunk room text (in_end x) =
    octets_no_chunk _ room room text x (λ rest p. elim p [ inl e ↦ not_open rest e | inr e ↦ not_half rest e ])
ends_no_chunk room text (in_trailers x) = last_no_chunk _ room text x

pub never_now : (text : List ℕ) → ((more : List ℕ) → HasNoChunkLine (text ++ more)) → HasNoChunkLine text
never_now text never = subst HasNoChunkLine (append-nil text) (never [])

pub bad_no_chunk : (room : ℕ) (text : List ℕ) → IsBadAt room text → HasNoChunk room text
bad_no_chunk room text (bad_line never) = line_no_chunk room text (never_now text never)
bad_no_chunk room text (bad_end x) =
    octets_no_chunk _ room room text x (λ rest p. p [] rest (append-nil (crlf_bytes ++ rest)))
bad_no_chunk room text (bad_trailers x) = last_no_chunk _ room text x
bad_no_chunk room text (too_long x) = last_no_chunk _ room text x

-- ---- what a body excludes, after the chunks

line_against : (room : ℕ) (text prefix : List ℕ) (cut : Bool) (rest : List ℕ) → HasNoChunkLine text → GivesAt room text prefix cut rest → ⊥
line_against room text prefix false rest none (is, (line, after, reads, zero, p)) = none line after reads
line_against room text prefix true rest none g = none g.line _ g.reads

octets_against : (P : List ℕ → Type 0) (room : ℕ) (text prefix : List ℕ) (cut : Bool) (rest : List ℕ) → AfterOctets room P text → GivesAt room text prefix cut rest → ⊥
octets_against P room text prefix false rest (line, octets, after, reads, some, size, fits, p) (is, (last, end, reads_last, zero, q)) =
    let same = chunk_line_unique text line last _ _ reads reads_last in
    omega (arith, some, zero, ap chunk_size same.0)
octets_against P room text prefix true rest (line, octets, after, reads, some, size, fits, p) g =
    let same = chunk_line_unique text line g.line _ _ reads g.reads in
    omega (arith, size, fits, g.within, g.past, ap chunk_size same.0)

last_against : (P : List ℕ → Type 0) (room : ℕ) (text prefix : List ℕ) (cut : Bool) (rest : List ℕ) → AfterLast P text
    → ((after : List ℕ) → P after → ReadsTrailers after rest → ⊥) → GivesAt room text prefix cut rest → ⊥
last_against P room text prefix false rest (line, after, reads, zero, p) never (is, (last, end, reads_last, _, q)) =
    let same = chunk_line_unique text line last _ _ reads reads_last in
    never end (subst P same.1 p) q
last_against P room text prefix true rest (line, after, reads, zero, p) never g =
    let same = chunk_line_unique text line g.line _ _ reads g.reads in
    omega (arith, zero, g.within, g.past, ap chunk_size same.0)

part_against : (room : ℕ) (text part : List ℕ) (line : ChunkLine) (prefix : List ℕ) (cut : Bool) (rest : List ℕ) → ReadsChunkLine text line part
    → length part < chunk_size line → length part ≤ room → GivesAt room text prefix cut rest → ⊥
part_against room text part line prefix false rest reads less fits (is, (last, end, reads_last, zero, q)) =
    let same = chunk_line_unique text line last _ _ reads reads_last in
    omega (arith, less, zero, ap chunk_size same.0)
part_against room text part line prefix true rest reads less fits g =
    let same = chunk_line_unique text line g.line _ _ reads g.reads in
    omega (arith, fits, g.past, ap length same.1, length-append prefix rest)

ends_at : (room : ℕ) (text prefix : List ℕ) (cut : Bool) (rest : List ℕ) → EndsAt room text → GivesAt room text prefix cut rest → ⊥
ends_at room text prefix cut rest (in_line none may) g = line_against room text prefix cut rest none g
ends_at room text prefix cut rest (in_octets line part reads less fits) g = part_against room text part line prefix cut rest reads less fits g
ends_at room text prefix cut rest (in_end x) g = octets_against _ room text prefix cut rest x g
ends_at room text prefix cut rest (in_trailers x) g =
    last_against _ room text prefix cut rest x (λ after p t. p.none t.fields t.last rest t.reads) g

pub take_within : (n : ℕ) (prefix rest : List ℕ) → length prefix ≤ n → take n (prefix ++ rest) ≡ prefix ++ take (n - length prefix) rest
take_within n prefix rest fits =
    let whole : length prefix + (n - length prefix) ≡ n = omega arith in
    subst (λ m. take m (prefix ++ rest) ≡ prefix ++ take (n - length prefix) rest) whole (take-append-add prefix rest (n - length prefix))

trailers_prefix : (text rest : List ℕ) (t : ReadsTrailers text rest)
    → ReadsSection (take max_trailer_bytes text) t.fields t.last (take (max_trailer_bytes - length (print_section t.fields t.last)) rest)
trailers_prefix text rest t =
    (t.reads.0, ap (take max_trailer_bytes) t.reads.1 ∙ take_within max_trailer_bytes (print_section t.fields t.last) rest t.short)

bad_at : (room : ℕ) (text prefix : List ℕ) (cut : Bool) (rest : List ℕ) → IsBadAt room text → GivesAt room text prefix cut rest → ⊥
bad_at room text prefix cut rest (bad_line never) g = line_against room text prefix cut rest (never_now text never) g
bad_at room text prefix cut rest (bad_end x) g = octets_against _ room text prefix cut rest x g
bad_at room text prefix cut rest (bad_trailers x) g =
    last_against _ room text prefix cut rest x
    (λ after p t. let over = p [] t.fields t.last rest (subst (λ s. ReadsSection s t.fields t.last rest) (sym (append-nil after)) t.reads) in omega (arith, over, t.few)) g
bad_at room text prefix cut rest (too_long x) g =
    last_against _ room text prefix cut rest x
    (λ after p t. let over = p.none t.fields t.last _ (trailers_prefix after rest t) in omega (arith, over, t.few)) g

-- ---- the laws

against : (P : ℕ → List ℕ → Type 0) (limit : ℕ) (text given : List ℕ) (cut : Bool) (rest : List ℕ) → AfterChunks limit P text → GivesChunked limit text given cut rest
    → ((room : ℕ) (t : List ℕ) → P room t → HasNoChunk room t) → ((room : ℕ) (t prefix : List ℕ) → P room t → GivesAt room t prefix cut rest → ⊥) → ⊥
against P limit text given cut rest (chunks, after, reads, p) gives stops never =
    let g = parts limit text given cut rest gives in
    let same = same_chunks limit text chunks g.chunks after g.middle reads g.reads (stops _ _ p) (gives_no_chunk _ _ _ cut rest g.at) in
    never (limit - length (joined g.chunks)) g.middle g.prefix (subst (λ cs. P (limit - length (joined cs)) g.middle) same.0 (subst (P (limit - length (joined chunks))) same.1 p)) g.at

pub ends_excludes : (limit : ℕ) (text given : List ℕ) (cut : Bool) (rest : List ℕ) → EndsInChunked limit text → GivesChunked limit text given cut rest → ⊥
ends_excludes limit text given cut rest ends gives =
    against EndsAt limit text given cut rest ends gives ends_no_chunk (λ room t prefix p g. ends_at room t prefix cut rest p g)

pub bad_excludes : (limit : ℕ) (text given : List ℕ) (cut : Bool) (rest : List ℕ) → IsBadChunked limit text → GivesChunked limit text given cut rest → ⊥
bad_excludes limit text given cut rest bad gives =
    against IsBadAt limit text given cut rest bad gives bad_no_chunk (λ room t prefix p g. bad_at room t prefix cut rest p g)

pub long_excludes : (limit : ℕ) (text given : List ℕ) (cut : Bool) (rest : List ℕ) → EndsTooLong limit text → GivesChunked limit text given cut rest → ⊥
long_excludes limit text given cut rest long gives =
    against (λ room. AfterLast HasTooManyLines) limit text given cut rest long gives
    (λ room t p. last_no_chunk HasTooManyLines room t p)
    (λ room t prefix p g. last_against HasTooManyLines room t prefix cut rest p (λ after q s. q.none s.fields s.last rest s.reads) g)

pub gives_append : (limit : ℕ) (text given : List ℕ) (cut : Bool) (rest more : List ℕ) → GivesChunked limit text given cut rest
    → GivesChunked limit (text ++ more) given cut (rest ++ more)
gives_append limit text given false rest more g = record {
  body = g.body;
  valid = g.valid;
  text_is = front-append text (print_body g.body) rest more g.text_is;
  given_is = g.given_is;
  fits = g.fits;
}
gives_append limit text given true rest more g = record {
  prefix = g.prefix;
  valid = g.valid;
  text_is = front-append text (print_prefix g.prefix) rest more g.text_is;
  given_is = g.given_is;
}

pub gives_used : (limit : ℕ) (text given : List ℕ) (cut : Bool) (rest : List ℕ) → GivesChunked limit text given cut rest
    → (used : List ℕ) × (text ≡ used ++ rest) × GivesChunked limit used given cut []
gives_used limit text given false rest g = (
  print_body g.body,
  g.text_is,
  record {
    body = g.body;
    valid = g.valid;
    text_is = sym (append-nil (print_body g.body));
    given_is = g.given_is;
    fits = g.fits;
  },
)
gives_used limit text given true rest g = (
  print_prefix g.prefix,
  g.text_is,
  record {
    prefix = g.prefix;
    valid = g.valid;
    text_is = sym (append-nil (print_prefix g.prefix));
    given_is = g.given_is;
  },
)

unique_at : (room : ℕ) (text a b : List ℕ) (ca cb : Bool) (r q : List ℕ) → GivesAt room text a ca r → GivesAt room text b cb q
    → (a ≡ b) × (ca ≡ cb) × (r ≡ q)
unique_at room text a b false false r q (is, (line, after, reads, zero, t)) (is_b, (line_b, after_b, reads_b, zero_b, u)) =
    let same = chunk_line_unique text line line_b after after_b reads reads_b in
    let moved = subst (λ s. ReadsSection s t.fields t.last r) same.1 t.reads in
    (is ∙ sym is_b, refl, (section_unique after_b t.fields u.fields t.last u.last r q moved u.reads).2)
unique_at room text a b false true r q (is, (line, after, reads, zero, t)) y =
    let same = chunk_line_unique text line y.line _ _ reads y.reads in
    absurd (omega (arith, zero, y.within, y.past, ap chunk_size same.0))
unique_at room text a b true false r q x (is, (line, after, reads, zero, t)) =
    let same = chunk_line_unique text line x.line _ _ reads x.reads in
    absurd (omega (arith, zero, x.within, x.past, ap chunk_size same.0))
unique_at room text a b true true r q x y =
    let same = chunk_line_unique text x.line y.line _ _ x.reads y.reads in
    let prefixes = prefixes_same a b r q (x.past ∙ sym y.past) same.1 in
    (prefixes.0, refl, prefixes.1)

pub gives_unique : (limit : ℕ) (text a b : List ℕ) (ca cb : Bool) (ra rb : List ℕ) → GivesChunked limit text a ca ra → GivesChunked limit text b cb rb
    → (a ≡ b) × (ca ≡ cb) × (ra ≡ rb)
gives_unique limit text a b ca cb ra rb x y =
    let p = parts limit text a ca ra x in
    let q = parts limit text b cb rb y in
    let same = same_chunks limit text p.chunks q.chunks p.middle q.middle p.reads q.reads (gives_no_chunk _ _ _ ca ra p.at) (gives_no_chunk _ _ _ cb rb q.at) in
    let moved = subst (λ cs. GivesAt (limit - length (joined cs)) q.middle p.prefix ca ra) same.0
    (subst (λ t. GivesAt (limit - length (joined p.chunks)) t p.prefix ca ra) same.1 p.at) in
    let ends = unique_at (limit - length (joined q.chunks)) q.middle p.prefix q.prefix ca cb ra rb moved q.at in
    let octets : joined p.chunks ++ p.prefix ≡ joined q.chunks ++ q.prefix = λ i. joined (same.0 i) ++ ends.0 i in
    (p.given_is ∙ ap (take limit) octets ∙ sym q.given_is, ends.1, ends.2)

-- ---- more bytes after what can't be read

after_append : (P : ℕ → List ℕ → Type 0) (limit : ℕ) (text more : List ℕ) → AfterChunks limit P text
    → ((room : ℕ) (t : List ℕ) → P room t → P room (t ++ more)) → AfterChunks limit P (text ++ more)
after_append P limit text more (chunks, rest, reads, p) step = (
  chunks,
  rest ++ more,
  record {
    valid = reads.valid;
    fits = reads.fits;
    text_is = front-append text (print_chunks chunks) rest more reads.text_is;
  },
  step (limit - length (joined chunks)) rest p,
)

last_append : (P : List ℕ → Type 0) (text more : List ℕ) → AfterLast P text → ((t : List ℕ) → P t → P (t ++ more)) → AfterLast P (text ++ more)
last_append P text more (line, after, reads, zero, p) step =
    (line, after ++ more, ReadsChunkLine-append text line after more reads, zero, step after p)

octets_append : (P : List ℕ → Type 0) (room : ℕ) (text more : List ℕ) → AfterOctets room P text → ((t : List ℕ) → P t → P (t ++ more)) → AfterOctets room P (text ++ more)
octets_append P room text more (line, octets, after, reads, some, size, fits, p) step =
    let longer = ReadsChunkLine-append text line (octets ++ after) more reads in
    (line, octets, after ++ more, subst (ReadsChunkLine (text ++ more) line) (append_assoc octets after more) longer, some, size, fits, step after p)

end_append : (text more : List ℕ) → NeverHasEnd text → NeverHasEnd (text ++ more)
end_append text more never later rest e = never (more ++ later) rest (sym (append_assoc text more later) ∙ e)

line_append : (text more : List ℕ) → NeverHasChunkLine text → NeverHasChunkLine (text ++ more)
line_append text more never later = subst HasNoChunkLine (sym (append_assoc text more later)) (never (more ++ later))

over_append : (room : ℕ) (text more : List ℕ) → SectionOverflows room text → SectionOverflows room (text ++ more)
over_append room text more over later fields last rest reads =
    over (more ++ later) fields last rest (subst (λ t. ReadsSection t fields last rest) (append_assoc text more later) reads)

long_append : (text more : List ℕ) → IsTooLong text → IsTooLong (text ++ more)
long_append text more x = record {
  long = omega (arith, x.long, length-append text more);
  none = λ fields last rest reads.
      x.none fields last rest (subst (λ t. ReadsSection t fields last rest) (take-append-le max_trailer_bytes text more x.long) reads);
}

bad_more : (room : ℕ) (text more : List ℕ) → IsBadAt room text → IsBadAt room (text ++ more)
bad_more room text more (bad_line never) = bad_line (line_append text more never)
bad_more room text more (bad_end x) = bad_end (octets_append _ room text more x (λ t p. end_append t more p))
bad_more room text more (bad_trailers x) = bad_trailers (last_append _ text more x (λ t p. over_append max_trailers t more p))
bad_more room text more (too_long x) = too_long (last_append IsTooLong text more x (λ t p. long_append t more p))

pub bad_append : (limit : ℕ) (text more : List ℕ) → IsBadChunked limit text → IsBadChunked limit (text ++ more)
bad_append limit text more bad = after_append IsBadAt limit text more bad (λ room t p. bad_more room t more p)

pub refused_excludes : (limit : ℕ) (text given : List ℕ) (cut : Bool) (rest : List ℕ) → IsRefusedChunked limit text → GivesChunked limit text given cut rest → ⊥
refused_excludes limit text given cut rest (inl bad) gives = bad_excludes limit text given cut rest bad gives
refused_excludes limit text given cut rest (inr long) gives = long_excludes limit text given cut rest long gives
