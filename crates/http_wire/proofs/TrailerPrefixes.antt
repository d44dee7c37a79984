-- What as many octets as trailers may have tell of the text.
-- Used by `look_full`.
use Rattle.std.proofs.Common.{◌≡◌, ◌≢◌, ◌⊎◌, inl, inr, ℕ, ◌<◌, ◌≤◌, List, [], ◌++◌, length, take, drop, sym, refl, subst, append-nil, take-append-drop}
use Rattle.httparse.specs.Grammar.{ReadsSection, NeverHasSection, LineEnd, Field}
use Rattle.httparse.specs.Spans.{SectionOverflows}
use Rattle.httparse.proofs.GrammarLemmas.{ReadsSection-append}
use Rattle.http_wire.specs.Limits.{max_trailers, max_trailer_bytes}
use Rattle.http_wire.specs.declared.trailers.TrailerSection.{TrailerSection}
use Rattle.http_wire.specs.declared.trailers.TrailerSection.TheVariants as sections
use Rattle.http_wire.specs.Chunks.{ReadsTrailers, IsTooLong}
use Rattle.http_wire.specs.Decoding.{SectionTells}

pub prefix_whole : (n : ℕ) (text rest : List ℕ) → ReadsTrailers (take n text) rest → ReadsTrailers text (rest ++ drop n text)
prefix_whole n text rest t = record {
  fields = t.fields;
  last = t.last;
  reads = subst (λ s. ReadsSection s t.fields t.last (rest ++ drop n text)) (take-append-drop n text) (ReadsSection-append (take n text) t.fields t.last rest (drop n text) t.reads);
  few = t.few;
  short = t.short;
}

pub never_over : (room : ℕ) (text : List ℕ) → NeverHasSection text → SectionOverflows room text
never_over room text never more fields last rest reads = absurd (never more fields last rest reads)

over_now : (room : ℕ) (text : List ℕ) → SectionOverflows room text → (fields : List Field) (last : LineEnd) (rest : List ℕ) → ReadsSection text fields last rest → room < length fields
over_now room text over fields last rest reads =
    over [] fields last rest (subst (λ s. ReadsSection s fields last rest) (sym (append-nil text)) reads)

bad_section : (text : List ℕ) (section : TrailerSection) → max_trailer_bytes ≤ length text
    → SectionTells (take max_trailer_bytes text) section → ((len : ℕ) → section ≢ sections.Whole len) → IsTooLong text
bad_section text (sections.Whole len) long tells other = absurd (other len refl)
bad_section text sections.Open long tells other =
    record { long = long; none = λ fields last rest reads. absurd (tells.0 fields last rest reads) }
bad_section text sections.Over long tells other =
    record { long = long; none = over_now max_trailers (take max_trailer_bytes text) tells.0 }
bad_section text sections.Bad long tells other =
    record { long = long; none = over_now max_trailers (take max_trailer_bytes text) (never_over max_trailers (take max_trailer_bytes text) tells) }

not_whole : (section : TrailerSection) → (section ≡ sections.Open) ⊎ ((section ≡ sections.Over) ⊎ (section ≡ sections.Bad)) → (len : ℕ) → section ≢ sections.Whole len
not_whole section (inl open') len whole = cc
not_whole section (inr (inl over)) len whole = cc
not_whole section (inr (inr bad)) len whole = cc

pub prefix_bad : (text : List ℕ) (section : TrailerSection) → max_trailer_bytes ≤ length text
    → SectionTells (take max_trailer_bytes text) section → (section ≡ sections.Open) ⊎ ((section ≡ sections.Over) ⊎ (section ≡ sections.Bad)) → IsTooLong text
prefix_bad text section long tells other = bad_section text section long tells (not_whole section other)
