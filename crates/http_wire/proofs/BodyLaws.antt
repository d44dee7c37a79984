-- A text gives one body at most, and none beside a fault, whatever the framing.
-- RFC 9112, section 6.3.
use Rattle.std.proofs.Common.{◌⊎◌, inl, inr, ◌≡◌, ℕ, ◌+◌, ◌-◌, ◌<◌, ◌≤◌, Bool, true, false, List, [], ◌∷◌, ◌++◌, length, take, refl, sym, ap, subst, ◌∙◌, arith, length-append}
use Rattle.std.proofs.lemmas.List.{length-take-le}
use Rattle.http_wire.specs.declared.framing.Framing.{Framing}
use Rattle.http_wire.specs.declared.framing.Framing.TheVariants.{Counted, Chunked, ToEnd}
use Rattle.http_wire.specs.Bodies.{GivesFirst, GivesCounted, GivesToEnd, Gives, EndsInBody, IsBodyPrefix, IsBadBody}
use Rattle.http_wire.specs.Chunks.{GivesChunked, EndsInChunked, EndsTooLong}
use Rattle.http_wire.proofs.ChunkLists.{prefixes_same}
use Rattle.http_wire.proofs.ChunkLaws.{gives_unique, gives_used, gives_append, ends_excludes, refused_excludes, long_excludes, take_within}

-- ---- how long a text is that gives octets

first_length : (limit : ℕ) (text given rest : List ℕ) → GivesFirst limit text given rest → length text ≡ limit + 1 + length rest
first_length limit text given rest first =
    omega (arith, first.full, ap length first.parts, length-append given (first.last ∷ rest))

whole_length : (text given rest : List ℕ) → text ≡ given ++ rest → length text ≡ length given + length rest
whole_length text given rest parts = ap length parts ∙ length-append given rest

-- ---- one body at most

first_unique : (limit : ℕ) (text a b ra rb : List ℕ) → GivesFirst limit text a ra → GivesFirst limit text b rb → a ≡ b
first_unique limit text a b ra rb x y =
    let same = prefixes_same a b (x.last ∷ ra) (y.last ∷ rb) (x.full ∙ sym y.full) (sym x.parts ∙ y.parts) in same.0

counted_unique : (size limit : ℕ) (text a b : List ℕ) (ca cb : Bool) (ra rb : List ℕ) → GivesCounted size limit text a ca ra → GivesCounted size limit text b cb rb
    → (a ≡ b) × (ca ≡ cb)
counted_unique size limit text a b false false ra rb (fits, len, parts) (_, len_b, parts_b) =
    let same = prefixes_same a b ra rb (len ∙ sym len_b) (sym parts ∙ parts_b) in (same.0, refl)
counted_unique size limit text a b false true ra rb (fits, len, parts) (past, first) = absurd (omega (arith, fits, past))
counted_unique size limit text a b true false ra rb (past, first) (fits, len, parts) = absurd (omega (arith, fits, past))
counted_unique size limit text a b true true ra rb (_, x) (_, y) = (first_unique limit text a b ra rb x y, refl)

end_unique : (limit : ℕ) (text a b : List ℕ) (ca cb : Bool) (ra rb : List ℕ) → GivesToEnd limit text a ca ra → GivesToEnd limit text b cb rb
    → (a ≡ b) × (ca ≡ cb)
end_unique limit text a b false false ra rb (_, is, _) (_, is_b, _) = (sym is ∙ is_b, refl)
end_unique limit text a b false true ra rb (fits, is, _) y =
    absurd (omega (arith, fits, ap length is, first_length limit text b rb y))
end_unique limit text a b true false ra rb x (fits, is, _) =
    absurd (omega (arith, fits, ap length is, first_length limit text a ra x))
end_unique limit text a b true true ra rb x y = (first_unique limit text a b ra rb x y, refl)

pub body_unique : (framing : Framing) (limit : ℕ) (text a b : List ℕ) (ca cb : Bool) (ra rb : List ℕ) → Gives framing limit text a ca ra → Gives framing limit text b cb rb
    → (a ≡ b) × (ca ≡ cb)
body_unique (Counted size) limit text a b ca cb ra rb x y = counted_unique size limit text a b ca cb ra rb x y
body_unique Chunked limit text a b ca cb ra rb x y =
    let same = gives_unique limit text a b ca cb ra rb x y in (same.0, same.1)
body_unique ToEnd limit text a b ca cb ra rb x y = end_unique limit text a b ca cb ra rb x y

-- ---- none beside a fault

counted_ends : (size limit : ℕ) (text given : List ℕ) (cut : Bool) (rest : List ℕ) → length text < size → length text ≤ limit
    → GivesCounted size limit text given cut rest → ⊥
counted_ends size limit text given false rest less few (fits, len, parts) =
    omega (arith, less, len, whole_length text given rest parts)
counted_ends size limit text given true rest less few (past, first) =
    omega (arith, few, first_length limit text given rest first)

pub body_ends : (framing : Framing) (limit : ℕ) (text given : List ℕ) (cut : Bool) (rest : List ℕ) → EndsInBody framing limit text → Gives framing limit text given cut rest → ⊥
body_ends (Counted size) limit text given cut rest (less, few) gives = counted_ends size limit text given cut rest less few gives
body_ends Chunked limit text given cut rest ends gives = ends_excludes limit text given cut rest ends gives
body_ends ToEnd limit text given cut rest ends gives = ends

pub body_bad : (framing : Framing) (limit : ℕ) (text given : List ℕ) (cut : Bool) (rest : List ℕ) → IsBadBody framing limit text → Gives framing limit text given cut rest → ⊥
body_bad (Counted size) limit text given cut rest bad gives = bad
body_bad Chunked limit text given cut rest bad gives = refused_excludes limit text given cut rest bad gives
body_bad ToEnd limit text given cut rest bad gives = bad

-- ---- none within a prefix

counted_prefix : (size limit n : ℕ) (text given : List ℕ) (cut : Bool) (rest : List ℕ) → n < size → n ≤ limit → length text ≤ n + length rest
    → GivesCounted size limit text given cut rest → ⊥
counted_prefix size limit n text given false rest less few within (fits, len, parts) =
    omega (arith, less, within, len, whole_length text given rest parts)
counted_prefix size limit n text given true rest less few within (past, first) =
    omega (arith, few, within, first_length limit text given rest first)

end_prefix : (limit n : ℕ) (text given : List ℕ) (cut : Bool) (rest : List ℕ) → n ≤ limit → n < length text → length text ≤ n + length rest
    → GivesToEnd limit text given cut rest → ⊥
end_prefix limit n text given false rest few more within (fits, is, none) = omega (arith, more, within, ap length none)
end_prefix limit n text given true rest few more within first =
    omega (arith, few, within, first_length limit text given rest first)

chunks_within : (limit n : ℕ) (text given : List ℕ) (cut : Bool) (rest : List ℕ) → length text ≤ n + length rest → GivesChunked limit text given cut rest
    → (after : List ℕ) × GivesChunked limit (take n text) given cut after
chunks_within limit n text given cut rest within gives =
    let (used, parts, used_gives) = gives_used limit text given cut rest gives in
    let fits : length used ≤ n = omega (arith, within, whole_length text used rest parts) in
    let after = take (n - length used) rest in
    let prefix : used ++ after ≡ take n text = sym (ap (take n) parts ∙ take_within n used rest fits) in
    (after, subst (λ t. GivesChunked limit t given cut after) prefix (gives_append limit used given cut [] after used_gives))

chunks_prefix : (limit n : ℕ) (text given : List ℕ) (cut : Bool) (rest : List ℕ) → EndsInChunked limit (take n text) ⊎ EndsTooLong limit (take n text)
    → length text ≤ n + length rest → GivesChunked limit text given cut rest → ⊥
chunks_prefix limit n text given cut rest prefix within gives =
    let (after, stands) = chunks_within limit n text given cut rest within gives in
    elim prefix [
      | inl ends ↦ ends_excludes limit (take n text) given cut after ends stands
      | inr long ↦ long_excludes limit (take n text) given cut after long stands
    ]

-- no body ends within its proper prefix
pub body_prefix : (framing : Framing) (limit n : ℕ) (text given : List ℕ) (cut : Bool) (rest : List ℕ) → IsBodyPrefix framing limit (take n text) → n < length text
    → length text ≤ n + length rest → Gives framing limit text given cut rest → ⊥
body_prefix (Counted size) limit n text given cut rest (less, few) more within gives =
    let len : length (take n text) ≡ n = length-take-le n text (omega arith) in
    counted_prefix size limit n text given cut rest (omega (arith, less, len)) (omega (arith, few, len)) within gives
body_prefix Chunked limit n text given cut rest prefix more within gives =
    chunks_prefix limit n text given cut rest prefix within gives
body_prefix ToEnd limit n text given cut rest few more within gives =
    let len : length (take n text) ≡ n = length-take-le n text (omega arith) in
    end_prefix limit n text given cut rest (omega (arith, few, len)) more within gives
