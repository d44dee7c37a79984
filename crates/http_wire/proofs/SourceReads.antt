-- What several reads of a source leave, and what its whole input is.
-- Used by the proofs of the loops over reads.
use Rattle.std.proofs.Common.{◌≡◌, ℕ, ◌<◌, List, [], ◌∷◌, ◌++◌, length, refl, sym, ap, ◌∙◌, arith, append_assoc, append-nil, Option, Some, None}
use Rattle.std.specs.Prelude.{IfSome}
use Rattle.std.specs.Io.KnownBytes.{Consumes, IsAtEnd}
use Rattle.http_wire.specs.Reading.{Grows, IsWhole}

-- the octets that a source is known to give
abbrev pub ahead : Option (List ℕ) → List ℕ
ahead None = []
ahead (Some octets) = octets

pub whole_now : (left : Option (List ℕ)) (seen : List ℕ) → IsWhole left seen (seen ++ ahead left)
whole_now None seen = record { more = []; parts = refl; known = tt }
whole_now (Some octets) seen = record { more = octets; parts = refl; known = refl }

known_before : (left left' : Option (List ℕ)) (piece more : List ℕ) → Consumes left left' piece → IfSome left' (λ octets. octets ≡ more)
    → IfSome left (λ octets. octets ≡ piece ++ more)
known_before None left' piece more read known = tt
known_before (Some xs) None piece more read known = absurd read
known_before (Some xs) (Some ys) piece more read known = read ∙ ap (λ t. piece ++ t) known

pub whole_before : (left left' : Option (List ℕ)) (old new input : List ℕ) → Grows left left' old new → IsWhole left' new input → IsWhole left old input
whole_before left left' old new input grows whole = record {
  more = grows.piece ++ whole.more;
  parts = whole.parts ∙ ap (λ t. t ++ whole.more) grows.grown ∙ append_assoc old grows.piece whole.more;
  known = known_before left left' grows.piece whole.more grows.read whole.known;
}

known_ended : (left : Option (List ℕ)) → IsAtEnd left → IfSome left (λ octets. octets ≡ [])
known_ended None ended = tt
known_ended (Some octets) ended = ended

pub whole_ended : (left : Option (List ℕ)) (seen : List ℕ) → IsAtEnd left → IsWhole left seen seen
whole_ended left seen ended = record { more = []; parts = sym (append-nil seen); known = known_ended left ended }

pub whole_past : (left : Option (List ℕ)) (seen : List ℕ) → IfSome left (λ octets. 0 < length octets)
    → (more : List ℕ) × (0 < length more) × IsWhole left seen (seen ++ more)
whole_past None seen some = (0 ∷ [], omega arith, record { more = 0 ∷ []; parts = refl; known = tt })
whole_past (Some octets) seen some = (octets, some, record { more = octets; parts = refl; known = refl })
