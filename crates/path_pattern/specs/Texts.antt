-- The first octets of texts as numbers, by which texts are compared.
-- Cited by `texts`.
use Rattle.std.specs.Prelude.{ℕ, zero, suc, ◌+◌, ◌*◌, ◌<◌, List, [], ◌∷◌, slice_index_or}

-- this number followed by the next octets of a text, this many, padded with zeros
abbrev pub spelled_number : ℕ → ℕ → List ℕ → ℕ
spelled_number zero so_far text = so_far
spelled_number (suc count) so_far [] = spelled_number count (so_far * 256) []
spelled_number (suc count) so_far (octet ∷ text) = spelled_number count (so_far * 256 + octet) text

-- each number is an octet
abbrev pub AreOctets : List ℕ → Type 0
AreOctets text = (i : ℕ) → slice_index_or text i 0 < 256
