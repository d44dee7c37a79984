-- Numbered lines as list entries: the first, the others, and their numbers.
-- Used by `GroupLaws` and `Walks`.
use Rattle.std.proofs.Common.{◌≡◌, ℕ, ◌+◌, ◌<◌, ◌≤◌, ◌⊎◌, inl, inr, List, [], ◌∷◌, length, map, zero, suc, slice_index_or, Contains, refl, ap, ◌∙◌, arith}
use Rattle.std.proofs.lemmas.List.{get_or-map, length-map}
use Rattle.robots_text.specs.Records.{Record, Numbered, numbered_from}

-- a record with its number
abbrev pub at : ℕ → Record → Numbered
at line kind = record { line = line; kind = kind }

entry_at : {A : Type 0} (x y : A) (xs : List A) (k : ℕ) → k < length (x ∷ xs) → slice_index_or (x ∷ xs) k y ≡ y → (x ≡ y) ⊎ Contains xs y
entry_at x y xs zero within is = inl is
entry_at x y xs (suc k) within is = inr (k, omega arith, is)

pub entry_of : {A : Type 0} (x y : A) (xs : List A) → Contains (x ∷ xs) y → (x ≡ y) ⊎ Contains xs y
entry_of x y xs stands = entry_at x y xs stands.0 stands.1 stands.2

pub behind : {A : Type 0} (x y : A) (xs : List A) → Contains xs y → Contains (x ∷ xs) y
behind x y xs stands = let within = stands.1 in (suc stands.0, omega arith, stands.2)

pub first_of : {A : Type 0} (x : A) (xs : List A) → Contains (x ∷ xs) x
first_of x xs = (0, omega arith, refl)

pub none_of : {A : Type 0} (y : A) → Contains [] y → ⊥
none_of y stands = let within = stands.1 in absurd (omega arith)

pub mapped : {A B : Type 0} (f : A → B) (x : A) (xs : List A) → Contains xs x → Contains (map f xs) (f x)
mapped f x xs stands = (stands.0, omega (arith, length-map xs f, stands.1), get_or-map f xs stands.0 x (f x) stands.1 ∙ ap f stands.2)

pub of_mapped : {A B : Type 0} (f : A → B) (y : B) (xs : List A) → Contains (map f xs) y → (x : A) × Contains xs x × (f x ≡ y)
of_mapped f y [] stands = absurd (none_of y stands)
of_mapped f y (x ∷ xs) stands = elim (entry_of (f x) y (map f xs) stands) [
  | inl is ↦ (x, first_of x xs, is)
  | inr rest ↦ (let one = of_mapped f y xs rest in (one.0, behind x one.0 xs one.1, one.2))
]

pub numbered_above : (n : ℕ) (ks : List Record) (y : Numbered) → Contains (numbered_from n ks) y → n ≤ y.line
numbered_above n [] y stands = absurd (none_of y stands)
numbered_above n (k ∷ ks) y stands = elim (entry_of (at n k) y (numbered_from (n + 1) ks) stands) [
  | inl e ↦ (let same : n ≡ y.line = ap (λ z. z.line) e in omega arith)
  | inr rest ↦ (let late : n + 1 ≤ y.line = numbered_above (n + 1) ks y rest in omega arith)
]

-- the lines after a number
abbrev pub Late : ℕ → List Numbered → Type 0
Late n tail = (y : Numbered) → Contains tail y → n < y.line

pub late_from : (n : ℕ) (ks : List Record) → Late n (numbered_from (n + 1) ks)
late_from n ks y stands = let above : n + 1 ≤ y.line = numbered_above (n + 1) ks y stands in omega arith
