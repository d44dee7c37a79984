-- What the workers of a pool return.
-- The contract of `Pool::run`, and of the functions behind it.
use Rattle.std.specs.Prelude.{◌≡◌, ◌⊎◌, List, [], ◌∷◌, Err, Ok, Option, Result, Some}
use Rattle.std.specs.Option.{IsSomeAnd}

-- each seat's worker, in order, returned its work and its receipts
abbrev pub ReturnEach : {S T Q E : Type 0} → (S → Result (T × Q) E → Type 0) → List S → List T → List Q → Type 0
ReturnEach Returns [] [] [] = Unit {0}
ReturnEach Returns (seat ∷ seats) (work ∷ works) (own ∷ receipts) =
    Returns seat (Ok (work, own)) × ReturnEach Returns seats works receipts
ReturnEach Returns _ _ _ = ⊥

-- a worker failed so, and those of the seats before it did not fail
abbrev pub FailsFirst : {S T Q E : Type 0} → (S → Result (T × Q) E → Type 0) → List S → E → Type 0
FailsFirst Returns [] fault = ⊥
FailsFirst {S} {T} {Q} Returns (seat ∷ seats) fault =
    Returns seat (Err fault)
    ⊎ ((work : T) × ((own : Q) × (Returns seat (Ok (work, own)) × FailsFirst Returns seats fault)))

-- the worker of this slot's seat has ended so
abbrev pub HasRun : {S R : Type 0} → (S → R → Type 0) → Option S → Option R → Type 0
HasRun {S} Returns slot end = (seat : S) → slot ≡ Some seat → IsSomeAnd end (Returns seat)
