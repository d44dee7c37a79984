-- How long the gate fetches for lines sent ahead, in nanoseconds, and what one read returns of them.
-- Used by `LinesInTurn` and `together.rt`.
use Rattle.std.specs.Prelude.{◌≡◌, ◌⊎◌, ℕ, suc, ◌+◌, ◌<◌, ◌≤◌, Bool, true, false, List, take, length, slice_index_or, Result, IsErr, IfOk}
use Rattle.std.specs.Duration.{as_nanos, max_nanos}
use Rattle.std.specs.Io.{StopsAt}
use Rattle.client_connections.specs.Waiting.{AddsUp, IsNew}
use Rattle.client_connections.specs.declared.waiting.Waiting.{Waiting}

-- the largest limit in seconds
abbrev pub ahead_seconds : ℕ
ahead_seconds = 3600

-- a possible limit in seconds
abbrev pub IsAhead : ℕ → Type 0
IsAhead seconds = (1 ≤ seconds) × (seconds ≤ ahead_seconds)

-- the next line is read this long after the one before: if it was sent ahead that time adds up, and too much is
-- refused; else the time restarts
pub record TakesTurn {E : Type 0} (old : Waiting) (at_hand : Bool) (spent : ℕ)
    (result : Result Waiting E) : Type 0 where
  pub adds : at_hand ≡ true → IfOk result (AddsUp old spent)
  pub over : at_hand ≡ true → as_nanos old.patience ≤ as_nanos old.waited + spent → as_nanos old.patience ≤ max_nanos
      → IsErr result
  pub again : at_hand ≡ false → IfOk result (IsNew (as_nanos old.patience))

-- the first octet of FETCH or REFRESH
abbrev pub BeginsFetch : ℕ → Type 0
BeginsFetch octet = (octet ≡ 70) ⊎ (octet ≡ 82)

-- no line that begins among the first n of these octets, after another, may make the gate fetch
abbrev pub HasNoFetchBefore : ℕ → List ℕ → Type 0
HasNoFetchBefore n octets =
    (k : ℕ) → suc k < n → slice_index_or octets k 0 ≡ 10 → ¬ (BeginsFetch (slice_index_or octets (suc k) 0))

-- no line after the first may make the gate fetch
abbrev pub HasNoFetchBehind : List ℕ → Type 0
HasNoFetchBehind octets = HasNoFetchBefore (length octets) octets

-- octets of one line, or lines of which only the first may make the gate fetch
abbrev pub AreInTurn : List ℕ → Type 0
AreInTurn octets = StopsAt octets 10 ⊎ HasNoFetchBehind octets

-- the octets of a read are in turn
abbrev pub BringsTurn : {E : Type 0} → Result ℕ E → List ℕ → Type 0
BringsTurn result octets = IfOk result (λ count. AreInTurn (take count octets))
