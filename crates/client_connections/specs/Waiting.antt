-- How long a client is waited for, in nanoseconds.
-- The contracts of `Waiting` and of `ClientStream` cite it.
use Rattle.std.specs.Prelude.{◌≡◌, ◌⊎◌, ℕ, ◌+◌, ◌*◌, ◌<◌, ◌≤◌, min, List, take, Contains, Result, IsErr, IsOkAnd}
use Rattle.std.specs.Duration.{as_nanos, max_nanos}
use Rattle.std.specs.declared.time.Duration.{Duration}
use Rattle.client_connections.specs.declared.waiting.Waiting.{Waiting}

-- the longest patience between two line ends, in seconds
abbrev pub patience_seconds : ℕ
patience_seconds = 300

-- a possible patience in seconds
abbrev pub IsPatience : ℕ → Type 0
IsPatience seconds = (1 ≤ seconds) × (seconds ≤ patience_seconds)

-- how long reads wait for a client between two line ends while another one waits for its place, in seconds
abbrev pub silent_seconds : ℕ
silent_seconds = 5

-- the nanoseconds of these seconds
abbrev pub nanoseconds : ℕ → ℕ
nanoseconds seconds = seconds * 1_000_000_000

-- nothing was waited yet, with this patience
pub record IsNew (nanos : ℕ) (waiting : Waiting) : Type 0 where
  pub waited : as_nanos waiting.waited ≡ 0
  pub patience : as_nanos waiting.patience ≡ nanos

-- no less was waited, with the same patience
pub record WaitsNoLess (old new : Waiting) : Type 0 where
  pub waited : as_nanos old.waited ≤ as_nanos new.waited
  pub patience : new.patience ≡ old.patience

-- this much more was waited, as far as a `Duration` counts
pub record AddsUp (old : Waiting) (spent : ℕ) (new : Waiting) : Type 0 where
  pub sum : as_nanos new.waited ≡ min (as_nanos old.waited + spent) max_nanos
  pub no_less : WaitsNoLess old new

-- the patience is over
abbrev pub IsOver : Waiting → Type 0
IsOver waiting = as_nanos waiting.patience ≤ as_nanos waiting.waited

-- a try's wait: some time, within the remaining patience
pub record IsTryTime (waiting : Waiting) (time : Duration) : Type 0 where
  pub some : 0 < as_nanos time
  pub left : as_nanos waiting.waited + as_nanos time ≤ as_nanos waiting.patience

-- a waiting call: with the patience over it fails, and the waited time never falls
pub record WaitsOn {E : Type 0} (old : Waiting) (result : Result ℕ E) (new : Waiting) : Type 0 where
  pub fails : IsOver old → IsErr result
  pub no_less : WaitsNoLess old new

-- a read of these octets has an LF
abbrev pub BringsLineEnd : {E : Type 0} → Result ℕ E → List ℕ → Type 0
BringsLineEnd result octets = IsOkAnd result (λ count. Contains (take count octets) 10)

-- a waiting read: the time restarts with an LF, and never falls otherwise
pub record ReadWaits {E : Type 0} (old : Waiting) (result : Result ℕ E) (octets : List ℕ) (new : Waiting) : Type 0 where
  pub fails : IsOver old → IsErr result
  pub line_end : BringsLineEnd result octets → IsNew (as_nanos old.patience) new
  pub no_less : BringsLineEnd result octets ⊎ WaitsNoLess old new

-- a read by a client whose place others may wait for: its silence restarts with an LF, and never falls otherwise
pub record CountsSilence {E : Type 0} (old : Waiting) (result : Result ℕ E) (octets : List ℕ) (new : Waiting)
    : Type 0 where
  pub line_end : BringsLineEnd result octets → IsNew (as_nanos old.patience) new
  pub no_less : BringsLineEnd result octets ⊎ WaitsNoLess old new
