-- The time limits of a fetch and its steps, in seconds.
-- The contracts of `TimeLimits` tie the code's constants to these.
use Rattle.std.specs.Prelude.{◌≡◌, ◌≤◌, ℕ, ◌*◌}
use Rattle.std.specs.Duration.{as_nanos}
use Rattle.http_client.specs.declared.time_limits.TimeLimits.{TimeLimits}

-- the limit of connecting to one address
abbrev pub connect_seconds : ℕ
connect_seconds = 10

-- the limit of one read or write
abbrev pub step_seconds : ℕ
step_seconds = 30

-- the limit of a whole fetch
abbrev pub whole_seconds : ℕ
whole_seconds = 300

-- the nanoseconds of these seconds
abbrev nanoseconds : ℕ → ℕ
nanoseconds seconds = seconds * 1_000_000_000

-- limits of these seconds
pub record AreOfSeconds (connect step whole : ℕ) (limits : TimeLimits) : Type 0 where
  pub connect_is : as_nanos limits.connect ≡ nanoseconds connect
  pub step_is : as_nanos limits.step ≡ nanoseconds step
  pub whole_is : as_nanos limits.whole ≡ nanoseconds whole

-- the standard limits
abbrev pub AreStandard : TimeLimits → Type 0
AreStandard limits = AreOfSeconds connect_seconds step_seconds whole_seconds limits

-- limits of whole seconds, from one to the standard ones
pub record AreWithin (limits : TimeLimits) : Type 0 where
  pub connect : ℕ
  pub step : ℕ
  pub whole : ℕ
  pub connect_in : (1 ≤ connect) × (connect ≤ connect_seconds)
  pub step_in : (1 ≤ step) × (step ≤ step_seconds)
  pub whole_in : (1 ≤ whole) × (whole ≤ whole_seconds)
  pub are : AreOfSeconds connect step whole limits
