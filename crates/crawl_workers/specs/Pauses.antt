-- The time between the begins of fetches at a site, in nanoseconds of a monotonic clock.
-- Used by `LastBegin` and `ShiftSite`, and by the law of pauses.
use Rattle.std.specs.Prelude.{◌≡◌, ◌<◌, ◌≤◌, ◌+◌, ◌-◌, ◌==◌, ◌∷◌, [], ℕ, Bool, true, if◌then◌else◌, List, Option, Some, None, max}
use Rattle.std.specs.Time.{instant_nanos}
use Rattle.std.specs.declared.time.Instant.{Instant}
use Rattle.crawl_workers.specs.declared.pace.LastBegin.{LastBegin}

-- how long a fetch must wait: the delay, less the time since the last begin
abbrev pub wait_of : ℕ → Option ℕ → ℕ → ℕ
wait_of delay None now = 0
wait_of delay (Some last) now = delay - (now - last)

-- the later of a moment and the last begin
abbrev pub later_of : Option ℕ → ℕ → ℕ
later_of None now = now
later_of (Some last) now = max last now

-- the moment of a reading of the clock, if any
abbrev pub moment_of : Option Instant → Option ℕ
moment_of None = None
moment_of (Some instant) = Some (instant_nanos instant)

-- when the last fetch began, if any
abbrev pub begun_at : LastBegin → Option ℕ
begun_at begun = moment_of begun.last

-- a fetch that comes to a site: of a page, which waits, or a robots.txt
pub record Coming : Type 0 where
  pub waits : Bool
  pub now : ℕ

-- a fetch begins now: it does not wait, or has waited
abbrev pub may_begin : ℕ → Option ℕ → Coming → Bool
may_begin delay last coming = if coming.waits then wait_of delay last coming.now == 0 else true

-- the fetches that begin, in order; a waiting one may come again
abbrev pub begins_of : ℕ → Option ℕ → List Coming → List Coming
begins_of delay last [] = []
begins_of delay last (coming ∷ later) =
    if may_begin delay last coming
    then coming ∷ begins_of delay (Some (later_of last coming.now)) later
    else begins_of delay last later

-- a waiting fetch begins no sooner than the delay after this moment
abbrev pub IsApart : ℕ → Option ℕ → Coming → Type 0
IsApart delay None coming = Unit {0}
IsApart delay (Some last) coming = coming.waits ≡ true → last + delay ≤ coming.now

-- each waiting fetch begins no sooner than the delay after the last begin before it
abbrev pub ArePaced : ℕ → Option ℕ → List Coming → Type 0
ArePaced delay last [] = Unit {0}
ArePaced delay last (coming ∷ later) =
    IsApart delay last coming × ArePaced delay (Some (later_of last coming.now)) later

-- what begins of any sequence is paced
abbrev pub PausesAreKept : Type 0
PausesAreKept = (delay : ℕ) (last : Option ℕ) (coming : List Coming) → 0 < delay
    → ArePaced delay last (begins_of delay last coming)
