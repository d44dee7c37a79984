-- A site of a shift: when a worker may enter it, and what changes when one enters or leaves.
-- Used by `ShiftSite`.
use Rattle.std.specs.Prelude.{◌≡◌, ◌+◌, ◌-◌, ◌==◌, ◌&&◌, ℕ, Bool, Some, true, false, if◌then◌else◌, nat_lt, not}
use Rattle.crawl_workers.specs.Pauses.{begun_at, later_of}
use Rattle.crawl_workers.specs.declared.site.ShiftSite.{ShiftSite}
use Rattle.crawl_workers.specs.declared.site.Robots.{Robots}
use Rattle.crawl_workers.specs.declared.site.Robots.TheVariants as robots

-- a worker fetches the robots.txt, or is about to
abbrev pub is_fetched : Robots → Bool
is_fetched robots.Fetched = true
is_fetched _ = false

-- a worker may enter: a job is left, a place is free, no worker fetches the robots.txt, and none is to fetch next
abbrev pub may_enter : ShiftSite → ℕ → Bool
may_enter site places =
    nat_lt 0 site.left && (nat_lt site.workers places && (not (is_fetched site.robots) && not site.next_is_taken))

-- a worker that enters fetches the robots.txt if nothing is known of it
abbrev pub seen_to : Robots → Robots
seen_to robots.Unknown = robots.Fetched
seen_to known = known

-- a worker enters: one job less is left, one more worker is there; with pauses it is to fetch next
abbrev pub entered_by : Bool → ShiftSite → ShiftSite
entered_by pauses site =
    record site {
      left = site.left - 1;
      workers = site.workers + 1;
      robots = seen_to site.robots;
      next_is_taken =
          pauses;
    }

-- if no worker is left, nobody fetches the robots.txt
abbrev pub left_to : ℕ → Robots → Robots
left_to workers known = if workers == 0 && is_fetched known then robots.Unknown else known

-- a worker leaves, and another may fetch next
abbrev pub left_by : ShiftSite → ShiftSite
left_by site =
    record site { workers = site.workers - 1; robots = left_to (site.workers - 1) site.robots; next_is_taken = false }

-- a fetch has begun, so another worker may fetch next; nothing else changed
pub record HasBegun (old new : ShiftSite) (now : ℕ) : Type 0 where
  pub begun : begun_at new.begun ≡ Some (later_of (begun_at old.begun) now)
  pub same : new ≡ record old { begun = new.begun; next_is_taken = false }

-- a worker waits to fetch next
abbrev pub awaited_by : ShiftSite → ShiftSite
awaited_by site = record site { next_is_taken = true }
