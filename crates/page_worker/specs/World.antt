-- The world outside workers: fetched replies, and clock readings.
-- Used by the contracts of workers and shifts.
use Rattle.std.specs.Prelude.{ℕ, ◌≤◌, List, Result}
use Rattle.fetchers.specs.Giving.{Giving}
use Rattle.http_wire.specs.declared.fault.WireFault.{WireFault}
use Rattle.http_wire.specs.declared.response.HttpReply.{HttpReply}
use Rattle.path_normal.specs.declared.schemes.Schemes.{Schemes}

-- what a fetcher gives for a URL with a limit of octets, its limit of a page's body, for how many seconds a network
-- fault keeps a site closed, the schemes of the pages that it fetches, and a clock's readings
pub record World : Type 1 where
  pub gives : ℕ → List ℕ → Result HttpReply WireFault → Type 0
  pub page_limit : ℕ
  pub closed_for : ℕ
  pub schemes : Schemes
  pub reads : ℕ → Type 0

-- the world of a fetcher and a clock
abbrev pub world_of : Giving → Schemes → (ℕ → Type 0) → World
world_of giving schemes reads = record {
  gives = giving.holds;
  page_limit = giving.page_limit;
  closed_for = giving.closed_for;
  schemes = schemes;
  reads = reads;
}

-- a moment at or after a clock's reading: entries of a gate never go back
abbrev pub IsSinceRead : World → ℕ → Type 0
IsSinceRead world moment = (reading : ℕ) × (world.reads reading × (reading ≤ moment))
