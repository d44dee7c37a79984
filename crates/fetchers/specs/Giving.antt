-- What a fetcher gives.
-- Cited by the trait `Fetcher`.
use Rattle.std.specs.Prelude.{ℕ, List, Result}
use Rattle.http_wire.specs.declared.fault.WireFault.{WireFault}
use Rattle.http_wire.specs.declared.response.HttpReply.{HttpReply}

-- the most octets of a page's body, for how many seconds a network fault keeps a site closed, and what holds of a
-- limit of octets, a URL, and each result of such a fetch
pub record Giving : Type 1 where
  pub page_limit : ℕ
  pub closed_for : ℕ
  pub holds : ℕ → List ℕ → Result HttpReply WireFault → Type 0
