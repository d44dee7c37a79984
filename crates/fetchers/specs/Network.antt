-- The results of a network, and what contracts see of a TCP fetcher.
-- `TcpFetcher` cites it.
use Rattle.std.specs.Prelude.{◌≡◌, ℕ, List, [], ◌++◌, Option, None, Some, IfSome, Result, String, codes, string_bytes}
use Rattle.std.specs.declared.alloc.Global.{Global}
use Rattle.http_client.specs.Agent.{IsAgent}
use Rattle.http_wire.specs.declared.ending.ConnectionEnding.{ConnectionEnding}
use Rattle.http_wire.specs.declared.ending.ConnectionEnding.TheVariants.{Close}
use Rattle.http_wire.specs.declared.fault.WireFault.{WireFault}
use Rattle.http_wire.specs.declared.response.HttpReply.{HttpReply}
use Rattle.http_wire.specs.Response.{Tells}
use Rattle.path_normal.specs.declared.schemes.Schemes.{Schemes}
use Rattle.path_normal.specs.declared.schemes.Schemes.TheVariants.{Http, HttpAndHttps}
use Rattle.std.specs.declared.net.socket_addr.SocketAddr.{SocketAddr}
use Rattle.http_client.specs.declared.address_block.AddressBlock.{AddressBlock}
use Rattle.http_client.specs.declared.reach.Reach.{Reach}
use Rattle.http_client.specs.declared.time_limits.TimeLimits.{TimeLimits}
use Rattle.fetchers.specs.Limits.{full_closure, no_bound, page_limit}

-- a fetcher: its agent for robots.txt files, the comment after agents of pages, if any, its time limits, its reach, the
-- blocks that it doesn't connect to, the schemes of its pages, the most octets of a page's body, those of the robots
-- texts that it keeps, for how many seconds a network fault keeps a site closed, and what becomes of a connection
-- after a page
pub record TcpView : Type 0 where
  pub agent : List ℕ
  pub contact : Option (List ℕ)
  pub limits : TimeLimits
  pub reach : Reach
  pub not_to : List AddressBlock
  pub schemes : Schemes
  pub page_limit : ℕ
  pub texts : ℕ
  pub closed_for : ℕ
  pub ending : ConnectionEnding

-- an agent and its comment, if any. RFC 9110, sections 5.6.5 and 10.1.5
abbrev pub agent_with : List ℕ → Option (List ℕ) → List ℕ
agent_with agent None = agent
agent_with agent (Some comment) = agent ++ (codes " (" ++ (comment ++ codes ")"))

-- the octets of the kept comment
abbrev pub contact_of : Option (String Global) → Option (List ℕ)
contact_of None = None
contact_of (Some contact) = Some (string_bytes contact)

-- no octet ends the line
abbrev pub IsContact : Option (List ℕ) → Type 0
IsContact contact = IfSome contact IsAgent

-- https pages are fetched if a program opens TLS at an address
abbrev pub schemes_by : Option SocketAddr → Schemes
schemes_by None = Http
schemes_by (Some program) = HttpAndHttps

-- a new fetcher: no comment, no block avoided, the usual limit of pages, no bound of robots texts, closed sites as
-- long as their answers live, and a connection for each page
abbrev pub IsFetcherOf : List ℕ → TimeLimits → Reach → Schemes → TcpView → Type 0
IsFetcherOf agent limits reach schemes fetcher =
    fetcher ≡ record {
      agent = agent;
      contact = None;
      limits = limits;
      reach = reach;
      not_to = [];
      schemes = schemes;
      page_limit = page_limit;
      texts = no_bound;
      closed_for = full_closure;
      ending = Close;
    }

-- some octets as a response within the limit, for any URL
abbrev pub GivesAny : ℕ → List ℕ → Result HttpReply WireFault → Type 0
GivesAny limit url result = Tells None limit result
