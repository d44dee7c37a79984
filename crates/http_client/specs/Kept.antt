-- Connections that are kept after a response.
-- RFC 9112, sections 9.3 and 9.5.
use Rattle.std.specs.Prelude.{◌≡◌, ℕ, List, string_bytes}
use Rattle.path_normal.specs.PageText.{is_https}
use Rattle.http_client.specs.HostPort.{IsHostPortOf}
use Rattle.http_client.specs.declared.kept_connections.KeptConnection.{KeptConnection}

-- the most connections that are kept
abbrev pub most_kept : ℕ
most_kept = 64

-- the most nanoseconds between a response and the next request over its connection: 15 seconds
abbrev pub most_idle : ℕ
most_idle = 15000000000

-- the connection is to the page's server, and by its scheme
pub record IsKeptFor (page : List ℕ) (kept : KeptConnection) : Type 0 where
  pub server : IsHostPortOf page (string_bytes kept.host) kept.port
  pub scheme : kept.https ≡ is_https page
