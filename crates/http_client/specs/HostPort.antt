-- A page's server.
-- RFC 3986, sections 3.2.2 and 3.2.3; RFC 9110, section 4.2.1, in the words of the URL Standard.
use Rattle.std.specs.Prelude.{◌≡◌, ℕ, Bool, List, None, Ok, if◌then◌else◌, unwrap_or}
use Rattle.std.specs.Net.Addr.{ipv4_octets, ipv6_segments}
use Rattle.std.specs.Net.Text.{ipv4_text, hex_groups_text}
use Rattle.path_normal.specs.PageText.{is_https}
use Rattle.url.specs.declared.host.Host.{Host}
use Rattle.url.specs.declared.host.Host.TheVariants.{Domain, Ipv4, Ipv6}
use Rattle.url.specs.Parser.{parse_url}
use Rattle.url.specs.Parts.{Parts, host_or_empty}

-- the default ports of `http` and `https`
abbrev pub http_port : ℕ
http_port = 80

abbrev pub https_port : ℕ
https_port = 443

-- the port of a page's scheme
abbrev pub scheme_port : Bool → ℕ
scheme_port https = if https then https_port else http_port

-- the host as in the URL, but without brackets
abbrev pub bare_host : Host (List ℕ) → List ℕ
bare_host (Domain domain) = domain
bare_host (Ipv4 address) = ipv4_text (ipv4_octets address)
bare_host (Ipv6 address) = hex_groups_text (ipv6_segments address)

-- a page's server: its URL's host, and its port or the scheme's
pub record IsHostPortOf (page host : List ℕ) (port : ℕ) : Type 0 where
  pub url : Parts
  pub read : parse_url None page ≡ Ok url
  pub own_host : host ≡ bare_host (host_or_empty url)
  pub own_port : port ≡ unwrap_or url.port (scheme_port (is_https page))
