-- The header for the TLS program, before the request: the address to connect to, and the site's name.
-- The PROXY protocol, version 2, sections 2.2 and 2.2.2.
use Rattle.std.specs.Prelude.{◌≡◌, ◌≤◌, ◌<◌, ℕ, List, [], ◌∷◌, ◌++◌, length}
use Rattle.std.specs.Int.{w16, to_be_bytes}
use Rattle.std.specs.Net.Addr.{ipv4_octets, ipv6_octets}
use Rattle.std.specs.declared.net.ip_addr.IpAddr.{IpAddr}
use Rattle.std.specs.declared.net.ip_addr.IpAddr.TheVariants.{V4, V6}
use Rattle.http_client.specs.HostPort.{IsHostPortOf}

-- the start of each header: CR LF CR LF NUL CR LF "QUIT" LF
abbrev pub signature : List ℕ
signature = 13 ∷ 10 ∷ 13 ∷ 10 ∷ 0 ∷ 13 ∷ 10 ∷ 81 ∷ 85 ∷ 73 ∷ 84 ∷ 10 ∷ []

-- version 2, and the command PROXY
abbrev pub version_and_command : ℕ
version_and_command = 0x21

-- TCP over IPv4, and TCP over IPv6
abbrev pub family_of : IpAddr → ℕ
family_of (V4 address) = 0x11
family_of (V6 address) = 0x21

-- an address in network byte order
abbrev pub octets_of_address : IpAddr → List ℕ
octets_of_address (V4 address) = ipv4_octets address
octets_of_address (V6 address) = ipv6_octets address

-- a 16-bit number in network byte order
abbrev pub two_octets : ℕ → List ℕ
two_octets number = to_be_bytes w16 number

-- source and destination address and port; the target is also the source
abbrev pub addresses : List ℕ → ℕ → List ℕ
addresses target port = target ++ (target ++ (two_octets port ++ two_octets port))

-- PP2_TYPE_AUTHORITY, the length of the host's name, and the name
abbrev pub authority_field : List ℕ → List ℕ
authority_field name = 0x02 ∷ (two_octets (length name) ++ name)

-- a header of this family, with the length of the rest
abbrev pub header_of_family : ℕ → List ℕ → ℕ → List ℕ → List ℕ
header_of_family family target port name =
    signature ++ (version_and_command ∷ family ∷ (two_octets (length (addresses target port ++ authority_field name))
    ++ (addresses target port ++ authority_field name)))

-- the header for this port of an address, with the site's name
abbrev pub tls_header : IpAddr → ℕ → List ℕ → List ℕ
tls_header address port name = header_of_family (family_of address) (octets_of_address address) port name

-- the longest name; DNS names are no longer (RFC 1035, section 2.3.4)
abbrev pub longest_name : ℕ
longest_name = 255

-- the header has the port, an address and the host of a page's server
pub record IsHeaderOf (page : List ℕ) (address : IpAddr) (octets : List ℕ) : Type 0 where
  pub host : List ℕ
  pub port : ℕ
  pub server : IsHostPortOf page host port
  pub within : length host ≤ longest_name
  pub is : octets ≡ tls_header address port host

-- the page's host is too long for a header
pub record HasLongHost (page : List ℕ) : Type 0 where
  pub host : List ℕ
  pub port : ℕ
  pub server : IsHostPortOf page host port
  pub long : longest_name < length host
