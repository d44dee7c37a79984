-- The address of the program that opens TLS, on this machine, by an option.
-- Cited by `tls` and `words`; docs/crawlgate.1.md has the option.
use Rattle.std.specs.Prelude.{◌≡◌, ◌⊎◌, List, ℕ, Option, Some, None, codes}
use Rattle.std.specs.Net.Addr.{IsLoopbackV4, IsLoopbackV6, MatchIp}
use Rattle.std.specs.Net.Grammar.{IsSocketText}
use Rattle.std.specs.Net.Socket.{socket_ip}
use Rattle.std.specs.declared.net.socket_addr.SocketAddr.{SocketAddr}
use Rattle.clap.specs.Words.{first_value}
use Rattle.clap.specs.declared.parser.matches.Found.{Found}

-- the address is one of 127.0.0.0/8, or ::1
abbrev pub IsLoopback : SocketAddr → Type 0
IsLoopback address = MatchIp (socket_ip address) IsLoopbackV4 IsLoopbackV6

-- the option's text writes the address; without the option there is none
abbrev pub IsTlsByOf : Found → Option SocketAddr → Type 0
IsTlsByOf words None = first_value words (codes "tls-by") ≡ None
IsTlsByOf words (Some address) =
    (text : List ℕ) × ((first_value words (codes "tls-by") ≡ Some text) × IsSocketText text address)

-- the text writes no address with a port, or none of this machine
abbrev pub IsNoLoopback : List ℕ → Type 0
IsNoLoopback text =
    ((address : SocketAddr) → ¬ (IsSocketText text address))
    ⊎ ((address : SocketAddr) × (IsSocketText text address × ¬ (IsLoopback address)))

-- the option's text writes no such address
abbrev pub NamesNoLoopback : Found → Type 0
NamesNoLoopback words = (text : List ℕ) × ((first_value words (codes "tls-by") ≡ Some text) × IsNoLoopback text)
