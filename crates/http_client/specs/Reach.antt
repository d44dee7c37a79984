-- The addresses that a client of the public internet doesn't connect to, by blocks, and those that it may.
-- RFC 6890, section 2.2, and IANA's registries of special-purpose addresses: each block has the name that it has there.
use Rattle.std.specs.Prelude.{ℕ, ◌+◌, ◌-◌, ◌*◌, ◌^◌, Bool, true, IsTrue, List, [], ◌∷◌, ◌&&◌, not}
use Rattle.std.specs.List.{list_any}
use Rattle.std.specs.declared.net.ip_addr.IpAddr.{IpAddr}
use Rattle.http_client.specs.Blocks.{holds, mapped}
use Rattle.http_client.specs.declared.address_block.AddressBlock.{AddressBlock}
use Rattle.http_client.specs.declared.reach.Reach.{Reach}
use Rattle.http_client.specs.declared.reach.Reach.TheVariants.{Anywhere, PublicOnly}

-- an address of IPv4 and how many of its bits count
abbrev v4 : ℕ → ℕ → ℕ → ℕ → ℕ → AddressBlock
v4 a b c d bits = record { first = mapped (a * 2 ^ 24 + b * 2 ^ 16 + c * 2 ^ 8 + d); spare = 32 - bits }

-- an address of IPv6, by its first four segments and its last one, and how many of its bits count
abbrev v6 : ℕ → ℕ → ℕ → ℕ → ℕ → ℕ → AddressBlock
v6 a b c d last bits = record { first = a * 2 ^ 112 + b * 2 ^ 96 + c * 2 ^ 80 + d * 2 ^ 64 + last; spare = 128 - bits }

-- blocks whose addresses are not globally reachable, or not those of one host
abbrev pub inner_blocks : List AddressBlock
inner_blocks =
    -- "This network"
    v4 0 0 0 0 8
    -- Private-Use
    ∷ v4 10 0 0 0 8
    -- Shared Address Space
    ∷ v4 100 64 0 0 10
    -- Loopback
    ∷ v4 127 0 0 0 8
    -- Link Local
    ∷ v4 169 254 0 0 16
    -- Private-Use
    ∷ v4 172 16 0 0 12
    -- IETF Protocol Assignments
    ∷ v4 192 0 0 0 24
    -- Documentation (TEST-NET-1)
    ∷ v4 192 0 2 0 24
    -- Deprecated (6to4 Relay Anycast)
    ∷ v4 192 88 99 0 24
    -- Private-Use
    ∷ v4 192 168 0 0 16
    -- Benchmarking
    ∷ v4 198 18 0 0 15
    -- Documentation (TEST-NET-2)
    ∷ v4 198 51 100 0 24
    -- Documentation (TEST-NET-3)
    ∷ v4 203 0 113 0 24
    -- Multicast (RFC 5771), then Reserved and Limited Broadcast
    ∷ v4 224 0 0 0 4
    ∷ v4 240 0 0 0 4
    -- IPv4-IPv6 Translat., for local use (RFC 8215)
    ∷ v6 0x64 0xff9b 1 0 0 48
    -- Discard-Only Address Block
    ∷ v6 0x100 0 0 0 0 64
    -- Dummy IPv6 Prefix
    ∷ v6 0x100 0 0 1 0 64
    -- IETF Protocol Assignments, with TEREDO (2001::/32), Benchmarking and ORCHID
    ∷ v6 0x2001 0 0 0 0 23
    -- Documentation
    ∷ v6 0x2001 0xdb8 0 0 0 32
    ∷ v6 0x3fff 0 0 0 0 20
    -- Segment Routing (SRv6) SIDs
    ∷ v6 0x5f00 0 0 0 0 16
    -- Unique-Local
    ∷ v6 0xfc00 0 0 0 0 7
    -- Reserved by IETF (RFC 4291, section 4)
    ∷ v6 0xfe00 0 0 0 0 9
    -- Link-Local Unicast
    ∷ v6 0xfe80 0 0 0 0 10
    -- Site-Local (RFC 3879)
    ∷ v6 0xfec0 0 0 0 0 10
    -- Multicast (RFC 4291, section 2.7)
    ∷ v6 0xff00 0 0 0 0 8
    ∷ []

-- blocks within these that the registries call globally reachable
abbrev pub global_blocks : List AddressBlock
global_blocks =
    -- Port Control Protocol Anycast; Traversal Using Relays around NAT Anycast
    v4 192 0 0 9 32
    ∷ v4 192 0 0 10 32
    ∷ v6 0x2001 1 0 0 1 128
    ∷ v6 0x2001 1 0 0 2 128
    -- DNS-SD Service Registration Protocol Anycast
    ∷ v6 0x2001 1 0 0 3 128
    -- AMT
    ∷ v6 0x2001 3 0 0 0 32
    -- AS112-v6
    ∷ v6 0x2001 4 0x112 0 0 48
    -- ORCHIDv2
    ∷ v6 0x2001 0x20 0 0 0 28
    -- Drone Remote ID Protocol Entity Tags (DETs) Prefix
    ∷ v6 0x2001 0x30 0 0 0 28
    ∷ []

-- one of the blocks holds the address
abbrev pub is_among : List AddressBlock → IpAddr → Bool
is_among blocks address = list_any (holds address) blocks

-- the address is not of the public internet
abbrev pub is_inner : IpAddr → Bool
is_inner address = is_among inner_blocks address && not (is_among global_blocks address)

-- a client with this reach connects to the address
abbrev pub allows : Reach → IpAddr → Bool
allows Anywhere address = true
allows PublicOnly address = not (is_inner address)

-- and its operator has not ruled the address out
abbrev pub may_reach : Reach → List AddressBlock → IpAddr → Bool
may_reach reach not_to address = allows reach address && not (is_among not_to address)

-- the same as a fact
abbrev pub MayReach : Reach → List AddressBlock → IpAddr → Type 0
MayReach reach not_to address = IsTrue (may_reach reach not_to address)
