-- Blocks of addresses, and the addresses that they hold.
-- RFC 4632, section 3.1; RFC 4291, sections 2.3 and 2.5.5.
use Rattle.std.specs.Prelude.{◌≡◌, ℕ, ◌+◌, ◌-◌, ◌*◌, ◌/◌, ◌%◌, ◌^◌, ◌≤◌, ◌<◌, Bool, List, length, ◌||◌, ◌==◌, nat_lt, if◌then◌else◌}
use Rattle.std.specs.List.{before_first, after_first, position_or_len}
use Rattle.std.specs.Net.Addr.{ipv4_bits, ipv6_bits}
use Rattle.std.specs.Net.Grammar.{IsIpText, IsNumber}
use Rattle.std.specs.declared.net.ip_addr.IpAddr.{IpAddr}
use Rattle.std.specs.declared.net.ip_addr.IpAddr.TheVariants.{V4, V6}
use Rattle.http_client.specs.declared.address_block.AddressBlock.{AddressBlock}

-- the IPv4-mapped address of IPv6, as a number (RFC 4291, section 2.5.5.2)
abbrev pub mapped : ℕ → ℕ
mapped bits = 0xffff * 2 ^ 32 + bits

-- an address as a number of 128 bits
abbrev pub number_of : IpAddr → ℕ
number_of (V4 address) = mapped (ipv4_bits address)
number_of (V6 address) = ipv6_bits address

-- how many bits an address has
abbrev pub width_of : IpAddr → ℕ
width_of (V4 address) = 32
width_of (V6 address) = 128

-- the last 32 bits of the number are an IPv4 address, as in ::/96 (RFC 4291, section 2.5.5.1), ::ffff:0:0:0/96
-- (RFC 2765, section 2.1) and 64:ff9b::/96 (RFC 6052, section 2.1)
abbrev pub ends_in_ipv4 : ℕ → Bool
ends_in_ipv4 number =
    (number / 2 ^ 32 == 0) || ((number / 2 ^ 32 == 0xffff_0000) || (number / 2 ^ 32 == 0x0064_ff9b_0000_0000_0000_0000))

-- 2002::/16, where an IPv4 address follows (RFC 3056, section 2)
abbrev pub is_6to4 : ℕ → Bool
is_6to4 number = number / 2 ^ 112 == 0x2002

-- an address of IPv6 that has one of IPv4 in it is judged by that one
abbrev pub judged : ℕ → ℕ
judged number =
    if ends_in_ipv4 number
    then mapped (number % 2 ^ 32)
    else (if is_6to4 number then mapped (number / 2 ^ 80 % 2 ^ 32) else number)

-- the bits before the last `spare` ones
abbrev pub first_bits : ℕ → ℕ → ℕ
first_bits spare number = if nat_lt spare 128 then number / 2 ^ spare else 0

-- the number begins as the block does
abbrev pub has : AddressBlock → ℕ → Bool
has block number = first_bits block.spare number == first_bits block.spare block.first

-- the block holds an address, or the one that this is judged by
abbrev pub holds : IpAddr → AddressBlock → Bool
holds address block = has block (number_of address) || has block (judged (number_of address))

-- the text before the first slash, and what follows it
abbrev pub before_slash : List ℕ → List ℕ
before_slash text = before_first (λ octet. octet == 47) text

abbrev pub after_slash : List ℕ → List ℕ
after_slash text = after_first (λ octet. octet == 47) text

abbrev pub HasSlash : List ℕ → Type 0
HasSlash text = position_or_len (λ octet. octet == 47) text < length text

-- the addresses that begin with so many bits of this one, whose other bits are 0
pub record IsBlock (address : IpAddr) (bits : ℕ) (block : AddressBlock) : Type 0 where
  pub within : bits ≤ width_of address
  pub spare : block.spare ≡ width_of address - bits
  pub first : block.first ≡ number_of address
  pub clear : number_of address % 2 ^ (width_of address - bits) ≡ 0

-- an address, a slash and a number of bits
pub record IsBlockText (text : List ℕ) (block : AddressBlock) : Type 0 where
  pub slash : HasSlash text
  pub address : IpAddr
  pub bits : ℕ
  pub address_text : IsIpText (before_slash text) address
  pub bits_text : IsNumber 10 (after_slash text) bits
  pub block_of : IsBlock address bits block
