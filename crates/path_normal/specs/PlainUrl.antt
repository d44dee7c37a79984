-- Plain `http` URLs: those that the URL Standard writes unchanged, as far as single octets tell.
-- URL Standard, sections 3.3 and 4.4. Cited by `plain_url`.
use Rattle.std.specs.Prelude.{◌≡◌, ◌≢◌, ◌<◌, ◌≤◌, ◌+◌, ◌^◌, ◌==◌, ◌&&◌, ◌||◌, ℕ, Bool, true, false, not, List, [], ◌∷◌, ◌++◌, Option, IfSome, Some, codes, decimal, length, nat_lt, slice_index, if◌then◌else◌}
use Rattle.std.specs.Char.{is_ascii_digit, is_ascii_lowercase}
use Rattle.path_normal.specs.Limits.{max_authority}
use Rattle.path_normal.specs.Normal.{is_unreserved}
use Rattle.path_normal.specs.PageUrl.{port_text}
use Rattle.std.specs.Net.Addr.{IsIpv4Addr}
use Rattle.std.specs.Net.Text.{dotted_text}
use Rattle.url.specs.declared.host.Host.{Host}
use Rattle.url.specs.declared.host.Host.TheVariants.{Domain, Ipv4, Ipv6}
use Rattle.url.specs.Host.{host_text}
use Rattle.url.specs.Ascii.{dot, hyphen, slash}

-- the octet is a `/`
abbrev pub is_slash : ℕ → Bool
is_slash octet = octet == slash

-- a label's octet: a lower-case letter, a digit, or `-`
abbrev pub is_label_octet : ℕ → Bool
is_label_octet octet = is_ascii_lowercase octet || is_ascii_digit octet || octet == hyphen

-- a domain from the start of a label or within one; its labels begin with a letter
abbrev pub is_plain_domain : Bool → List ℕ → Bool
is_plain_domain begins [] = not begins
is_plain_domain begins (octet ∷ octets) =
    if begins then is_ascii_lowercase octet && is_plain_domain false octets
    else (if octet == dot then is_plain_domain true octets
    else is_label_octet octet && is_plain_domain false octets)

-- a path from the start of a segment or within one: unreserved octets, no segment with a leading dot
abbrev pub is_plain_path : Bool → List ℕ → Bool
is_plain_path begins [] = true
is_plain_path begins (octet ∷ octets) =
    if octet == slash then is_plain_path true octets
    else is_unreserved octet && not (begins && octet == dot) && is_plain_path false octets

-- the host of a plain URL: a domain whose labels begin with letters, or an IPv4 address
abbrev pub IsPlainHost : Host (List ℕ) → Type 0
IsPlainHost (Domain domain) = is_plain_domain true domain ≡ true
IsPlainHost (Ipv4 address) = IsIpv4Addr address
IsPlainHost (Ipv6 address) = ⊥

-- a port as it is written: one of 16 bits that is not the default
abbrev pub IsPlainPort : Option ℕ → Type 0
IsPlainPort port = IfSome port (λ n. (n < 2 ^ 16) × (n ≢ 80))

-- the text of a plain host
abbrev pub HasPlainHost : List ℕ → Type 0
HasPlainHost text = (host : Host (List ℕ)) × IsPlainHost host × (text ≡ host_text host)

-- an IPv4 address with these octets, in four decimal numbers
abbrev pub IsAddress : List ℕ → ℕ → ℕ → ℕ → ℕ → Type 0
IsAddress text a b c d = (a < 2 ^ 8) × (b < 2 ^ 8) × (c < 2 ^ 8) × (d < 2 ^ 8) × (text ≡ dotted_text a b c d)

-- a port and its text
abbrev pub IsPortText : List ℕ → Type 0
IsPortText text = (n : ℕ) × IsPlainPort (Some n) × (text ≡ decimal n)

-- a zero before other digits
abbrev pub has_leading_zero : List ℕ → Bool
has_leading_zero digits = nat_lt 1 (length digits) && slice_index digits 0 == 48

-- a plain host, with a port or without
pub record IsPlainAuthority (authority : List ℕ) : Type 0 where
  pub host : Host (List ℕ)
  pub port : Option ℕ
  pub spelled : authority ≡ host_text host ++ port_text port
  pub host_is : IsPlainHost host
  pub port_is : IsPlainPort port

-- a plain URL, whose host ends here with its port
pub record IsPlain (text : List ℕ) (end : ℕ) : Type 0 where
  pub authority : List ℕ
  pub path : List ℕ
  pub spelled : text ≡ codes "http://" ++ (authority ++ slash ∷ path)
  pub end_is : end ≡ 7 + length authority
  pub authority_is : IsPlainAuthority authority
  pub path_is : is_plain_path true path ≡ true
  pub limit : length authority ≤ max_authority
