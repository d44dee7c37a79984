-- What a text alone reads as, as an authority.
-- RFC 3986, section 3.2, in the words of the URL Standard.
use Rattle.std.specs.Prelude.{◌≡◌, ◌<◌, ◌≤◌, ◌++◌, ℕ, All, IsAscii, Bool, List, None, Result, Ok, Err, codes, drop, length, if◌then◌else◌}
use Rattle.std.specs.List.{list_any}
use Rattle.url.specs.Parts.{Parts}
use Rattle.path_normal.specs.declared.fault.AuthorityFault.{AuthorityFault}
use Rattle.path_normal.specs.declared.fault.UrlFault.{UrlFault}
use Rattle.path_normal.specs.declared.fault.UrlFault.TheVariants as urls
use Rattle.path_normal.specs.Limits.{max_authority}
use Rattle.path_normal.specs.Octets.{is_one_of}
use Rattle.path_normal.specs.declared.schemes.Schemes.{Schemes}
use Rattle.path_normal.specs.declared.schemes.Schemes.TheVariants.{Http, HttpAndHttps}
use Rattle.path_normal.specs.PageText.{authority_of, is_https, scheme_of}
use Rattle.path_normal.specs.PageUrl.{authority_of_parts, page_url_among, IsPageParts}
use Rattle.path_normal.specs.Capacity.{Capacity, Enough, unless_refused}
use Rattle.url.specs.Ascii.{space}

-- the octet ends an authority or begins a part that is refused
abbrev pub is_delimiter : ℕ → Bool
is_delimiter octet = is_one_of (codes "/\\?#@") octet

-- the authority's fault, by that of its root page
abbrev pub authority_fault_of : UrlFault → AuthorityFault
authority_fault_of urls.NoMemory = AuthorityFault.NoMemory
authority_fault_of fault = AuthorityFault.BadAuthority

-- a page's authority, or its fault
abbrev pub authority_of_read : Result (List ℕ) UrlFault → Result (List ℕ) AuthorityFault
authority_of_read (Ok page) = Ok (authority_of page)
authority_of_read (Err fault) = Err (authority_fault_of fault)

-- the root URL of an authority
abbrev pub root_of : List ℕ → List ℕ
root_of text = scheme_of text ++ (text ++ codes "/")

-- the host in an authority of these schemes
abbrev pub written_host : Schemes → List ℕ → List ℕ
written_host Http text = text
written_host HttpAndHttps text = if is_https text then drop 8 text else text

-- the authority of the root page in these schemes, or the fault
abbrev pub authority_among : Schemes → List ℕ → Capacity → Result (List ℕ) AuthorityFault
authority_among schemes text capacity =
    if list_any is_delimiter (written_host schemes text) then Err AuthorityFault.BadAuthority
    else unless_refused AuthorityFault.NoMemory
    (authority_of_read (page_url_among schemes None (root_of text) capacity)) capacity

-- the authority of the root page for `http` alone, or the fault
abbrev pub authority_from : List ℕ → Capacity → Result (List ℕ) AuthorityFault
authority_from = authority_among Http

-- a valid URL has this authority
unfoldable pub IsWrittenAuthority : List ℕ → Type 0
IsWrittenAuthority authority = (url : Parts) × IsPageParts url × (authority_of_parts url ≡ authority)

-- the authority reads as itself in both schemes, and is a valid URL's within the limit, in ASCII without spaces or
-- controls
pub record IsAuthority (authority : List ℕ) : Type 0 where
  pub own : authority_among HttpAndHttps authority Enough ≡ Ok authority
  pub written : IsWrittenAuthority authority
  pub limit : length authority ≤ max_authority
  pub ascii : IsAscii authority
  pub visible : All (λ octet. space < octet) authority
