-- Laws of authorities and page URLs.
-- RFC 3986, section 3.2; RFC 9309, section 2.3. Cited by the laws of the crate.
use Rattle.std.specs.Prelude.{◌≡◌, ℕ, true, List, None, Ok}
use Rattle.path_normal.specs.declared.schemes.Schemes.{Schemes}
use Rattle.path_normal.specs.declared.schemes.Schemes.TheVariants.{HttpAndHttps}
use Rattle.path_normal.specs.Authority.{authority_among, IsAuthority}
use Rattle.path_normal.specs.Capacity.{Enough}
use Rattle.path_normal.specs.PageText.{authority_of, host_of, is_https}
use Rattle.path_normal.specs.PageUrl.{page_url_among, IsPage}

-- an authority determines the scheme of its pages
abbrev pub SchemesPartAuthorities : Type 0
SchemesPartAuthorities = (page : List ℕ) → IsPage page → is_https (authority_of page) ≡ is_https page

-- pages of one authority share scheme and host
abbrev pub OneSite : Type 0
OneSite =
    (page other : List ℕ) → IsPage page → IsPage other → authority_of page ≡ authority_of other →
    (is_https page ≡ is_https other) × (host_of page ≡ host_of other)

-- if the text is an `https` one, `https` is read
abbrev pub IsSchemeRead : Schemes → List ℕ → Type 0
IsSchemeRead schemes text = is_https text ≡ true → schemes ≡ HttpAndHttps

-- a page reads as itself if its scheme is read
abbrev pub ReadsWhereRead : Type 0
ReadsWhereRead =
    (schemes : Schemes) (page : List ℕ) → IsPage page → IsSchemeRead schemes page →
    page_url_among schemes None page Enough ≡ Ok page

-- an authority reads as itself if its scheme is read
abbrev pub NamedWhereRead : Type 0
NamedWhereRead =
    (schemes : Schemes) (authority : List ℕ) → IsAuthority authority → IsSchemeRead schemes authority →
    authority_among schemes authority Enough ≡ Ok authority
