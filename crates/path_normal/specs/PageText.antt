-- How a page URL splits into scheme, authority and target.
-- RFC 3986, sections 3.1 to 3.4; RFC 9110, sections 4.2.1 and 4.2.2.
use Rattle.std.specs.Prelude.{◌==◌, ◌++◌, ℕ, Bool, List, [], codes, drop, if◌then◌else◌, length, nat_eq}
use Rattle.std.specs.List.{before_first, starts_with}
use Rattle.url.specs.Ascii.{slash}

-- the text begins with `https://`
abbrev pub is_https : List ℕ → Bool
is_https text = starts_with nat_eq text (codes "https://")

-- the text before a page's host
abbrev pub start_of : List ℕ → List ℕ
start_of page = if is_https page then codes "https://" else codes "http://"

-- where the host begins: after `https://` or `http://`
abbrev pub host_start : List ℕ → ℕ
host_start page = if is_https page then 8 else 7

-- the text from there to the next `/`: the host, with `:` and any port
abbrev pub host_of : List ℕ → List ℕ
host_of page = before_first (λ octet. octet == slash) (drop (host_start page) page)

-- the authority of a host: after `https://` if that is the scheme
abbrev pub named : Bool → List ℕ → List ℕ
named https host = if https then codes "https://" ++ host else host

-- a page's authority, to which a robots.txt applies: the host, after `https://` if that is the scheme
unfoldable pub authority_of : List ℕ → List ℕ
authority_of page = named (is_https page) (host_of page)

-- the text after the host: the path, with `?` and any query
abbrev pub target_of : List ℕ → List ℕ
target_of page = drop (length (host_of page)) (drop (host_start page) page)

-- the text before an authority in its pages' URLs
abbrev pub scheme_of : List ℕ → List ℕ
scheme_of authority = if is_https authority then [] else codes "http://"

-- the URL of an authority's robots.txt (RFC 9309, 2.3)
abbrev pub robots_url_of : List ℕ → List ℕ
robots_url_of authority = scheme_of authority ++ (authority ++ codes "/robots.txt")
