-- What a text reads as, as a page URL, and why it is refused.
-- URL Standard, sections 4.4 and 4.5.
use Rattle.std.specs.Prelude.{◌≡◌, ◌<◌, ◌≤◌, ◌++◌, ℕ, All, IsAscii, slice_index, take, Bool, true, not, ◌||◌, List, [], Option, Some, None, Result, Ok, Err, bytes_eq, codes, decimal, length, nat_lt, if◌then◌else◌}
use Rattle.std.specs.Result.{result_ok}
use Rattle.url.specs.declared.error.ParseError.{ParseError}
use Rattle.url.specs.declared.error.ParseError.TheVariants.{Overflow, OutOfMemory}
use Rattle.url.specs.Host.{host_text}
use Rattle.url.specs.Parser.{Parsed, parse_url}
use Rattle.url.specs.Parts.{Parts, has_credentials, host_or_empty, serialize, IsValid}
use Rattle.path_normal.specs.Limits.{max_authority, max_url}
use Rattle.path_normal.specs.declared.fault.Unread.{Unread}
use Rattle.path_normal.specs.declared.fault.Unread.TheVariants as unread
use Rattle.path_normal.specs.declared.fault.UrlFault.{UrlFault}
use Rattle.path_normal.specs.declared.fault.UrlFault.TheVariants.{BadUrl, HasUser, NotHttp, TooLong}
use Rattle.path_normal.specs.declared.schemes.Schemes.{Schemes}
use Rattle.path_normal.specs.declared.schemes.Schemes.TheVariants.{Http, HttpAndHttps}
use Rattle.path_normal.specs.PageText.{authority_of, host_of, host_start, named, start_of, target_of}
use Rattle.path_normal.specs.Schemes.{IsScheme, reads}
use Rattle.path_normal.specs.Capacity.{Capacity, Enough, Overflows, Refused, fault_of_unread}
use Rattle.url.specs.Ascii.{slash, space}

-- `:` and the port, if any
abbrev pub port_text : Option ℕ → List ℕ
port_text None = []
port_text (Some port) = codes ":" ++ decimal port

-- `?` and the query, if any
abbrev pub query_text : Option (List ℕ) → List ℕ
query_text None = []
query_text (Some query) = codes "?" ++ query

-- the host, with the port unless it is the scheme's default
abbrev pub host_of_parts : Parts → List ℕ
host_of_parts url = host_text (host_or_empty url) ++ port_text url.port

-- the authority: that host, after `https://` if that is the scheme
abbrev pub authority_of_parts : Parts → List ℕ
authority_of_parts url = named (bytes_eq url.scheme (codes "https")) (host_of_parts url)

-- the path, with any query
abbrev pub target_of_parts : Parts → List ℕ
target_of_parts url = url.path ++ query_text url.query

-- the URL as written back, without its fragment
abbrev pub page_of_parts : Parts → List ℕ
page_of_parts url = serialize (record url { fragment = None })

-- the URL or its authority is over the limit
abbrev pub is_too_long : Parts → Bool
is_too_long url =
    nat_lt max_url (length (page_of_parts url)) || nat_lt max_authority (length (authority_of_parts url))

-- the page of a URL in these schemes, or its first fault
abbrev pub page_url_of_parts : Schemes → Parts → Result (List ℕ) UrlFault
page_url_of_parts schemes url =
    if not (reads schemes url.scheme) then Err NotHttp
    else (if has_credentials url then Err HasUser
    else (if is_too_long url then Err TooLong
    else Ok (page_of_parts url)))

-- why nothing is read, by the parser's error
abbrev pub unread_of : ParseError → Unread
unread_of Overflow = unread.Overflow
unread_of OutOfMemory = unread.NoMemory
unread_of error = unread.Fault BadUrl

-- the fault of a parser error
abbrev pub fault_of : ParseError → UrlFault
fault_of error = fault_of_unread (unread_of error)

-- the page that the parser gave, or the fault
abbrev pub page_url_of_parsed : Schemes → Parsed Parts → Result (List ℕ) UrlFault
page_url_of_parsed schemes (Ok url) = page_url_of_parts schemes url
page_url_of_parsed schemes (Err error) = Err (fault_of error)

-- what the parser gives for a text, with or without a base: the standard's result, with enough capacity
abbrev pub parsed_in : Option Parts → List ℕ → Capacity → Parsed Parts
parsed_in base text Enough = parse_url base text
parsed_in base text Overflows = Err Overflow
parsed_in base text Refused = Err OutOfMemory

-- the page that the text reads as in these schemes, with or without a base, or its first fault
abbrev pub page_url_among : Schemes → Option Parts → List ℕ → Capacity → Result (List ℕ) UrlFault
page_url_among schemes base text capacity =
    if nat_lt max_url (length text) then Err TooLong
    else page_url_of_parsed schemes (parsed_in base text capacity)

-- the page that the text names on a page in these schemes, or its first fault
abbrev pub page_url_on_among : Schemes → List ℕ → List ℕ → Capacity → Result (List ℕ) UrlFault
page_url_on_among schemes page text capacity =
    page_url_among schemes (result_ok (parse_url None page)) text capacity

-- the page that the text reads as for `http`, with or without a base, or the first fault
abbrev pub page_url_from : Option Parts → List ℕ → Capacity → Result (List ℕ) UrlFault
page_url_from = page_url_among Http

-- the page that the text names on a page for `http`, or the first fault
abbrev pub page_url_on : List ℕ → List ℕ → Capacity → Result (List ℕ) UrlFault
page_url_on = page_url_on_among Http

-- the page that the text alone reads as for `http`, with enough capacity, or its first fault
abbrev pub page_url_of : List ℕ → Result (List ℕ) UrlFault
page_url_of text = page_url_from None text Enough

-- the expected result, unless memory ran out
abbrev pub IsAnswer : Result (List ℕ) Unread → Result (List ℕ) UrlFault → Type 0
IsAnswer (Ok page) expected = expected ≡ Ok page
IsAnswer (Err (unread.Fault fault)) expected = expected ≡ Err fault
IsAnswer (Err unread.Overflow) expected = ⊥
IsAnswer (Err unread.NoMemory) expected = Unit {0}

-- the page has the URL's authority, host and target
pub record HasPartsOf (page : List ℕ) (url : Parts) : Type 0 where
  pub authority : authority_of page ≡ authority_of_parts url
  pub host : host_of page ≡ host_of_parts url
  pub target : target_of page ≡ target_of_parts url

-- the page has the authority and target of the URL that the text names on another page
abbrev pub IsNamedOn : List ℕ → List ℕ → List ℕ → Type 0
IsNamedOn page text named =
    (base url : Parts) × (parse_url None page ≡ Ok base) × (parse_url (Some base) text ≡ Ok url)
    × HasPartsOf named url

-- a valid `http` or `https` URL without user
pub record IsPageParts (url : Parts) : Type 0 where
  pub valid : IsValid url
  pub scheme : IsScheme url.scheme
  pub username : url.username ≡ []
  pub password : url.password ≡ []

-- a valid URL of these schemes without user, within the limits
pub record IsFaultless (schemes : Schemes) (url : Parts) : Type 0 where
  pub parts : IsPageParts url
  pub is_read : reads schemes url.scheme ≡ true
  pub limit : length (page_of_parts url) ≤ max_url
  pub authority_limit : length (authority_of_parts url) ≤ max_authority

-- the text of a valid URL
unfoldable pub IsWritten : List ℕ → Type 0
IsWritten page = (url : Parts) × IsPageParts url × (page_of_parts url ≡ page)

-- the text reads as itself in both schemes, and is a valid URL within the limits: `http://` or `https://`, a host,
-- and a target from `/` on, without spaces or controls
pub record IsPage (page : List ℕ) : Type 0 where
  pub own : page_url_among HttpAndHttps None page Enough ≡ Ok page
  pub written : IsWritten page
  pub scheme : take (host_start page) page ≡ start_of page
  pub limit : length page ≤ max_url
  pub authority_limit : length (authority_of page) ≤ max_authority
  pub rooted : slice_index (target_of page) 0 ≡ slash
  pub ascii : IsAscii page
  pub visible : All (λ octet. space < octet) page
