-- The page of a check's URL. Only path and query count: a path has any host, and https is read as http.
-- URL Standard, section 4.4; RFC 9309, section 2.2.2.
use Rattle.std.specs.Prelude.{◌≡◌, ◌==◌, ◌++◌, ℕ, Bool, false, List, [], ◌∷◌, Result, Ok, Err, codes, take, drop, if◌then◌else◌}
use Rattle.std.specs.Str.{is_utf8}
use Rattle.path_normal.specs.Normal.{normal_path}
use Rattle.path_normal.specs.PageText.{target_of}
use Rattle.path_normal.specs.PageUrl.{page_url_of}
use Rattle.path_normal.specs.declared.fault.Unread.{Unread}
use Rattle.path_normal.specs.declared.fault.Unread.TheVariants as unread
use Rattle.path_normal.specs.declared.fault.UrlFault.{UrlFault}
use Rattle.path_normal.specs.declared.fault.UrlFault.TheVariants.{BadUrl}
use Rattle.robots_text.specs.Words.{is_same_word}

-- `/`
abbrev pub slash : ℕ
slash = 47

-- the octets begin with a slash
abbrev pub begins_path : List ℕ → Bool
begins_path [] = false
begins_path (octet ∷ octets) = octet == slash

-- the octets begin with `https:`, in any case
abbrev pub begins_https : List ℕ → Bool
begins_https octets = is_same_word (take 6 octets) (codes "https:")

-- the page's URL: a path gets a host, and https becomes http
abbrev pub page_octets : List ℕ → List ℕ
page_octets url =
    if begins_path url then codes "http://h" ++ url
    else if begins_https url then codes "http:" ++ drop 6 url
    else url

-- the page that octets are, or their first fault
abbrev pub page_read : List ℕ → Result (List ℕ) UrlFault
page_read octets = if is_utf8 octets then page_url_of octets else Err BadUrl

-- the page of the URL, or its first fault
abbrev pub page_named : List ℕ → Result (List ℕ) UrlFault
page_named url = page_read (page_octets url)

-- the result is as expected, unless memory was refused
abbrev pub IsReadAs : Result (List ℕ) UrlFault → Result (List ℕ) Unread → Type 0
IsReadAs expected (Ok page) = expected ≡ Ok page
IsReadAs expected (Err (unread.Fault fault)) = expected ≡ Err fault
IsReadAs expected (Err unread.Overflow) = Unit {0}
IsReadAs expected (Err unread.NoMemory) = Unit {0}

-- the path to match with patterns: the page's normalized target
abbrev pub HasPath : List ℕ → List ℕ → Type 0
HasPath url path = (page : List ℕ) × (page_named url ≡ Ok page) × (path ≡ normal_path (target_of page))

-- the URL can't be read, for this fault
abbrev pub HasFault : List ℕ → UrlFault → Type 0
HasFault url fault = page_named url ≡ Err fault
