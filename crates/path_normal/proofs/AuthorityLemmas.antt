-- A page's authority reads as itself, by the page at its root; its robots.txt has a page URL.
-- Used by `Authority::of` and `PageUrl::of_robots`.
use Rattle.std.proofs.Common.{◌≡◌, ℕ, ◌≤◌, true, false, List, [], ◌∷◌, ◌++◌, length, get_or, None, Ok, All, sym, refl, ap, ◌∙◌, subst, inl, arith, append-nil, length-append}
use Rattle.std.specs.Prelude.{◌+◌, ◌-◌, Bool, IsAscii, ◌||◌, ◌==◌, ◌<◌, bytes_eq, codes, drop, if◌then◌else◌}
use Rattle.std.specs.List.{list_any}
use Rattle.std.proofs.lemmas.Bool.{cond-false, true≢false}
use Rattle.std.proofs.lemmas.Bool.Decides.{Decides-eqb, nat_tests}
use Rattle.std.proofs.lemmas.List.Elements.{All-append, All-nil, All-cons, All-get_or, All-head, All-tail, All-weaker}
use Rattle.std.proofs.lemmas.Slice.Eq.{starts_is}
use Rattle.std.proofs.lemmas.List.{length-drop}
use Rattle.url.specs.Path.{dot_count, IsSegment, IsSegmentList}
use Rattle.url.specs.declared.scheme.SchemeType.{SchemeType}
use Rattle.url.specs.Parts.{Parts, kind_of, IsValid}
use Rattle.url.proofs.InputLemmas.{Passes, All_from_list_all}
use Rattle.url.proofs.SetLemmas.{kept_from_passes}
use Rattle.url.specs.Scheme.{is_slash}
use Rattle.url.specs.declared.sets.TheConstants.{PATH}
use Rattle.std.proofs.lemmas.Str.Ascii.{IsAscii-from_all}
use Rattle.std.proofs.lemmas.Str.{IsAscii-append, IsAscii-drop, IsAscii-take}
use Rattle.std.specs.Char.{is_ascii_alphabetic}
use Rattle.url.proofs.TextLemmas.{is_host_byte, host_and_port_bytes}
use Rattle.url.proofs.ValidLemmas.{IsAscii-serialize, special_has_authority}
use Rattle.path_normal.specs.Limits.{max_authority, max_url}
use Rattle.path_normal.specs.declared.schemes.Schemes.{Schemes}
use Rattle.path_normal.specs.declared.schemes.Schemes.TheVariants.{Http, HttpAndHttps}
use Rattle.path_normal.specs.PageText.{authority_of, host_of, host_start, is_https, named, robots_url_of, scheme_of, target_of}
use Rattle.path_normal.specs.PageUrl.{authority_of_parts, host_of_parts, page_of_parts, page_url_among, IsFaultless, IsPage, IsPageParts, IsWritten}
use Rattle.path_normal.specs.Schemes.{reads}
use Rattle.path_normal.specs.Capacity.{Enough}
use Rattle.path_normal.specs.Authority.{authority_among, authority_of_read, is_delimiter, written_host, IsAuthority, IsWrittenAuthority}
use Rattle.path_normal.proofs.PageLemmas.{authority_named, authority_of_text, faultless_page, faultless_reads, faultless_splits, host_pieces, host_without_slash, is_no_slash, is_one, page_pieces, page_reads_as_itself, page_splits, reads_both, scheme_text, special, start_text, visible_host, visible_start, IsVisible}
use Rattle.url.specs.Ascii.{dot, slash}

-- the URL of a path under the same authority
abbrev under : List ℕ → Parts → Parts
under path url = record url { path = path; query = None; fragment = None }

abbrev text_under : Bool → List ℕ → List ℕ → List ℕ
text_under https path host = start_text https ++ (host ++ path)

-- a path of at most 89 octets, valid in any URL
record IsShortPath (kind : SchemeType) (path : List ℕ) : Type 0 where
  segments : IsSegmentList kind path
  some : 0 < length path
  short : length path ≤ 89
  rooted : get_or path 0 0 ≡ slash

under_is_valid : (path : List ℕ) (url : Parts) → IsShortPath (kind_of url) path → IsValid url → IsValid (under path url)
under_is_valid path url is_path valid = record {
  head = record {
    scheme = valid.head.scheme;
    username = valid.head.username;
    password = valid.head.password;
    host = valid.head.host;
    port = valid.head.port;
    bare = valid.head.bare;
  };
  path = inl (is_path.segments, λ _. is_path.some);
  query = tt;
  fragment = tt;
}

under_spelled : (https : Bool) (path : List ℕ) (url : Parts) → url.scheme ≡ scheme_text https → IsPageParts url → page_of_parts (under path url) ≡ text_under https path (host_of_parts url)
under_spelled https path url scheme parts =
    page_pieces https (under path url) scheme parts.username parts.password (special_has_authority url parts.valid.head (special https url scheme))
    ∙ ap (λ target. start_text https ++ (host_of_parts url ++ target)) (append-nil path)

short : (https : Bool) (path text host : List ℕ) → length path ≤ 89 → text ≡ text_under https path host → length (named https host) ≤ max_authority → length text ≤ max_url
short true path text host is_short spelled limit = omega (arith, is_short, ap length spelled, length-append host path)
short false path text host is_short spelled limit = omega (arith, is_short, ap length spelled, length-append host path)

under_parts : (path : List ℕ) (url : Parts) → IsShortPath (kind_of url) path → IsPageParts url → IsPageParts (under path url)
under_parts path url is_path parts = record {
  valid = under_is_valid path url is_path parts.valid;
  scheme = parts.scheme;
  username = parts.username;
  password = parts.password;
}

named_fits : (https : Bool) (url : Parts) → url.scheme ≡ scheme_text https → length (authority_of_parts url) ≤ max_authority → length (named https (host_of_parts url)) ≤ max_authority
named_fits https url scheme limit = subst (λ a. length a ≤ max_authority) (authority_named https url scheme) limit

under_is_faultless : (schemes : Schemes) (https : Bool) (path : List ℕ) (url : Parts) → IsShortPath (kind_of url) path → url.scheme ≡ scheme_text https → IsPageParts url → reads schemes url.scheme ≡ true → length (authority_of_parts url) ≤ max_authority → IsFaultless schemes (under path url)
under_is_faultless schemes https path url is_path scheme parts is_read limit = record {
  parts = under_parts path url is_path parts;
  is_read = is_read;
  limit = short https path _ (host_of_parts url) is_path.short (under_spelled https path url scheme parts) (named_fits https url scheme limit);
  authority_limit = limit;
}

empty_segment : (kind : SchemeType) → IsSegment kind []
unfolding dot_count
empty_segment kind = record { escaped = All-nil _; whole = All-nil _; resolved = refl }

root_path : (kind : SchemeType) → IsShortPath kind (codes "/")
root_path kind = record {
  segments = record {
    segments = [] ∷ [];
    joined = refl;
    each = All-cons (IsSegment kind) [] [] (empty_segment kind) (All-nil (IsSegment kind));
  };
  some = omega arith;
  short = omega arith;
  rooted = refl;
}

root_reads : (schemes : Schemes) (https : Bool) (url : Parts) → url.scheme ≡ scheme_text https → IsPageParts url → reads schemes url.scheme ≡ true → length (authority_of_parts url) ≤ max_authority → page_url_among schemes None (text_under https (codes "/") (host_of_parts url)) Enough ≡ Ok (text_under https (codes "/") (host_of_parts url))
root_reads schemes https url scheme parts is_read limit =
    let path = root_path (kind_of url) in
    let spelled = under_spelled https (codes "/") url scheme parts in
    let made = faultless_reads schemes (under (codes "/") url) (under_is_faultless schemes https (codes "/") url path scheme parts is_read limit) ∙ ap Ok spelled in
    page_reads_as_itself schemes (under (codes "/") url) _ (under_is_valid (codes "/") url path parts.valid) parts.scheme spelled made
    (short https (codes "/") _ (host_of_parts url) path.short refl (named_fits https url scheme limit))

other_byte : (b : ℕ) → is_host_byte b ≡ true → is_delimiter b ≡ false
other_byte b passes = grind (arith, nat_tests)

no_delimiter : (bytes : List ℕ) → All (Passes is_host_byte) bytes → list_any is_delimiter bytes ≡ false
no_delimiter [] all = refl
no_delimiter (b ∷ bytes) all =
    let passes = All-head (Passes is_host_byte) b bytes all in
    let first : is_delimiter b ≡ false = other_byte b passes in
    rw first (no_delimiter bytes (All-tail (Passes is_host_byte) b bytes all))

pub no_https : (host : List ℕ) → All (Passes is_no_slash) host → is_https host ≡ false
no_https host none = by (is_https host) refl
  where
    by : (t : Bool) → is_https host ≡ t → is_https host ≡ false
    by true begins = absurd (true≢false (sym seventh))
      where
        all : All (Passes is_no_slash) (codes "https://" ++ drop 8 host)
        all = subst (All (Passes is_no_slash)) ((starts_is Decides-eqb host (codes "https://") _ refl).0 begins) none

        seventh : is_no_slash slash ≡ true
        seventh = All-get_or (Passes is_no_slash) (codes "https://" ++ drop 8 host) 6 0 (omega arith) all
    by false begins = begins

named_text : (https : Bool) (host path : List ℕ) → All (Passes is_no_slash) host → scheme_of (named https host) ++ (named https host ++ path) ≡ text_under https path host
named_text true host path none = refl
named_text false host path none = ap (λ b. (if b then [] else codes "http://") ++ (host ++ path)) (no_https host none)

host_written : (schemes : Schemes) (https : Bool) (host : List ℕ) → reads schemes (scheme_text https) ≡ true → All (Passes is_no_slash) host → written_host schemes (named https host) ≡ host
host_written Http true host is_read none = absurd (true≢false (sym is_read))
host_written Http false host is_read none = refl
host_written HttpAndHttps true host is_read none = refl
host_written HttpAndHttps false host is_read none = ap (λ b. if b then drop 8 host else host) (no_https host none)

named_reads : (schemes : Schemes) (https : Bool) (url : Parts) → url.scheme ≡ scheme_text https → IsPageParts url → reads schemes url.scheme ≡ true → length (authority_of_parts url) ≤ max_authority → authority_among schemes (named https (host_of_parts url)) Enough ≡ Ok (named https (host_of_parts url))
named_reads schemes https url scheme parts is_read limit =
    let host = host_of_parts url in
    let bytes = subst (All (Passes is_host_byte)) (host_pieces url) (host_and_port_bytes url parts.valid.head) in
    let plain = host_without_slash url parts.valid in
    let is_written = host_written schemes https host (sym (ap (reads schemes) scheme) ∙ is_read) plain in
    cond-false _ _ _ (ap (list_any is_delimiter) is_written ∙ no_delimiter host bytes)
    ∙ ap (λ text. authority_of_read (page_url_among schemes None text Enough)) (named_text https host (codes "/") plain)
    ∙ ap authority_of_read (root_reads schemes https url scheme parts is_read limit)
    ∙ ap Ok (authority_of_text https host (codes "/") plain refl)

pub reads_as_itself : (schemes : Schemes) (url : Parts) → IsPageParts url → reads schemes url.scheme ≡ true → length (authority_of_parts url) ≤ max_authority → authority_among schemes (authority_of_parts url) Enough ≡ Ok (authority_of_parts url)
reads_as_itself schemes url parts is_read limit =
    let one = is_one url.scheme parts.scheme in
    subst (λ a. authority_among schemes a Enough ≡ Ok a) (sym (authority_named one.0 url one.1))
    (named_reads schemes one.0 url one.1 parts is_read limit)

named_all : (P : ℕ → Type 0) (https : Bool) (host : List ℕ) → All P (codes "https://") → All P host → All P (named https host)
named_all P true host start all = All-append P (codes "https://") host start all
named_all P false host start all = all

named_is_ascii : (https : Bool) (host : List ℕ) → IsAscii host → IsAscii (named https host)
named_is_ascii true host ascii = IsAscii-append (codes "https://") host (IsAscii-from_all (codes "https://") (search (arith, All-cons, All-nil))) ascii
named_is_ascii false host ascii = ascii

authority_is_ascii : (page : List ℕ) → IsAscii page → IsAscii (authority_of page)
unfolding authority_of
authority_is_ascii page ascii =
    named_is_ascii (is_https page) (host_of page) (IsAscii-take (drop (host_start page) page) _ (IsAscii-drop page (host_start page) ascii))

authority_is_visible : (url : Parts) → IsPageParts url → All IsVisible (authority_of_parts url)
authority_is_visible url parts =
    named_all IsVisible (bytes_eq url.scheme (codes "https")) (host_of_parts url) (visible_start true) (visible_host url parts.valid)

pub authority_is : (page : List ℕ) → IsPage page → IsAuthority (authority_of page)
unfolding IsWritten IsWrittenAuthority
authority_is page is_page =
    let url = is_page.written.0 in
    let parts = is_page.written.1 in
    let split = page_splits url parts.valid parts.scheme parts.username parts.password in
    let same : authority_of_parts url ≡ authority_of page = sym split.parts.authority ∙ ap authority_of is_page.written.2 in
    let limit = subst (λ a. length a ≤ max_authority) (sym same) is_page.authority_limit in
    subst IsAuthority same (record {
      own = reads_as_itself HttpAndHttps url parts (reads_both url.scheme parts.scheme) limit;
      written = (url, parts, refl);
      limit = limit;
      ascii = subst IsAscii (sym same) (authority_is_ascii page is_page.ascii);
      visible = authority_is_visible url parts;
    })

-- ---- the URL of the robots.txt

-- a letter or a dot
abbrev is_name_octet : ℕ → Bool
is_name_octet b = is_ascii_alphabetic b || b == dot

name_octets : (Q : ℕ → Type 0) → ((b : ℕ) → is_name_octet b ≡ true → Q b) → All Q (codes "robots.txt")
name_octets Q each =
    All-weaker (Passes is_name_octet) Q each (codes "robots.txt") (All_from_list_all is_name_octet (codes "robots.txt") refl)

is_ascii_name : (b : ℕ) → is_name_octet b ≡ true → b < 128
is_ascii_name b passes = grind (arith, nat_tests)

is_no_slash_name : (kind : SchemeType) (b : ℕ) → is_name_octet b ≡ true → is_slash kind b ≡ false
is_no_slash_name kind b passes = grind (arith, nat_tests)

robots_segment : (kind : SchemeType) → IsSegment kind (codes "robots.txt")
unfolding dot_count
robots_segment kind = record {
  escaped = name_octets _ (λ b passes. kept_from_passes is_name_octet PATH refl b (is_ascii_name b passes) passes);
  whole = name_octets _ (is_no_slash_name kind);
  resolved = refl;
}

robots_path : (kind : SchemeType) → IsShortPath kind (codes "/robots.txt")
robots_path kind = record {
  segments = record {
    segments = codes "robots.txt" ∷ [];
    joined = refl;
    each = All-cons (IsSegment kind) (codes "robots.txt") [] (robots_segment kind) (All-nil (IsSegment kind));
  };
  some = omega arith;
  short = omega arith;
  rooted = refl;
}

-- the page URL of the authority's robots.txt
pub record IsRobotsPage (authority page : List ℕ) : Type 0 where
  pub is_page : IsPage page
  pub has_authority : authority_of page ≡ authority
  pub target : target_of page ≡ codes "/robots.txt"

pub robots_end : (authority page : List ℕ) → IsRobotsPage authority page → length page - 11 ≡ host_start page + length (host_of page)
robots_end authority page is =
    let start = host_start page in
    omega (arith, ap length is.target, length-drop (length (host_of page)) (drop start page), length-drop start page)

robots_page_of : (url : Parts) → IsPageParts url → length (authority_of_parts url) ≤ max_authority → IsRobotsPage (authority_of_parts url) (robots_url_of (authority_of_parts url))
robots_page_of url parts limit =
    let one = is_one url.scheme parts.scheme in
    let robots = under (codes "/robots.txt") url in
    let path = robots_path (kind_of url) in
    let faultless = under_is_faultless HttpAndHttps one.0 (codes "/robots.txt") url path one.1 parts (reads_both url.scheme parts.scheme) limit in
    let split = faultless_splits HttpAndHttps robots faultless in
    let spelled = under_spelled one.0 (codes "/robots.txt") url one.1 parts
    ∙ sym (named_text one.0 (host_of_parts url) (codes "/robots.txt") (host_without_slash url parts.valid))
    ∙ sym (ap robots_url_of (authority_named one.0 url one.1)) in
    subst (IsRobotsPage (authority_of_parts url)) spelled (record {
      is_page = faultless_page HttpAndHttps robots faultless (IsAscii-serialize robots faultless.parts.valid);
      has_authority = split.parts.authority;
      target = split.parts.target;
    })

pub robots_page : (authority : List ℕ) → IsAuthority authority → IsRobotsPage authority (robots_url_of authority)
unfolding IsWrittenAuthority
robots_page authority is_authority =
    let url = is_authority.written.0 in
    let parts = is_authority.written.1 in
    subst (λ a. IsRobotsPage a (robots_url_of a)) is_authority.written.2 (robots_page_of url parts (subst (λ a. length a ≤ max_authority) (sym is_authority.written.2) is_authority.limit))
