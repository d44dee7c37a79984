-- A URL without user and fragment is `http://` or `https://`, its host and its target.
-- Used by `PageUrl::of_parsed`, `PageUrl::target` and the functions that they call.
use Rattle.std.proofs.Common.{◌≡◌, ℕ, ◌+◌, ◌<◌, Bool, true, false, not, ◌||◌, ◌==◌, List, [], ◌∷◌, ◌++◌, length, get_or, take, drop, Some, None, All, sym, refl, ap, ◌∙◌, subst, ⊎_elim, append_assoc, append-nil, arith, take_at, drop_at, inl, inr}
use Rattle.std.specs.Prelude.{◌-◌, slice_range, Option, Ok, IsAscii, bytes_eq, ◌≤◌, ltb, unwrap_or, is_some, option_map, decimal, codes, if◌then◌else◌}
use Rattle.std.specs.List.{prefix_len}
use Rattle.std.proofs.lemmas.Bool.{cond-false, le-ltb}
use Rattle.std.proofs.lemmas.Bool.Decides.{nat_tests}
use Rattle.std.proofs.lemmas.Slice.Eq.{bytes_eq-Decides}
use Rattle.std.proofs.Math.Seq.{take-append-add}
use Rattle.std.proofs.lemmas.List.{drop-drop, take-append-drop}
use Rattle.std.proofs.lemmas.List.Elements.{All-weaker, All-nil, All-cons, All-append}
use Rattle.url.specs.declared.slicing.Position.TheVariants.{BeforeHost, AfterPort, BeforePath, AfterQuery}
use Rattle.url.specs.Input.{when}
use Rattle.url.specs.Host.{host_text}
use Rattle.url.specs.Scheme.{scheme_type, default_port, is_special}
use Rattle.url.specs.Parts.{Parts, kind_of, query_set, has_authority, has_credentials, host_or_empty, text_between, IsValid}
use Rattle.url.proofs.InputLemmas.{Passes, StopsAt, prefix_len_at}
use Rattle.url.specs.declared.scheme.SchemeType.{SchemeType}
use Rattle.url.specs.declared.scheme.SchemeType.TheVariants.{SpecialNotFile}
use Rattle.url.specs.declared.sets.TheConstants.{PATH}
use Rattle.url.specs.Parser.{parse_url}
use Rattle.url.specs.Path.{IsSegmentList}
use Rattle.url.proofs.SetLemmas.{passes_from_kept}
use Rattle.url.proofs.Theorems.{parse_url-serialize_special}
use Rattle.path_normal.specs.Limits.{max_authority, max_url}
use Rattle.url.proofs.PathLemmas.{rooted}
use Rattle.url.proofs.TextLemmas.{is_host_byte, host_and_port_bytes, All_part, query_byte}
use Rattle.url.proofs.ValidLemmas.{segment_list_kept, hierarchical, special_has_authority, base_from_authority}
use Rattle.path_normal.specs.declared.schemes.Schemes.{Schemes}
use Rattle.path_normal.specs.declared.schemes.Schemes.TheVariants.{Http, HttpAndHttps}
use Rattle.path_normal.specs.Capacity.{Enough}
use Rattle.path_normal.specs.PageText.{authority_of, host_of, host_start, is_https, named, start_of, target_of}
use Rattle.path_normal.specs.Schemes.{IsScheme, reads}
use Rattle.path_normal.specs.PageUrl.{host_of_parts, page_url_among, page_url_of_parsed, page_url_of_parts, authority_of_parts, page_of_parts, port_text, query_text, target_of_parts, HasPartsOf, IsFaultless, IsPage, IsPageParts, IsWritten}
use Rattle.url.specs.Ascii.{question_mark, slash, space}

-- ---- the split of a text

abbrev pub is_no_slash : ℕ → Bool
is_no_slash b = not (b == slash)

stops_at_slash : (target : List ℕ) → get_or target 0 0 ≡ slash → StopsAt is_no_slash target
stops_at_slash [] first = tt
stops_at_slash (b ∷ target) first = rw first

no_slashes : (host target : List ℕ) → All (Passes is_no_slash) host → get_or target 0 0 ≡ slash → prefix_len is_no_slash (host ++ target) ≡ length host
no_slashes host target none first =
    prefix_len_at is_no_slash host target none (stops_at_slash target first)

-- the start of a text of either scheme
abbrev pub start_text : Bool → List ℕ
start_text true = codes "https://"
start_text false = codes "http://"

pub host_of_text : (https : Bool) (host target : List ℕ) → All (Passes is_no_slash) host → get_or target 0 0 ≡ slash → host_of (start_text https ++ (host ++ target)) ≡ host
host_of_text true host target none first =
    ap (λ n. take n (host ++ target)) (no_slashes host target none first) ∙ take_at host target _ refl
host_of_text false host target none first =
    ap (λ n. take n (host ++ target)) (no_slashes host target none first) ∙ take_at host target _ refl

pub authority_of_text : (https : Bool) (host target : List ℕ) → All (Passes is_no_slash) host → get_or target 0 0 ≡ slash → authority_of (start_text https ++ (host ++ target)) ≡ named https host
unfolding authority_of
authority_of_text true host target none first = ap (named true) (host_of_text true host target none first)
authority_of_text false host target none first = ap (named false) (host_of_text false host target none first)

pub target_of_text : (https : Bool) (host target : List ℕ) → All (Passes is_no_slash) host → get_or target 0 0 ≡ slash → target_of (start_text https ++ (host ++ target)) ≡ target
target_of_text true host target none first =
    ap (λ a. drop (length a) (host ++ target)) (host_of_text true host target none first) ∙ drop_at host target _ refl
target_of_text false host target none first =
    ap (λ a. drop (length a) (host ++ target)) (host_of_text false host target none first) ∙ drop_at host target _ refl

pub target_at : (page text result : List ℕ) (end : ℕ) → text ≡ page → end ≡ host_start text + length (host_of text) → result ≡ drop end text → result ≡ target_of page
target_at page text result end same at is =
    is ∙ ap (λ n. drop n text) at ∙ sym (drop-drop (length (host_of text)) (host_start text) text) ∙ ap target_of same

front : (n : ℕ) (xs : List ℕ) → take (length (take n xs)) xs ≡ take n xs
front n xs = ap (take (length (take n xs))) (sym (take-append-drop n xs)) ∙ take_at (take n xs) (drop n xs) _ refl

pub host_end : (page text host : List ℕ) (start : ℕ) → page ≡ text → start ≡ host_start page → host ≡ host_of text → start + length host ≡ host_start text + length (host_of text)
host_end page text host start same at is =
    ap (λ n. n + length host) (at ∙ ap host_start same) ∙ ap (λ h. host_start text + length h) is

pub authority_at : (text result : List ℕ) (end : ℕ) → take (host_start text) text ≡ start_of text → end ≡ host_start text + length (host_of text) → is_https text ≡ true → result ≡ slice_range text 0 end → result ≡ authority_of text
unfolding authority_of
authority_at text result end scheme at https is =
    let begins : take 8 text ≡ codes "https://" = sym (ap (λ b. take (if b then 8 else 7) text) https) ∙ scheme ∙ ap (λ b. if b then codes "https://" else codes "http://") https in
    let place : end - 0 ≡ 8 + length (host_of text) = omega (arith, at ∙ ap (λ b. (if b then 8 else 7) + length (host_of text)) https) in
    let split : text ≡ codes "https://" ++ drop 8 text = sym (take-append-drop 8 text) ∙ ap (λ t. t ++ drop 8 text) begins in
    let host : take (length (host_of text)) (drop 8 text) ≡ host_of text =
    sym (ap (λ b. take (length (host_of text)) (drop (if b then 8 else 7) text)) https) ∙ front _ (drop (host_start text) text) in
    is ∙ ap (λ n. take n text) place ∙ ap (take (8 + length (host_of text))) split ∙ take-append-add (codes "https://") (drop 8 text) (length (host_of text)) ∙ ap (λ t. codes "https://" ++ t) host ∙ sym (ap (λ b. named b (host_of text)) https)

-- ---- the text of a URL

port_pieces : (port : Option ℕ) (rest : List ℕ) → when (is_some port) (codes ":") ++ (unwrap_or (option_map decimal port) [] ++ rest) ≡ port_text port ++ rest
port_pieces None rest = refl
port_pieces (Some n) rest = refl

query_pieces : (query : Option (List ℕ)) → when (is_some query) (codes "?") ++ (unwrap_or query [] ++ []) ≡ query_text query
query_pieces None = refl
query_pieces (Some q) = ap (λ t. question_mark ∷ t) (append-nil q)

pub host_pieces : (url : Parts) → text_between url BeforeHost AfterPort ≡ host_of_parts url
host_pieces url =
    ap (λ t. host_text (host_or_empty url) ++ t) (port_pieces url.port [] ∙ append-nil (port_text url.port))

pub target_pieces : (url : Parts) → text_between url BeforePath AfterQuery ≡ target_of_parts url
target_pieces url = ap (λ t. url.path ++ t) (query_pieces url.query)

behind_start : (url : Parts) → host_text (host_or_empty url) ++ (when (is_some url.port) (codes ":") ++ (unwrap_or (option_map decimal url.port) [] ++ (url.path ++ (when (is_some url.query) (codes "?") ++ (unwrap_or url.query [] ++ []))))) ≡ host_of_parts url ++ target_of_parts url
behind_start url =
    ap (λ t. host_text (host_or_empty url) ++ t) (port_pieces url.port _ ∙ ap (λ t. port_text url.port ++ (url.path ++ t)) (query_pieces url.query))
    ∙ sym (append_assoc (host_text (host_or_empty url)) (port_text url.port) (target_of_parts url))

-- the schemes of pages
abbrev pub scheme_text : Bool → List ℕ
scheme_text true = codes "https"
scheme_text false = codes "http"

pub page_pieces : (https : Bool) (url : Parts) → url.scheme ≡ scheme_text https → url.username ≡ [] → url.password ≡ [] → has_authority url ≡ true → page_of_parts url ≡ start_text https ++ (host_of_parts url ++ target_of_parts url)
page_pieces true url scheme username password authority =
    rw (scheme, username, password, authority) (ap (λ t. codes "https://" ++ t) (behind_start url))
page_pieces false url scheme username password authority =
    rw (scheme, username, password, authority) (ap (λ t. codes "http://" ++ t) (behind_start url))

special_kind : (https : Bool) → is_special (scheme_type (scheme_text https)) ≡ true
unfolding scheme_type default_port
special_kind true = refl
special_kind false = refl

pub special : (https : Bool) (url : Parts) → url.scheme ≡ scheme_text https → is_special (kind_of url) ≡ true
special https url scheme = ap (λ s. is_special (scheme_type s)) scheme ∙ special_kind https

pub is_one : (scheme : List ℕ) → IsScheme scheme → (https : Bool) × (scheme ≡ scheme_text https)
is_one scheme (inl http) = (false, http)
is_one scheme (inr https) = (true, https)

pub scheme_read : (schemes : Schemes) (scheme : List ℕ) → reads schemes scheme ≡ true → IsScheme scheme
scheme_read Http scheme is_read = inl ((bytes_eq-Decides scheme (codes "http")).0 is_read)
scheme_read HttpAndHttps scheme is_read = by (bytes_eq scheme (codes "http")) refl
  where
    by : (t : Bool) → bytes_eq scheme (codes "http") ≡ t → IsScheme scheme
    by true e = inl ((bytes_eq-Decides scheme (codes "http")).0 e)
    by false e = inr ((bytes_eq-Decides scheme (codes "https")).0 (sym (ap (λ b. b || bytes_eq scheme (codes "https")) e) ∙ is_read))

text_is_https : (https : Bool) → bytes_eq (scheme_text https) (codes "https") ≡ https
text_is_https true = refl
text_is_https false = refl

pub tells_https : (https : Bool) (url : Parts) → url.scheme ≡ scheme_text https → bytes_eq url.scheme (codes "https") ≡ https
tells_https https url scheme = ap (λ s. bytes_eq s (codes "https")) scheme ∙ text_is_https https

pub authority_named : (https : Bool) (url : Parts) → url.scheme ≡ scheme_text https → authority_of_parts url ≡ named https (host_of_parts url)
authority_named https url scheme = ap (λ b. named b (host_of_parts url)) (tells_https https url scheme)

pub host_without_slash : (url : Parts) → IsValid url → All (Passes is_no_slash) (host_of_parts url)
host_without_slash url valid =
    subst (All (Passes is_no_slash)) (host_pieces url) (All-weaker (Passes is_host_byte) (Passes is_no_slash) (λ b passes. grind (arith, nat_tests)) _ (host_and_port_bytes url valid.head))

first_of_path : (path rest : List ℕ) → 0 < length path → get_or path 0 0 ≡ slash → get_or (path ++ rest) 0 0 ≡ slash
first_of_path [] rest some first = absurd (omega arith)
first_of_path (b ∷ path) rest some first = first

target_from_slash : (https : Bool) (url : Parts) → IsValid url → url.scheme ≡ scheme_text https → get_or (target_of_parts url) 0 0 ≡ slash
target_from_slash https url valid scheme =
    let authority = special_has_authority url valid.head (special https url scheme) in
    let path = hierarchical url valid.path (base_from_authority url authority) in
    let some : 0 < length url.path = path.1 (special https url scheme) in
    first_of_path url.path (query_text url.query) some (⊎_elim (λ (none : url.path ≡ []). absurd (omega (arith, ap length none))) (λ first. first) (rooted (kind_of url) url.path path.0))

-- the text, and how it splits
pub record Splits (page : List ℕ) (url : Parts) : Type 0 where
  pub https : is_https page ≡ bytes_eq url.scheme (codes "https")
  pub scheme : take (host_start page) page ≡ start_of page
  pub parts : HasPartsOf page url
  pub rooted : get_or (target_of page) 0 0 ≡ slash

text_begins : (https : Bool) (rest : List ℕ) → take (host_start (start_text https ++ rest)) (start_text https ++ rest) ≡ start_of (start_text https ++ rest)
text_begins true rest = refl
text_begins false rest = refl

pub names_https : (https : Bool) (rest : List ℕ) → is_https (start_text https ++ rest) ≡ https
names_https true rest = refl
names_https false rest = refl

splits_of : (https : Bool) (url : Parts) → IsValid url → url.scheme ≡ scheme_text https → url.username ≡ [] → url.password ≡ [] → Splits (page_of_parts url) url
splits_of https url valid scheme username password =
    let spelled = page_pieces https url scheme username password (special_has_authority url valid.head (special https url scheme)) in
    let none = host_without_slash url valid in
    let first = target_from_slash https url valid scheme in
    let target = target_of_text https (host_of_parts url) (target_of_parts url) none first in
    subst (λ page. Splits page url) (sym spelled) (record {
      https = names_https https _ ∙ sym (tells_https https url scheme);
      scheme = text_begins https _;
      parts = record {
        authority = authority_of_text https (host_of_parts url) (target_of_parts url) none first ∙ sym (authority_named https url scheme);
        host = host_of_text https (host_of_parts url) (target_of_parts url) none first;
        target = target;
      };
      rooted = ap (λ t. get_or t 0 0) target ∙ first;
    })

pub page_splits : (url : Parts) → IsValid url → IsScheme url.scheme → url.username ≡ [] → url.password ≡ [] → Splits (page_of_parts url) url
page_splits url valid scheme username password =
    let one = is_one url.scheme scheme in
    splits_of one.0 url valid one.1 username password

-- ---- the text reads as itself

abbrev bare : Parts → Parts
bare url = record url { fragment = None }

bare_is_valid : (url : Parts) → IsValid url → IsValid (bare url)
bare_is_valid url valid = record {
  head = record {
    scheme = valid.head.scheme;
    username = valid.head.username;
    password = valid.head.password;
    host = valid.head.host;
    port = valid.head.port;
    bare = valid.head.bare;
  };
  path = valid.path;
  query = valid.query;
  fragment = tt;
}

one_kind : (https : Bool) → scheme_type (scheme_text https) ≡ SpecialNotFile
unfolding scheme_type default_port
one_kind true = refl
one_kind false = refl

pub page_kind : (url : Parts) → IsScheme url.scheme → kind_of url ≡ SpecialNotFile
page_kind url scheme =
    let one = is_one url.scheme scheme in
    ap scheme_type one.1 ∙ one_kind one.0

pub page_reads_as_itself : (schemes : Schemes) (url : Parts) (page : List ℕ) → IsValid url → IsScheme url.scheme → page_of_parts url ≡ page → page_url_of_parts schemes url ≡ Ok page → length page ≤ max_url → page_url_among schemes None page Enough ≡ Ok page
page_reads_as_itself schemes url page valid scheme spelled made limit =
    let parsed : parse_url None page ≡ Ok (bare url) = ap (parse_url None) (sym spelled) ∙ parse_url-serialize_special (bare url) None (bare_is_valid url valid) (page_kind url scheme) in
    cond-false (ltb max_url (length page)) _ _ (le-ltb max_url (length page) limit) ∙ ap (page_url_of_parsed schemes) parsed ∙ made

-- ---- no octet is a space

abbrev pub IsVisible : ℕ → Type 0
IsVisible octet = space < octet

visible_query : (query : Option (List ℕ)) → All IsVisible (unwrap_or query []) → All IsVisible (query_text query)
visible_query None all = all
visible_query (Some query) all = All-cons IsVisible question_mark query (omega arith) all

own_query : (url : Parts) → IsValid url → All IsVisible (query_text url.query)
own_query url valid =
    visible_query url.query (All_part IsVisible (query_set (kind_of url)) url.query (λ b kept. let passes = query_byte (kind_of url) b kept in grind (arith, nat_tests)) valid.query)

visible_path : (kind : SchemeType) (path : List ℕ) → IsSegmentList kind path → All IsVisible path
visible_path kind path list =
    All-weaker _ IsVisible (λ b kept. let passes = passes_from_kept PATH (λ x. ltb space x) refl b kept in grind (arith, nat_tests)) path (segment_list_kept kind path list)

pub visible_host : (url : Parts) → IsValid url → All IsVisible (host_of_parts url)
visible_host url valid =
    subst (All IsVisible) (host_pieces url) (All-weaker (Passes is_host_byte) IsVisible (λ b passes. grind (arith, nat_tests)) _ (host_and_port_bytes url valid.head))

pub visible_start : (https : Bool) → All IsVisible (start_text https)
visible_start true = search (arith, All-cons, All-nil)
visible_start false = search (arith, All-cons, All-nil)

pub page_is_visible : (https : Bool) (url : Parts) → IsValid url → url.scheme ≡ scheme_text https → url.username ≡ [] → url.password ≡ [] → All IsVisible (page_of_parts url)
page_is_visible https url valid scheme username password =
    let authority = special_has_authority url valid.head (special https url scheme) in
    let path = hierarchical url valid.path (base_from_authority url authority) in
    subst (All IsVisible) (sym (page_pieces https url scheme username password authority)) (All-append IsVisible (start_text https) _ (visible_start https) (All-append IsVisible (host_of_parts url) _ (visible_host url valid) (All-append IsVisible url.path _ (visible_path (kind_of url) url.path path.0) (own_query url valid))))

pub written : (url : Parts) (page : List ℕ) → IsPageParts url → page_of_parts url ≡ page → IsWritten page
unfolding IsWritten
written url page parts spelled = (url, parts, spelled)

-- ---- a URL without a fault

no_credentials : (url : Parts) → IsPageParts url → has_credentials url ≡ false
no_credentials url parts = rw (parts.username, parts.password)

pub faultless_reads : (schemes : Schemes) (url : Parts) → IsFaultless schemes url → page_url_of_parts schemes url ≡ Ok (page_of_parts url)
faultless_reads schemes url faultless =
    let text_fits = le-ltb max_url (length (page_of_parts url)) faultless.limit in
    let authority_fits = le-ltb max_authority (length (authority_of_parts url)) faultless.authority_limit in
    cond-false _ _ _ (ap not faultless.is_read)
    ∙ cond-false _ _ _ (no_credentials url faultless.parts)
    ∙ cond-false _ _ _ (λ i. text_fits i || authority_fits i)

pub faultless_splits : (schemes : Schemes) (url : Parts) → IsFaultless schemes url → Splits (page_of_parts url) url
faultless_splits schemes url faultless =
    page_splits url faultless.parts.valid faultless.parts.scheme faultless.parts.username faultless.parts.password

reads_one : (https : Bool) → reads HttpAndHttps (scheme_text https) ≡ true
reads_one true = refl
reads_one false = refl

pub reads_both : (scheme : List ℕ) → IsScheme scheme → reads HttpAndHttps scheme ≡ true
reads_both scheme is =
    let one = is_one scheme is in
    ap (reads HttpAndHttps) one.1 ∙ reads_one one.0

widened : (schemes : Schemes) (url : Parts) → IsFaultless schemes url → IsFaultless HttpAndHttps url
widened schemes url faultless = record {
  parts = faultless.parts;
  is_read = reads_both url.scheme faultless.parts.scheme;
  limit = faultless.limit;
  authority_limit = faultless.authority_limit;
}

pub faultless_page : (schemes : Schemes) (url : Parts) → IsFaultless schemes url → IsAscii (page_of_parts url) → IsPage (page_of_parts url)
faultless_page schemes url faultless ascii =
    let parts = faultless.parts in
    let split = faultless_splits schemes url faultless in
    let one = is_one url.scheme parts.scheme in
    record {
      own = page_reads_as_itself HttpAndHttps url (page_of_parts url) parts.valid parts.scheme refl (faultless_reads HttpAndHttps url (widened schemes url faultless)) faultless.limit;
      written = written url (page_of_parts url) parts refl;
      scheme = split.scheme;
      limit = faultless.limit;
      authority_limit = subst (λ a. length a ≤ max_authority) (sym split.parts.authority) faultless.authority_limit;
      rooted = split.rooted;
      ascii = ascii;
      visible = page_is_visible one.0 url parts.valid one.1 parts.username parts.password;
    }
