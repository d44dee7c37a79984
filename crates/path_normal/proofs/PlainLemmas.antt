-- A plain URL is valid, and is written unchanged.
-- Used by `plain_url` and by `PageUrl::of_plain`.
use Rattle.std.proofs.Common.{◌≡◌, ◌≤◌, ◌<◌, ◌+◌, ◌-◌, ◌==◌, ◌⊎◌, ℕ, Bool, true, false, not, ◌&&◌, ◌||◌, List, [], ◌∷◌, ◌++◌, length, get_or, take, drop, Some, None, Ok, All, refl, sym, ap, subst, ◌∙◌, append_assoc, append-nil, length-drop, arith, inl, inr}
use Rattle.std.specs.Prelude.{Option, codes, decimal, is_some, unwrap_or, IsAscii, if◌then◌else◌}
use Rattle.std.specs.Char.{is_ascii_digit, is_ascii_lowercase, is_digit, to_ascii_lowercase}
use Rattle.std.specs.Int.{IsInRange}
use Rattle.std.specs.List.{list_all, position}
use Rattle.std.proofs.Math.Bool.{or-true}
use Rattle.std.proofs.Math.Seq.{take-length}
use Rattle.std.proofs.lemmas.Bool.{and_parts, eqb-true, true≢false}
use Rattle.std.proofs.lemmas.Bool.Decides.{nat_tests}
use Rattle.std.proofs.lemmas.List.{drop-drop, drop_all, length-take-le}
use Rattle.std.proofs.lemmas.List.Elements.{All-append, All-weaker, All-nil, All-cons, All-head, All-push}
use Rattle.std.proofs.lemmas.List.Quantifiers.{position-Some}
use Rattle.std.proofs.lemmas.Str.Ascii.{IsAscii-from_all}
use Rattle.percent_encoding.specs.Percent.{IsKept}
use Rattle.url.specs.declared.host.Host.{Host}
use Rattle.url.specs.declared.host.Host.TheVariants.{Domain, Ipv4, Ipv6}
use Rattle.url.specs.declared.scheme.SchemeType.TheVariants.{SpecialNotFile}
use Rattle.url.specs.declared.sets.TheConstants.{FORBIDDEN_DOMAIN, PATH, USERINFO}
use Rattle.url.specs.Ascii.{dot, slash}
use Rattle.url.specs.Host.{IsDomain, host_text, is_empty_host}
use Rattle.url.specs.Input.{is_empty, rsplit_once, rsplit_step}
use Rattle.url.specs.Ipv4.{ends_in_a_number, is_number, last_label_of, parse_number}
use Rattle.url.specs.Host.{IsHostOf}
use Rattle.url.specs.Parser.{parse_url}
use Rattle.url.specs.Parts.{Parts, IsHierarchicalPath, IsPortOf, IsValid, cannot_have_credentials_or_port}
use Rattle.url.specs.Path.{dot_count, IsSegment, IsSegmentList}
use Rattle.url.specs.Scheme.{default_port, is_slash as is_slash_of, scheme_len, scheme_type, IsScheme as IsUrlScheme}
use Rattle.url.proofs.Theorems.{parse_url-serialize_special}
use Rattle.url.proofs.HostRoundTrip.{All-decimal, IsHostByte, host_text_plain}
use Rattle.url.proofs.InputLemmas.{Passes, is_empty_nonempty, lowercase_other, map_fixed, split_around}
use Rattle.url.proofs.PathLemmas.{no_segments, push_valid}
use Rattle.url.proofs.SetLemmas.{kept_from_passes}
use Rattle.path_normal.specs.declared.schemes.Schemes.{Schemes}
use Rattle.path_normal.specs.declared.schemes.Schemes.TheVariants.{Http, HttpAndHttps}
use Rattle.path_normal.specs.Limits.{max_authority, max_url}
use Rattle.path_normal.specs.declared.normal.Role.TheVariants.{Path}
use Rattle.path_normal.specs.Normal.{is_changed, is_unreserved, normal, normal_path}
use Rattle.path_normal.proofs.NormalLemmas.{kept_front}
use Rattle.path_normal.specs.PageText.{host_of, host_start, target_of}
use Rattle.path_normal.specs.PageUrl.{HasPartsOf, IsFaultless, IsPage, host_of_parts, page_of_parts, port_text, target_of_parts}
use Rattle.path_normal.specs.Schemes.{reads}
use Rattle.path_normal.proofs.PageLemmas.{Splits, faultless_page, faultless_splits, page_pieces}
use Rattle.path_normal.specs.PlainUrl.{IsPlain, IsPlainAuthority, IsPlainHost, IsPlainPort, is_label_octet, is_plain_domain, is_plain_path, is_slash}

-- ---- what was looked at

rest_of : {X : Type 0} (n : ℕ) (l : List X) → take (length l - n) (drop n l) ≡ drop n l
rest_of n l = ap (λ k. take k (drop n l)) (sym (length-drop n l)) ∙ take-length (drop n l)

pub plain_at : (text rest : List ℕ) (len : ℕ) → text ≡ codes "http://" ++ rest → position is_slash rest ≡ Some len → len ≤ max_authority →
    IsPlainAuthority (take len rest) → is_plain_path true (take (length rest - (len + 1)) (drop (len + 1) rest)) ≡ true → IsPlain text (7 + len)
plain_at text rest len spelled at short authority path =
    let found = position-Some is_slash rest len 0 at in
    let count : length (take len rest) ≡ len = length-take-le len rest (omega (arith, found.0)) in
    record {
      authority = take len rest;
      path = drop (len + 1) rest;
      spelled = spelled ∙ ap (λ r. codes "http://" ++ r) (split_around rest len slash found.0 (eqb-true (get_or rest len 0) slash found.1));
      end_is = ap (λ n. 7 + n) (sym count);
      authority_is = authority;
      path_is = sym (ap (is_plain_path true) (rest_of (len + 1) rest)) ∙ path;
      limit = subst (λ n. n ≤ max_authority) (sym count) short;
    }

-- ---- the host

-- an octet of a domain
abbrev is_host_octet : ℕ → Bool
is_host_octet octet = is_label_octet octet || octet == dot

not_true : (a : Bool) → not a ≡ true → a ≡ false
not_true false is = refl
not_true true is = absurd (true≢false (sym is))

either : (a b c : Bool) → a ≡ true → (a || b) ≡ true
either true b c is = refl
either false b c is = absurd (true≢false (sym is))

lower_is_host : (octet : ℕ) → is_ascii_lowercase octet ≡ true → is_host_octet octet ≡ true
lower_is_host octet is = grind (arith, nat_tests, is)

host_octets : (begins : Bool) (host : List ℕ) → is_plain_domain begins host ≡ true → All (Passes is_host_octet) host
host_octets begins [] is = All-nil (Passes is_host_octet)
host_octets true (octet ∷ octets) is =
    let parts = and_parts (is_ascii_lowercase octet) (is_plain_domain false octets) is in
    All-cons (Passes is_host_octet) octet octets (lower_is_host octet parts.0) (host_octets false octets parts.1)
host_octets false (octet ∷ octets) is = by (octet == dot) refl (host_octets true octets) (host_octets false octets)
  where
    by : (b : Bool) → (octet == dot) ≡ b → (is_plain_domain true octets ≡ true → All (Passes is_host_octet) octets) →
        (is_plain_domain false octets ≡ true → All (Passes is_host_octet) octets) → All (Passes is_host_octet) (octet ∷ octets)
    by true at first other =
        All-cons (Passes is_host_octet) octet octets (ap (λ b. is_label_octet octet || b) at ∙ or-true (is_label_octet octet))
        (first (sym (ap (λ b. if b then is_plain_domain true octets else is_label_octet octet && is_plain_domain false octets) at) ∙ is))
    by false at first other =
        let parts = and_parts (is_label_octet octet) (is_plain_domain false octets) (sym (ap (λ b. if b then is_plain_domain true octets else is_label_octet octet && is_plain_domain false octets) at) ∙ is) in
        All-cons (Passes is_host_octet) octet octets (either (is_label_octet octet) (octet == dot) true parts.0) (other parts.1)

host_small : (octet : ℕ) → is_host_octet octet ≡ true → octet < 128
host_small octet is = grind (arith, nat_tests, is)

host_kept : (octet : ℕ) → is_host_octet octet ≡ true → IsKept FORBIDDEN_DOMAIN octet
host_kept octet is = kept_from_passes is_host_octet FORBIDDEN_DOMAIN refl octet (host_small octet is) is

host_lower : (octet : ℕ) → is_host_octet octet ≡ true → to_ascii_lowercase octet ≡ octet
host_lower octet is = lowercase_other octet (grind (arith, nat_tests, is))

-- the text begins with a letter in lower case
abbrev IsNamed : List ℕ → Type 0
IsNamed text = (first : ℕ) × (others : List ℕ) × (text ≡ first ∷ others) × (is_ascii_lowercase first ≡ true)

-- the text after the last dot begins so; within a label there may be no dot
abbrev IsNamedBehind : Bool → Option (List ℕ) → List ℕ → Type 0
IsNamedBehind true front back = IsNamed back
IsNamedBehind false front back = (front ≡ None) ⊎ IsNamed back

none_some : {P : Type 0} (front : List ℕ) → Some front ≡ None → P
none_some front is = absurd (true≢false (ap is_some is))

-- what `rsplit_step` gives if no dot follows
abbrev cut : Bool → ℕ → List ℕ → Option (List ℕ) × List ℕ
cut ends octet back = if ends then (Some [], back) else (None, octet ∷ back)

first_step : (octet : ℕ) (front : Option (List ℕ)) (back : List ℕ) → is_ascii_lowercase octet ≡ true → IsNamedBehind false front back → IsNamed (rsplit_step dot octet front back).1
first_step octet (Some front) back lower (inl none) = none_some front none
first_step octet (Some front) back lower (inr named) = named
first_step octet None back lower behind =
    let other : (octet == dot) ≡ false = grind (arith, nat_tests, lower) in
    subst (λ b. IsNamed (cut b octet back).1) (sym other) (octet, back, refl, lower)

dot_step : (octet : ℕ) (front : Option (List ℕ)) (back : List ℕ) → (octet == dot) ≡ true → IsNamed back → IsNamedBehind false (rsplit_step dot octet front back).0 (rsplit_step dot octet front back).1
dot_step octet (Some front) back at named = inr named
dot_step octet None back at named =
    subst (λ b. IsNamedBehind false (cut b octet back).0 (cut b octet back).1) (sym at) (inr named)

other_step : (octet : ℕ) (front : Option (List ℕ)) (back : List ℕ) → (octet == dot) ≡ false → IsNamedBehind false front back →
    IsNamedBehind false (rsplit_step dot octet front back).0 (rsplit_step dot octet front back).1
other_step octet (Some front) back at (inl none) = none_some front none
other_step octet (Some front) back at (inr named) = inr named
other_step octet None back at behind =
    subst (λ b. IsNamedBehind false (cut b octet back).0 (cut b octet back).1) (sym at) (inl refl)

behind_last : (begins : Bool) (host : List ℕ) → is_plain_domain begins host ≡ true → IsNamedBehind begins (rsplit_once dot host).0 (rsplit_once dot host).1
unfolding rsplit_once
behind_last true [] is = absurd (true≢false (sym is))
behind_last false [] is = inl refl
behind_last true (octet ∷ octets) is =
    let parts = and_parts (is_ascii_lowercase octet) (is_plain_domain false octets) is in
    first_step octet (rsplit_once dot octets).0 (rsplit_once dot octets).1 parts.0 (behind_last false octets parts.1)
behind_last false (octet ∷ octets) is = by (octet == dot) refl (behind_last true octets) (behind_last false octets)
  where
    by : (b : Bool) → (octet == dot) ≡ b → (is_plain_domain true octets ≡ true → IsNamedBehind true (rsplit_once dot octets).0 (rsplit_once dot octets).1) →
        (is_plain_domain false octets ≡ true → IsNamedBehind false (rsplit_once dot octets).0 (rsplit_once dot octets).1) →
        IsNamedBehind false (rsplit_step dot octet (rsplit_once dot octets).0 (rsplit_once dot octets).1).0 (rsplit_step dot octet (rsplit_once dot octets).0 (rsplit_once dot octets).1).1
    by true at first other =
        dot_step octet (rsplit_once dot octets).0 (rsplit_once dot octets).1 at
        (first (sym (ap (λ b. if b then is_plain_domain true octets else is_label_octet octet && is_plain_domain false octets) at) ∙ is))
    by false at first other =
        other_step octet (rsplit_once dot octets).0 (rsplit_once dot octets).1 at
        (other (and_parts (is_label_octet octet) (is_plain_domain false octets) (sym (ap (λ b. if b then is_plain_domain true octets else is_label_octet octet && is_plain_domain false octets) at) ∙ is)).1)

last_named : (front : Option (List ℕ)) (back : List ℕ) → IsNamed back → last_label_of front back ≡ back
last_named None back named = refl
last_named (Some front) back named =
    ap (λ b. if b then (rsplit_once dot front).1 else back) (is_empty_nonempty back (omega (arith, ap length named.2)))

no_number : (first : ℕ) (others : List ℕ) → is_ascii_lowercase first ≡ true → is_number (parse_number (first ∷ others)) ≡ false
unfolding parse_number
no_number first others lower =
    let some : is_empty (first ∷ others) ≡ false = is_empty_nonempty (first ∷ others) (omega arith) in
    let no_zero : (first == 48) ≡ false = grind (arith, nat_tests, lower) in
    let no_digit : is_digit first 10 ≡ false = grind (arith, nat_tests, lower) in
    rw (some, no_zero, no_digit) refl

not_number : (text : List ℕ) → IsNamed text → ((not (is_empty text) && list_all is_ascii_digit text) || is_number (parse_number text)) ≡ false
not_number text named =
    let no_digit : is_ascii_digit named.0 ≡ false = (let lower = named.3 in grind (arith, nat_tests, lower)) in
    subst (λ t. ((not (is_empty t) && list_all is_ascii_digit t) || is_number (parse_number t)) ≡ false) (sym named.2)
    (rw (is_empty_nonempty (named.0 ∷ named.1) (omega arith), no_digit, no_number named.0 named.1 named.3) refl)

ends_otherwise : (host : List ℕ) → is_plain_domain true host ≡ true → ends_in_a_number host ≡ false
unfolding ends_in_a_number
ends_otherwise host is =
    let named = behind_last true host is in
    ap (λ last. (not (is_empty last) && list_all is_ascii_digit last) || is_number (parse_number last)) (last_named (rsplit_once dot host).0 (rsplit_once dot host).1 named)
    ∙ not_number (rsplit_once dot host).1 named

plain_domain : (host : List ℕ) → is_plain_domain true host ≡ true → IsDomain host
plain_domain host is = record {
  allowed = All-weaker (Passes is_host_octet) (IsKept FORBIDDEN_DOMAIN) host_kept host (host_octets true host is);
  lower = map_fixed to_ascii_lowercase host (All-weaker (Passes is_host_octet) (λ b. to_ascii_lowercase b ≡ b) host_lower host (host_octets true host is));
  named = ends_otherwise host is;
}

-- ---- the path

-- the segment is empty, or does not begin with a dot
abbrev StandsAfter : Bool → List ℕ → Type 0
StandsAfter true segment = segment ≡ []
StandsAfter false segment = (first : ℕ) × (others : List ℕ) × (segment ≡ first ∷ others) × ((first == dot) ≡ false)

unreserved_small : (octet : ℕ) → is_unreserved octet ≡ true → octet < 128
unreserved_small octet is = grind (arith, nat_tests, is)

unreserved_kept : (octet : ℕ) → is_unreserved octet ≡ true → IsKept PATH octet
unreserved_kept octet is = kept_from_passes is_unreserved PATH refl octet (unreserved_small octet is) is

unreserved_apart : (octet : ℕ) → is_unreserved octet ≡ true → is_slash_of SpecialNotFile octet ≡ false
unreserved_apart octet is = grind (arith, nat_tests, is)

no_dots : (begins : Bool) (segment : List ℕ) → All (Passes is_unreserved) segment → StandsAfter begins segment → dot_count segment ≡ 0
unfolding dot_count
no_dots true segment all at = subst (λ s. dot_count s ≡ 0) (sym at) refl
no_dots false segment all at =
    let plain = All-head (Passes is_unreserved) at.0 at.1 (subst (All (Passes is_unreserved)) at.2 all) in
    let no_escape : (at.0 == 37) ≡ false = grind (arith, nat_tests, plain) in
    subst (λ s. dot_count s ≡ 0) (sym at.2) (rw (at.3, no_escape) refl)

segment_of : (begins : Bool) (segment : List ℕ) → All (Passes is_unreserved) segment → StandsAfter begins segment → IsSegment SpecialNotFile segment
segment_of begins segment all at = record {
  escaped = All-weaker (Passes is_unreserved) (IsKept PATH) unreserved_kept segment all;
  whole = All-weaker (Passes is_unreserved) (λ b. is_slash_of SpecialNotFile b ≡ false) unreserved_apart segment all;
  resolved = no_dots begins segment all at;
}

grows : (begins : Bool) (segment : List ℕ) (octet : ℕ) → StandsAfter begins segment → not (begins && octet == dot) ≡ true → StandsAfter false (segment ++ octet ∷ [])
grows true segment octet at other = (octet, [], ap (λ s. s ++ octet ∷ []) at, not_true (octet == dot) other)
grows false segment octet at other = (at.0, at.1 ++ octet ∷ [], ap (λ s. s ++ octet ∷ []) at.2, at.3)

-- a plain path is a list of segments, after those passed, with the passed part of one
path_valid : (begins : Bool) (done segment rest : List ℕ) → IsSegmentList SpecialNotFile done → All (Passes is_unreserved) segment → StandsAfter begins segment →
    is_plain_path begins rest ≡ true → IsSegmentList SpecialNotFile (done ++ slash ∷ (segment ++ rest))
path_valid begins done segment [] list all at is =
    subst (λ s. IsSegmentList SpecialNotFile (done ++ slash ∷ s)) (sym (append-nil segment)) (push_valid SpecialNotFile done segment list (segment_of begins segment all at))
path_valid begins done segment (octet ∷ rest) list all at is =
    by (octet == slash) refl (path_valid true (done ++ slash ∷ segment) [] rest) (path_valid false done (segment ++ octet ∷ []) rest)
  where
    by : (b : Bool) → (octet == slash) ≡ b →
        (IsSegmentList SpecialNotFile (done ++ slash ∷ segment) → All (Passes is_unreserved) [] → StandsAfter true [] → is_plain_path true rest ≡ true →
        IsSegmentList SpecialNotFile ((done ++ slash ∷ segment) ++ slash ∷ ([] ++ rest))) →
        (IsSegmentList SpecialNotFile done → All (Passes is_unreserved) (segment ++ octet ∷ []) → StandsAfter false (segment ++ octet ∷ []) → is_plain_path false rest ≡ true →
        IsSegmentList SpecialNotFile (done ++ slash ∷ ((segment ++ octet ∷ []) ++ rest))) → IsSegmentList SpecialNotFile (done ++ slash ∷ (segment ++ octet ∷ rest))
    by true same next more =
        subst (λ o. IsSegmentList SpecialNotFile (done ++ slash ∷ (segment ++ o ∷ rest))) (sym (eqb-true octet slash same))
        (subst (IsSegmentList SpecialNotFile) (append_assoc done (slash ∷ segment) (slash ∷ rest))
        (next (push_valid SpecialNotFile done segment list (segment_of begins segment all at)) (All-nil (Passes is_unreserved)) refl
        (sym (ap (λ b. if b then is_plain_path true rest else is_unreserved octet && not (begins && octet == dot) && is_plain_path false rest) same) ∙ is)))
    by false same next more =
        let both = and_parts (is_unreserved octet && not (begins && octet == dot)) (is_plain_path false rest) (sym (ap (λ b. if b then is_plain_path true rest else is_unreserved octet && not (begins && octet == dot) && is_plain_path false rest) same) ∙ is) in
        let parts = and_parts (is_unreserved octet) (not (begins && octet == dot)) both.0 in
        subst (λ s. IsSegmentList SpecialNotFile (done ++ slash ∷ s)) (append_assoc segment (octet ∷ []) rest)
        (more list (All-push (Passes is_unreserved) segment octet all parts.0) (grows begins segment octet at parts.1) both.1)

plain_segments : (path : List ℕ) → is_plain_path true path ≡ true → IsSegmentList SpecialNotFile (slash ∷ path)
plain_segments path is = path_valid true [] [] path (no_segments SpecialNotFile) (All-nil (Passes is_unreserved)) refl is

-- ---- the URL

-- the parts of a plain URL
abbrev parts_of : Host (List ℕ) → Option ℕ → (path : List ℕ) → Parts
parts_of host port path = record {
  scheme = codes "http";
  username = [];
  password = [];
  host = Some host;
  port = port;
  path = slash ∷ path;
  query = None;
  fragment = None;
}

-- those of a text that is one
abbrev parts_in : (text : List ℕ) (end : ℕ) → IsPlain text end → Parts
parts_in text end plain = parts_of plain.authority_is.host plain.authority_is.port plain.path

http_scheme : IsUrlScheme (codes "http")
unfolding scheme_len
http_scheme = record { nonempty = omega arith; whole = refl; lower = refl }

http_kind : scheme_type (codes "http") ≡ SpecialNotFile
unfolding scheme_type default_port
http_kind = refl

nonempty : (host : List ℕ) → is_plain_domain true host ≡ true → 0 < length host
nonempty [] is = absurd (true≢false (sym is))
nonempty (octet ∷ octets) is = omega arith

host_valid : (host : Host (List ℕ)) → IsPlainHost host → IsHostOf SpecialNotFile host
host_valid (Domain domain) is = (plain_domain domain is, nonempty domain is)
host_valid (Ipv4 address) is = is
host_valid (Ipv6 address) is = absurd is

host_full : (host : Host (List ℕ)) → IsPlainHost host → is_empty_host host ≡ false
host_full (Domain domain) is = is_empty_nonempty domain (nonempty domain is)
host_full (Ipv4 address) is = refl
host_full (Ipv6 address) is = absurd is

http_port : default_port (codes "http") ≡ Some 80
unfolding default_port
http_port = refl

port_valid : (port : Option ℕ) → IsPlainPort port → IsPortOf (codes "http") port
port_valid None is = tt
port_valid (Some n) is = (is.0, λ same. is.1 (ap (λ port. unwrap_or port 0) (sym same ∙ http_port)))

may_have_port : (host : Host (List ℕ)) (port : Option ℕ) (path : List ℕ) → IsPlainHost host → cannot_have_credentials_or_port (parts_of host port path) ≡ false
may_have_port host port path is = rw (host_full host is, http_kind) refl

plain_valid : (host : Host (List ℕ)) (port : Option ℕ) (path : List ℕ) → IsPlainHost host → IsPlainPort port → is_plain_path true path ≡ true → IsValid (parts_of host port path)
plain_valid host port path host_is port_is path_is = record {
  head = record {
    scheme = http_scheme;
    username = All-nil (IsKept USERINFO);
    password = All-nil (IsKept USERINFO);
    host = subst (λ kind. IsHostOf kind host) (sym http_kind) (host_valid host host_is);
    port = port_valid port port_is;
    bare = λ cannot. absurd (true≢false (sym cannot ∙ may_have_port host port path host_is));
  };
  path = inl (subst (λ kind. IsHierarchicalPath kind (slash ∷ path)) (sym http_kind) (plain_segments path path_is, λ _. omega arith));
  query = tt;
  fragment = tt;
}

target_is_own : (host : Host (List ℕ)) (port : Option ℕ) (path : List ℕ) → target_of_parts (parts_of host port path) ≡ slash ∷ path
target_is_own host port path = append-nil (slash ∷ path)

host_is_own : (text : List ℕ) (end : ℕ) → (plain : IsPlain text end) → host_of_parts (parts_in text end plain) ≡ plain.authority
host_is_own text end plain = sym plain.authority_is.spelled

plain_spelled : (text : List ℕ) (end : ℕ) → (plain : IsPlain text end) → page_of_parts (parts_in text end plain) ≡ text
plain_spelled text end plain =
    page_pieces false (parts_in text end plain) refl refl refl refl ∙ ap (λ h. codes "http://" ++ (h ++ target_of_parts (parts_in text end plain))) (host_is_own text end plain)
    ∙ ap (λ t. codes "http://" ++ (plain.authority ++ t)) (target_is_own plain.authority_is.host plain.authority_is.port plain.path) ∙ sym plain.spelled

http_read : (schemes : Schemes) → reads schemes (codes "http") ≡ true
http_read Http = refl
http_read HttpAndHttps = refl

plain_faultless : (schemes : Schemes) (text : List ℕ) (end : ℕ) → (plain : IsPlain text end) → length text ≤ max_url → IsFaultless schemes (parts_in text end plain)
plain_faultless schemes text end plain short = record {
  parts = record {
    valid = plain_valid plain.authority_is.host plain.authority_is.port plain.path plain.authority_is.host_is plain.authority_is.port_is plain.path_is;
    scheme = inl refl;
    username = refl;
    password = refl;
  };
  is_read = http_read schemes;
  limit = subst (λ t. length t ≤ max_url) (sym (plain_spelled text end plain)) short;
  authority_limit = subst (λ h. length h ≤ max_authority) (sym (host_is_own text end plain)) plain.limit;
}

pub plain_page : (text : List ℕ) (end : ℕ) → IsPlain text end → length text ≤ max_url → IsAscii text → IsPage text
plain_page text end plain short ascii =
    let spelled = plain_spelled text end plain in
    subst IsPage spelled (faultless_page Http (parts_in text end plain) (plain_faultless Http text end plain short) (subst IsAscii (sym spelled) ascii))

pub plain_splits : (text : List ℕ) (end : ℕ) → IsPlain text end → length text ≤ max_url → (7 ≡ host_start text) × (end ≡ host_start text + length (host_of text)) × (drop end text ≡ target_of text)
plain_splits text end plain short =
    let spelled = plain_spelled text end plain in
    let splits = subst (λ page. Splits page (parts_in text end plain)) spelled (faultless_splits Http (parts_in text end plain) (plain_faultless Http text end plain short)) in
    let start : 7 ≡ host_start text = sym (ap (λ b. if b then 8 else 7) splits.https) in
    let host : host_of text ≡ plain.authority = splits.parts.host ∙ host_is_own text end plain in
    let at : end ≡ host_start text + length (host_of text) = plain.end_is ∙ ap (λ n. n + length plain.authority) start ∙ ap (λ h. host_start text + length h) (sym host) in
    (start, at, ap (λ n. drop n text) at ∙ sym (drop-drop (length (host_of text)) (host_start text) text))

pub plain_parsed : (text : List ℕ) (end : ℕ) → IsPlain text end → length text ≤ max_url → (url : Parts) × (parse_url None text ≡ Ok url) × HasPartsOf text url
plain_parsed text end plain short =
    let spelled = plain_spelled text end plain in
    let faultless = plain_faultless Http text end plain short in (
      parts_in text end plain,
      ap (parse_url None) (sym spelled) ∙ parse_url-serialize_special (parts_in text end plain) None faultless.parts.valid http_kind,
      (subst (λ page. Splits page (parts_in text end plain)) spelled (faultless_splits Http (parts_in text end plain) faultless)).parts,
    )

-- ---- its octets are ASCII

path_all : (P : ℕ → Type 0) → P slash → ((octet : ℕ) → is_unreserved octet ≡ true → P octet) → (begins : Bool) (path : List ℕ) → is_plain_path begins path ≡ true → All P path
path_all P at_slash at begins [] is = All-nil P
path_all P at_slash at begins (octet ∷ octets) is = by (octet == slash) refl (path_all P at_slash at true octets) (path_all P at_slash at false octets)
  where
    by : (b : Bool) → (octet == slash) ≡ b → (is_plain_path true octets ≡ true → All P octets) → (is_plain_path false octets ≡ true → All P octets) → All P (octet ∷ octets)
    by true same next more =
        All-cons P octet octets (subst P (sym (eqb-true octet slash same)) at_slash)
        (next (sym (ap (λ b. if b then is_plain_path true octets else is_unreserved octet && not (begins && octet == dot) && is_plain_path false octets) same) ∙ is))
    by false same next more =
        let both = and_parts (is_unreserved octet && not (begins && octet == dot)) (is_plain_path false octets) (sym (ap (λ b. if b then is_plain_path true octets else is_unreserved octet && not (begins && octet == dot) && is_plain_path false octets) same) ∙ is) in
        All-cons P octet octets (at octet (and_parts (is_unreserved octet) (not (begins && octet == dot)) both.0).0) (more both.1)

small_start : All (λ octet. octet < 128) (codes "http://")
small_start = search (arith, All-cons, All-nil)

digit_small : (octet : ℕ) → IsInRange 48 57 octet → octet < 128
digit_small octet is = grind arith

port_small : (port : Option ℕ) → IsPlainPort port → All (λ octet. octet < 128) (port_text port)
port_small None is = All-nil (λ octet. octet < 128)
port_small (Some n) is =
    All-cons (λ octet. octet < 128) 58 (decimal n) (omega arith)
    (All-weaker (IsInRange 48 57) (λ octet. octet < 128) digit_small (decimal n) (All-decimal n (omega (arith, is.0))))

byte_small : (octet : ℕ) → IsHostByte octet → octet < 128
byte_small octet is = omega (arith, is.below)

authority_small : (authority : List ℕ) → IsPlainAuthority authority → All (λ octet. octet < 128) authority
authority_small authority is =
    subst (All (λ octet. octet < 128)) (sym is.spelled)
    (All-append (λ octet. octet < 128) (host_text is.host) (port_text is.port)
    (All-weaker IsHostByte (λ octet. octet < 128) byte_small (host_text is.host) (host_text_plain SpecialNotFile is.host (host_valid is.host is.host_is)))
    (port_small is.port is.port_is))

pub plain_ascii : (text : List ℕ) (end : ℕ) → IsPlain text end → IsAscii text
plain_ascii text end plain =
    IsAscii-from_all text (subst (All (λ octet. octet < 128)) (sym plain.spelled)
    (All-append (λ octet. octet < 128) (codes "http://") (plain.authority ++ slash ∷ plain.path) small_start
    (All-append (λ octet. octet < 128) plain.authority (slash ∷ plain.path) (authority_small plain.authority plain.authority_is)
    (All-cons (λ octet. octet < 128) slash plain.path (omega arith) (path_all (λ octet. octet < 128) (omega arith) unreserved_small true plain.path plain.path_is)))))

-- ---- its target is in normal form

-- the octet is written unchanged
abbrev IsFixed : ℕ → Type 0
IsFixed octet = is_changed Path octet ≡ false

unreserved_fixed : (octet : ℕ) → is_unreserved octet ≡ true → IsFixed octet
unreserved_fixed octet is = rw is refl

fixed_form : (text : List ℕ) → All IsFixed text → normal_path text ≡ text
fixed_form text all =
    kept_front Path (length text) text (λ k below. all k 0 below) (omega arith)
    ∙ ap (λ t. t ++ normal Path (drop (length text) text)) (take-length text) ∙ ap (λ t. text ++ normal Path t) (drop_all (length text) text (omega arith)) ∙ append-nil text

pub plain_form : (text : List ℕ) (end : ℕ) → IsPlain text end → length text ≤ max_url → target_of text ≡ normal_path (target_of text)
plain_form text end plain short =
    let spelled = plain_spelled text end plain in
    let splits = subst (λ page. Splits page (parts_in text end plain)) spelled (faultless_splits Http (parts_in text end plain) (plain_faultless Http text end plain short)) in
    let target : slash ∷ plain.path ≡ target_of text = sym (splits.parts.target ∙ target_is_own plain.authority_is.host plain.authority_is.port plain.path) in
    subst (λ t. t ≡ normal_path t) target
    (sym (fixed_form (slash ∷ plain.path) (All-cons IsFixed slash plain.path refl (path_all IsFixed refl unreserved_fixed true plain.path plain.path_is))))
