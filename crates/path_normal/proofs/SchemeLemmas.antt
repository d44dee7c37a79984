-- A page or an authority whose scheme is read reads as itself; an authority determines the scheme of its pages.
-- Used by the laws of the crate.
use Rattle.std.proofs.Common.{◌≡◌, ◌≤◌, ℕ, Bool, true, false, All, List, Ok, codes, drop, length, refl, sym, ap, ◌∙◌, subst}
use Rattle.std.specs.Prelude.{bytes_eq}
use Rattle.std.proofs.lemmas.Bool.{true≢false}
use Rattle.url.specs.Parts.{Parts}
use Rattle.url.proofs.InputLemmas.{Passes}
use Rattle.path_normal.specs.Limits.{max_authority, max_url}
use Rattle.path_normal.specs.declared.schemes.Schemes.{Schemes}
use Rattle.path_normal.specs.declared.schemes.Schemes.TheVariants.{Http, HttpAndHttps}
use Rattle.path_normal.specs.Authority.{authority_among, IsWrittenAuthority}
use Rattle.path_normal.specs.Capacity.{Enough}
use Rattle.path_normal.specs.Laws.{NamedWhereRead, OneSite, ReadsWhereRead, SchemesPartAuthorities}
use Rattle.path_normal.specs.PageText.{authority_of, host_of, is_https, named}
use Rattle.path_normal.specs.PageUrl.{host_of_parts, IsFaultless, IsPage, IsPageParts, IsWritten}
use Rattle.path_normal.specs.Schemes.{reads}
use Rattle.path_normal.proofs.AuthorityLemmas.{no_https, reads_as_itself}
use Rattle.path_normal.proofs.PageLemmas.{authority_named, faultless_reads, host_without_slash, is_no_slash, is_one, page_reads_as_itself, page_splits, scheme_text, tells_https}

named_tells : (https : Bool) (host : List ℕ) → All (Passes is_no_slash) host → is_https (named https host) ≡ https
named_tells true host none = refl
named_tells false host none = no_https host none

page_host : (page : List ℕ) → IsPage page → All (Passes is_no_slash) (host_of page)
unfolding IsWritten
page_host page is_page =
    let url = is_page.written.0 in
    let parts = is_page.written.1 in
    let split = page_splits url parts.valid parts.scheme parts.username parts.password in
    subst (All (Passes is_no_slash)) (sym split.parts.host ∙ ap host_of is_page.written.2) (host_without_slash url parts.valid)

pub scheme_parts : SchemesPartAuthorities
unfolding authority_of
scheme_parts page is_page = named_tells (is_https page) (host_of page) (page_host page is_page)

one_host : (https other : Bool) (a b : List ℕ) → https ≡ other → named https a ≡ named other b → a ≡ b
one_host true true a b same is = ap (drop 8) is
one_host false false a b same is = is
one_host true false a b same is = absurd (true≢false same)
one_host false true a b same is = absurd (true≢false (sym same))

pub one_site : OneSite
unfolding authority_of
one_site page other is_page is_other same =
    let scheme : is_https page ≡ is_https other = sym (scheme_parts page is_page) ∙ ap is_https same ∙ scheme_parts other is_other in
    (scheme, one_host (is_https page) (is_https other) (host_of page) (host_of other) scheme same)

one_reads : (schemes : Schemes) (https : Bool) → (https ≡ true → schemes ≡ HttpAndHttps) → reads schemes (scheme_text https) ≡ true
one_reads Http false is = refl
one_reads HttpAndHttps false is = refl
one_reads HttpAndHttps true is = refl
one_reads Http true is = absurd (http_alone (is refl))
  where
    http_alone : Http ≡ HttpAndHttps → ⊥
    http_alone e = cc

parts_read : (schemes : Schemes) (url : Parts) → IsPageParts url → (bytes_eq url.scheme (codes "https") ≡ true → schemes ≡ HttpAndHttps) → reads schemes url.scheme ≡ true
parts_read schemes url parts is =
    let one = is_one url.scheme parts.scheme in
    ap (reads schemes) one.1 ∙ one_reads schemes one.0 (λ e. is (tells_https one.0 url one.1 ∙ e))

pub own_where_read : ReadsWhereRead
unfolding IsWritten
own_where_read schemes page is_page is =
    let url = is_page.written.0 in
    let parts = is_page.written.1 in
    let spelled = is_page.written.2 in
    let split = page_splits url parts.valid parts.scheme parts.username parts.password in
    let tells : is_https page ≡ bytes_eq url.scheme (codes "https") = sym (ap is_https spelled) ∙ split.https in
    let faultless : IsFaultless schemes url = record {
      parts = parts;
      is_read = parts_read schemes url parts (λ e. is (tells ∙ e));
      limit = subst (λ p. length p ≤ max_url) (sym spelled) is_page.limit;
      authority_limit = subst (λ a. length a ≤ max_authority) (sym (ap authority_of spelled) ∙ split.parts.authority) is_page.authority_limit;
    } in
    page_reads_as_itself schemes url page parts.valid parts.scheme spelled (faultless_reads schemes url faultless ∙ ap Ok spelled) is_page.limit

pub named_where_read : NamedWhereRead
unfolding IsWrittenAuthority
named_where_read schemes authority is_authority is =
    let url = is_authority.written.0 in
    let parts = is_authority.written.1 in
    let spelled = is_authority.written.2 in
    let one = is_one url.scheme parts.scheme in
    let text : named one.0 (host_of_parts url) ≡ authority = sym (authority_named one.0 url one.1) ∙ spelled in
    let tells : is_https authority ≡ bytes_eq url.scheme (codes "https") =
    sym (ap is_https text) ∙ named_tells one.0 (host_of_parts url) (host_without_slash url parts.valid) ∙ sym (tells_https one.0 url one.1) in
    subst (λ a. authority_among schemes a Enough ≡ Ok a) spelled
    (reads_as_itself schemes url parts (parts_read schemes url parts (λ e. is (tells ∙ e))) (subst (λ a. length a ≤ max_authority) (sym spelled) is_authority.limit))
