-- The server of a page is that of the URL which it reads as.
-- Used by the answers of `host_port_of`.
use Rattle.std.proofs.Common.{◌≡◌, ℕ, ◌<◌, ◌^◌, List, [], ◌++◌, Option, None, Some, sym, ap, ◌∙◌, subst, true≢false}
use Rattle.std.specs.Prelude.{false, IfSome, MatchOption, unwrap_or}
use Rattle.url.specs.declared.host.Host.{Host}
use Rattle.url.specs.declared.host.Host.TheVariants.{Domain}
use Rattle.url.specs.declared.scheme.SchemeType.{SchemeType}
use Rattle.url.specs.declared.scheme.SchemeType.TheVariants.{SpecialNotFile}
use Rattle.url.specs.Host.{host_text, IsHostOf}
use Rattle.url.specs.Parser.{parse_url}
use Rattle.url.specs.Parts.{Parts, kind_of, host_or_empty, IsPortOf, IsValid}
use Rattle.url.specs.Scheme.{is_special}
use Rattle.url.proofs.Theorems.{parse_url-serialize_special}
use Rattle.path_normal.specs.PageText.{host_of, is_https}
use Rattle.path_normal.specs.PageUrl.{page_of_parts, port_text, IsPage, IsPageParts, IsWritten}
use Rattle.path_normal.proofs.CallerLemmas.{page_kind, page_splits}
use Rattle.http_client.specs.HostPort.{IsHostPortOf, bare_host, scheme_port}

-- the parts cut out of a text
abbrev pub Cuts : List ℕ → List ℕ → List ℕ → Type 0
Cuts text host tail =
    (own : Host (List ℕ)) (port : Option ℕ) → IsHostOf SpecialNotFile own
    → text ≡ host_text own ++ port_text port → (host ≡ bare_host own) × (tail ≡ port_text port)

-- the number read of a tail
abbrev pub ReadsPort : List ℕ → ℕ → ℕ → Type 0
ReadsPort tail port default =
    (own : Option ℕ) → IfSome own (λ n. n < 2 ^ 16) → tail ≡ port_text own → port ≡ unwrap_or own default

abbrev without_fragment : Parts → Parts
without_fragment url = record url { fragment = None }

valid_without_fragment : (url : Parts) → IsValid url → IsValid (without_fragment url)
valid_without_fragment url valid = record {
  head = record {
    scheme = valid.head.scheme;
    username = valid.head.username;
    password = valid.head.password;
    host = valid.head.host;
    port = valid.head.port;
    bare = valid.head.bare;
  };
  path = valid.path;
  query = valid.query;
  fragment = tt;
}

own_host_is_valid :
    (kind : SchemeType) (host : Option (Host (List ℕ))) → kind ≡ SpecialNotFile
    → MatchOption host (is_special kind ≡ false) (IsHostOf kind) → IsHostOf SpecialNotFile (unwrap_or host (Domain []))
own_host_is_valid kind None same valid = absurd (true≢false (sym (ap is_special same) ∙ valid))
own_host_is_valid kind (Some host) same valid = subst (λ k. IsHostOf k host) same valid

port_is_small : (scheme : List ℕ) (port : Option ℕ) → IsPortOf scheme port → IfSome port (λ n. n < 2 ^ 16)
port_is_small scheme None valid = tt
port_is_small scheme (Some port) valid = valid.0

server_of_parts :
    (url : Parts) (page host tail : List ℕ) (port : ℕ) → IsPageParts url → page_of_parts url ≡ page
    → Cuts (host_of page) host tail → ReadsPort tail port (scheme_port (is_https page)) → IsHostPortOf page host port
server_of_parts url page host tail port parts spelled cuts reads =
    let kind : kind_of url ≡ SpecialNotFile = page_kind url parts.scheme in
    let split = page_splits url parts.valid parts.scheme parts.username parts.password in
    let named = ap host_of (sym spelled) ∙ split.parts.host in
    let cut = cuts (host_or_empty url) url.port (own_host_is_valid (kind_of url) url.host kind parts.valid.head.host) named in
    record {
      url = without_fragment url;
      read = ap (parse_url None) (sym spelled) ∙ parse_url-serialize_special (without_fragment url) None (valid_without_fragment url parts.valid) kind;
      own_host = cut.0;
      own_port = reads url.port (port_is_small url.scheme url.port parts.valid.head.port) cut.1;
    }

pub page_server :
    (page host tail : List ℕ) (port : ℕ) → IsPage page → Cuts (host_of page) host tail
    → ReadsPort tail port (scheme_port (is_https page)) → IsHostPortOf page host port
unfolding IsWritten
page_server page host tail port is_page cuts reads =
    let written = is_page.written in
    server_of_parts written.0 page host tail port written.1 written.2 cuts reads
