-- How the text of an authority splits into its host and its port.
-- Used by the answers of `host_port.rt`.
use Rattle.std.proofs.Common.{◌≡◌, ◌≢◌, ℕ, ◌<◌, ◌≤◌, ◌^◌, List, [], ◌∷◌, ◌++◌, All, length, get_or, take, drop, Option, None, Some, Result, decimal, sym, refl, ap, ◌∙◌, subst, arith, append_assoc, append-nil, inl, inr, ⊎_elim}
use Rattle.std.specs.Prelude.{IfSome, unwrap_or, MatchOption}
use Rattle.std.specs.Result.{result_unwrap_or}
use Rattle.std.specs.Str.Parse.{ParsesUnsigned}
use Rattle.std.proofs.lemmas.Fmt.{parse-decimal}
use Rattle.path_normal.specs.PageUrl.{port_text}
use Rattle.std.specs.Borrow.{Bor}
use Rattle.std.specs.Net.Addr.{ipv4_octets, ipv6_segments, IsIpv4Addr, IsIpv6Addr}
use Rattle.std.specs.Net.Text.{ipv4_text, hex_groups_text}
use Rattle.std.specs.declared.net.ipv4_addr.Ipv4Addr.{Ipv4Addr}
use Rattle.std.specs.declared.net.ipv6_addr.Ipv6Addr.{Ipv6Addr}
use Rattle.std.proofs.NetLemmas.Alphabet.{IsDigitOrDot, IsHexOrColon, All-ipv4_text, All-hex_groups_text}
use Rattle.std.proofs.Math.Seq.{get_or-append_seam, take-append_seam, drop-append_seam}
use Rattle.std.proofs.lemmas.Bool.{cases_order}
use Rattle.std.proofs.lemmas.List.{get_or_append_left, length-append}
use Rattle.std.proofs.lemmas.List.Elements.{All-weaker}
use Rattle.std.proofs.lemmas.Str.Pattern.{IsSplitOnceResult, split_after}
use Rattle.url.specs.declared.host.Host.{Host}
use Rattle.url.specs.declared.host.Host.TheVariants.{Domain, Ipv4, Ipv6}
use Rattle.url.specs.declared.scheme.SchemeType.TheVariants.{SpecialNotFile}
use Rattle.url.specs.declared.sets.TheConstants.{FORBIDDEN_DOMAIN}
use Rattle.url.specs.Host.{host_text, IsDomain, IsHostOf}
use Rattle.url.proofs.InputLemmas.{IsNot}
use Rattle.url.proofs.SetLemmas.{All_kept_differs}
use Rattle.http_client.specs.HostPort.{bare_host}

-- the octets of a list, but the first
abbrev rest_of : List ℕ → List ℕ
rest_of octets = drop 1 octets

pub port_parsed :
    {E : Type 0} (tail digits : List ℕ) (own : ℕ) (parsed : Result ℕ E) (port : Option ℕ)
    → tail ≡ 58 ∷ digits → ParsesUnsigned 16 10 digits parsed
    → IfSome port (λ n. n < 2 ^ 16) → tail ≡ port_text port
    → result_unwrap_or parsed own ≡ unwrap_or port own
port_parsed tail digits own parsed None starts reads small written =
    absurd (omega (arith, ap length (sym starts ∙ written)))
port_parsed tail digits own parsed (Some port) starts reads small written =
    ap (λ r. result_unwrap_or r own) (parse-decimal 16 port digits parsed small (omega (arith, small)) (ap rest_of (sym starts ∙ written)) reads)

pub port_missing :
    (tail : List ℕ) (own : ℕ) (port : Option ℕ) → ((rest : List ℕ) → tail ≢ 58 ∷ rest) → tail ≡ port_text port
    → own ≡ unwrap_or port own
port_missing tail own None other written = refl
port_missing tail own (Some port) other written = absurd (other (decimal port) written)

-- ---- the host

-- no octet is this one
abbrev pub Lacks : ℕ → List ℕ → Type 0
Lacks octet text = All (IsNot octet) text

-- the octets that a host without brackets never has
record IsPlain (text : List ℕ) : Type 0 where
  pub colonless : Lacks 58 text
  pub bracketless : Lacks 91 text

domain_plain : (domain : List ℕ) → IsDomain domain → IsPlain domain
domain_plain domain valid = record {
  colonless = All_kept_differs FORBIDDEN_DOMAIN 58 refl domain valid.allowed;
  bracketless = All_kept_differs FORBIDDEN_DOMAIN 91 refl domain valid.allowed;
}

dotted_differs : (octet b : ℕ) → 58 ≤ octet → IsDigitOrDot b → IsNot octet b
dotted_differs octet b large (inl digit) same = omega (arith, digit, same, large)
dotted_differs octet b large (inr dot) same = omega (arith, dot, same, large)

ipv4_plain : (address : Ipv4Addr) → IsIpv4Addr address → IsPlain (ipv4_text (ipv4_octets address))
ipv4_plain address valid =
    let text = ipv4_text (ipv4_octets address) in
    let all = All-ipv4_text (ipv4_octets address) valid.1 in
    record {
      colonless = All-weaker IsDigitOrDot (IsNot 58) (λ b. dotted_differs 58 b (omega arith)) text all;
      bracketless = All-weaker IsDigitOrDot (IsNot 91) (λ b. dotted_differs 91 b (omega arith)) text all;
    }

hex_differs : (b : ℕ) → IsHexOrColon b → IsNot 93 b
hex_differs b (inl digit) same = omega (arith, digit, same)
hex_differs b (inr letter) same = omega (arith, letter, same)

ipv6_lacks : (address : Ipv6Addr) → IsIpv6Addr address → Lacks 93 (hex_groups_text (ipv6_segments address))
ipv6_lacks address valid =
    All-weaker IsHexOrColon (IsNot 93) hex_differs _ (All-hex_groups_text (ipv6_segments address) valid.1)

no_bracket : (rest front : List ℕ) (port : Option ℕ) → Lacks 91 front → 91 ∷ rest ≡ front ++ port_text port → ⊥
no_bracket rest [] None lacks written = omega (arith, ap length written)
no_bracket rest [] (Some port) lacks written = omega (arith, ap (λ l. get_or l 0 0) written)
no_bracket rest (b ∷ front) port lacks written = lacks 0 0 (omega arith) (sym (ap (λ l. get_or l 0 0) written))

-- the two parts of a cut text
abbrev Parts2 : Type 0
Parts2 = Bor (List ℕ) × Bor (List ℕ)

-- the parts are these
abbrev ArePart : List ℕ → List ℕ → Parts2 → Type 0
ArePart host tail parts = (parts.0.now ≡ host) × (parts.1.now ≡ tail)

matched : (found : Option Parts2) (default : Parts2) (host tail : List ℕ) → MatchOption found ⊥ (ArePart host tail) → ArePart host tail (unwrap_or found default)
matched None default host tail never = absurd never
matched (Some parts) default host tail are = are

pub bracketed_host :
    (rest : List ℕ) (found : Option Parts2) (default parts : Parts2) (host : Host (List ℕ)) (port : Option ℕ)
    → IsSplitOnceResult 93 rest found → parts ≡ unwrap_or found default
    → IsHostOf SpecialNotFile host → 91 ∷ rest ≡ host_text host ++ port_text port
    → ArePart (bare_host host) (port_text port) parts
bracketed_host rest found default parts (Domain domain) port cut given valid written =
    absurd (no_bracket rest domain port (domain_plain domain valid.0).bracketless written)
bracketed_host rest found default parts (Ipv4 address) port cut given valid written =
    absurd (no_bracket rest _ port (ipv4_plain address valid).bracketless written)
bracketed_host rest found default parts (Ipv6 address) port cut given valid written =
    let inside = hex_groups_text (ipv6_segments address) in
    let tail = port_text port in
    subst (ArePart inside tail) (sym given) (matched found default inside tail
    (split_after 93 rest inside tail found cut (omega arith)
    (ap rest_of written ∙ append_assoc inside (93 ∷ []) tail)
    (λ i lt. ipv6_lacks address valid i 0 lt)))

first_colon :
    (front digits : List ℕ) (k : ℕ) → Lacks 58 front → get_or (front ++ 58 ∷ digits) k 0 ≡ 58
    → ((i : ℕ) → i < k → get_or (front ++ 58 ∷ digits) i 0 ≢ 58) → k ≡ length front
first_colon front digits k lacks stands before =
    ⊎_elim (λ same. same)
    (⊎_elim
    (λ short. absurd (lacks k 0 short (sym (get_or_append_left front (58 ∷ digits) 0 k short) ∙ stands)))
    (λ long. absurd (before (length front) long (get_or-append_seam front 58 digits 0))))
    (cases_order k (length front))

plain_cut :
    (text front : List ℕ) (port : Option ℕ) (k : ℕ) → Lacks 58 front → text ≡ front ++ port_text port
    → k < length text → get_or text k 0 ≡ 58 → ((i : ℕ) → i < k → get_or text i 0 ≢ 58)
    → (take k text ≡ front) × (drop k text ≡ port_text port)
plain_cut text front None k lacks written within stands before =
    let same : text ≡ front = written ∙ append-nil front in
    absurd (lacks k 0 (subst (λ t. k < length t) same within) (sym (ap (λ t. get_or t k 0) same) ∙ stands))
plain_cut text front (Some port) k lacks written within stands before =
    let tail = port_text (Some port) in
    let here : k ≡ length front = first_colon front (decimal port) k lacks
    (sym (ap (λ t. get_or t k 0) written) ∙ stands)
    (λ i lt same. before i lt (ap (λ t. get_or t i 0) written ∙ same)) in (
      (λ i. take (here i) (written i)) ∙ take-append_seam front tail,
      (λ i. drop (here i) (written i)) ∙ drop-append_seam front tail,
    )

plain_whole :
    (text front : List ℕ) (port : Option ℕ) → text ≡ front ++ port_text port
    → ((i : ℕ) → i < length text → get_or text i 0 ≢ 58) → (text ≡ front) × ([] ≡ port_text port)
plain_whole text front None written none = (written ∙ append-nil front, refl)
plain_whole text front (Some port) written none =
    let digits = decimal port in
    let within : length front < length text = omega (arith, ap length written, length-append front (58 ∷ digits)) in
    absurd (none (length front) within (ap (λ t. get_or t (length front) 0) written ∙ get_or-append_seam front 58 digits 0))

pub cut_host :
    (text : List ℕ) (k : ℕ) (host : Host (List ℕ)) (port : Option ℕ)
    → ((rest : List ℕ) → text ≢ 91 ∷ rest)
    → (k < length text) × (get_or text k 0 ≡ 58) × ((i : ℕ) → i < k → get_or text i 0 ≢ 58)
    → IsHostOf SpecialNotFile host → text ≡ host_text host ++ port_text port
    → (take k text ≡ bare_host host) × (drop k text ≡ port_text port)
cut_host text k (Domain domain) port other colon valid written =
    plain_cut text domain port k (domain_plain domain valid.0).colonless written colon.0 colon.1 colon.2
cut_host text k (Ipv4 address) port other colon valid written =
    plain_cut text _ port k (ipv4_plain address valid).colonless written colon.0 colon.1 colon.2
cut_host text k (Ipv6 address) port other colon valid written = absurd (other _ written)

pub whole_host :
    (text : List ℕ) (host : Host (List ℕ)) (port : Option ℕ)
    → ((rest : List ℕ) → text ≢ 91 ∷ rest) → ((i : ℕ) → i < length text → get_or text i 0 ≢ 58)
    → text ≡ host_text host ++ port_text port → (text ≡ bare_host host) × ([] ≡ port_text port)
whole_host text (Domain domain) port other none written = plain_whole text domain port written none
whole_host text (Ipv4 address) port other none written = plain_whole text _ port written none
whole_host text (Ipv6 address) port other none written = absurd (other _ written)
