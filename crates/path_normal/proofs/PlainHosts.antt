-- The texts of plain hosts and ports.
-- Used by `plain_host`.
use Rattle.std.proofs.Common.{◌≡◌, ◌<◌, ◌^◌, ℕ, zero, suc, true, false, List, [], ◌∷◌, ◌++◌, length, Some, None, Result, Ok, Err, refl, sym, ap, ◌∙◌, append-nil, arith, rules}
use Rattle.std.specs.Prelude.{decimal, slice_index, IfSome}
use Rattle.std.specs.Char.{is_ascii_digit}
use Rattle.std.specs.List.{list_all}
use Rattle.std.specs.Result.{result_ok}
use Rattle.std.specs.Str.Parse.{ParsesUnsigned, digits_value}
use Rattle.std.proofs.lemmas.Bool.Decides.{nat_tests}
use Rattle.std.proofs.lemmas.Fmt.{decimal-digits_value}
use Rattle.std.proofs.lemmas.Str.Parse.{IsNumeralModel, numerals_by_value, parse_digits}
use Rattle.url.specs.declared.host.Host.TheVariants.{Domain, Ipv4}
use Rattle.url.specs.Host.{host_text}
use Rattle.path_normal.specs.PlainUrl.{HasPlainHost, IsAddress, IsPlainAuthority, IsPortText, has_leading_zero, is_plain_domain}

pub domain_host : (text : List ℕ) → is_plain_domain true text ≡ true → HasPlainHost text
domain_host text is = (Domain text, is, refl)

octets_fit : (a b c d k : ℕ) → a < 2 ^ 8 → b < 2 ^ 8 → c < 2 ^ 8 → d < 2 ^ 8 → slice_index (a ∷ b ∷ c ∷ d ∷ []) k < 2 ^ 8
octets_fit a b c d zero first second third fourth = first
octets_fit a b c d (suc zero) first second third fourth = second
octets_fit a b c d (suc (suc zero)) first second third fourth = third
octets_fit a b c d (suc (suc (suc zero))) first second third fourth = fourth
octets_fit a b c d (suc (suc (suc (suc k)))) first second third fourth = omega arith

pub address_host : (text : List ℕ) (a b c d : ℕ) → IsAddress text a b c d → HasPlainHost text
address_host text a b c d is =
    (Ipv4 (record { octets = a ∷ b ∷ c ∷ d ∷ [] }), (refl, λ k. octets_fit a b c d k is.0 is.1 is.2 is.3), is.4)

pub with_port : (octets host port : List ℕ) → octets ≡ host ++ 58 ∷ port → HasPlainHost host → IsPortText port → IsPlainAuthority octets
with_port octets host port cut is written = record {
  host = is.0;
  port = Some written.0;
  spelled = cut ∙ ap (λ text. text ++ 58 ∷ port) is.2 ∙ ap (λ text. host_text is.0 ++ 58 ∷ text) written.2;
  host_is = is.1;
  port_is = written.1;
}

pub without_port : (octets : List ℕ) → HasPlainHost octets → IsPlainAuthority octets
without_port octets is = record {
  host = is.0;
  port = None;
  spelled = is.2 ∙ sym (append-nil (host_text is.0));
  host_is = is.1;
  port_is = tt;
}

own : IsNumeralModel (λ ds. list_all is_ascii_digit ds ≡ true) (digits_value 10)
own = numerals_by_value _ (search rules)

pub number_spelled : {E : Type 0} (digits : List ℕ) (r : Result ℕ E) → list_all is_ascii_digit digits ≡ true → has_leading_zero digits ≡ false → ParsesUnsigned 16 10 digits r →
    IfSome (result_ok r) (λ n. (n < 2 ^ 16) × (digits ≡ decimal n))
number_spelled {E} digits (Ok x) is lead parsed =
    let fact = parse_digits own {E = E} 16 digits (Ok x) parsed is in
    let alone : slice_index digits 0 ≡ 48 → length digits ≡ 1 = (λ zero. let some = fact.0.0 in grind (arith, nat_tests)) in
    (omega (arith, fact.0.1, fact.1), sym (decimal-digits_value own digits is fact.0.0 alone (omega (arith, fact.0.1))) ∙ ap decimal (sym fact.1))
number_spelled {E} digits (Err e) is lead parsed = tt
