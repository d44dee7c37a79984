-- The fields of an entry are read back as that entry.
-- Used by the laws of the spelling and by the reader of lines.
use Rattle.std.proofs.Common.{◌≡◌, ◌≢◌, ◌<◌, ◌^◌, ℕ, All, Bool, true, false, List, [], ◌∷◌, ◌++◌, Some, Ok, Err, length, decimal, sym, ap, ◌∙◌, refl, arith, rules, codes}
use Rattle.std.specs.Prelude.{None, Result, cond, ◌==◌}
use Rattle.std.specs.Char.{is_ascii_digit}
use Rattle.std.specs.List.{list_all, list_any}
use Rattle.std.specs.Option.{option_map}
use Rattle.std.specs.Result.{result_ok}
use Rattle.std.specs.Str.{bytes_eq}
use Rattle.std.specs.Str.Parse.{digits_value}
use Rattle.std.proofs.lemmas.Bool.{true≢false}
use Rattle.std.proofs.lemmas.Bool.Decides.{nat_tests}
use Rattle.std.proofs.lemmas.Fmt.{decimal_nonempty, digits_decimal, digits_value-decimal}
use Rattle.std.proofs.lemmas.List.{nil_from_length}
use Rattle.std.proofs.lemmas.List.Elements.{All-head, All-tail}
use Rattle.std.proofs.lemmas.Slice.Eq.{bytes_eq-Decides}
use Rattle.std.proofs.lemmas.Str.Parse.{IsNumeralModel, numerals_by_value}
use Rattle.percent_encoding.specs.Percent.{percent_decode, percent_encode_byte}
use Rattle.percent_encoding.proofs.PercentLemmas.{percent_decode-nil, percent_decode-percent_encode_byte, percent_decode_escape, percent_decode_not_percent}
use Rattle.path_normal.specs.Authority.{authority_of_read, is_delimiter, root_of, written_host, IsAuthority}
use Rattle.path_normal.specs.declared.schemes.Schemes.TheVariants.{HttpAndHttps}
use Rattle.path_normal.specs.declared.fault.AuthorityFault.{AuthorityFault}
use Rattle.path_normal.specs.declared.fault.UrlFault.{UrlFault}
use Rattle.path_normal.specs.Capacity.{Enough, unless_refused}
use Rattle.path_normal.specs.Normal.{is_unreserved}
use Rattle.path_normal.specs.PageText.{authority_of}
use Rattle.path_normal.specs.PageUrl.{IsPage, page_url_among}
use Rattle.robots_text.specs.Lines.{kept}
use Rattle.line_text.specs.Number.{is_number, is_numeral, is_small, number_of}
use Rattle.history_text.specs.Spell.{body_word}
use Rattle.line_text.specs.Escapes.{escaped_body}
use Rattle.history_text.specs.Entries.{IsBody, IsNumber}
use Rattle.crawl_audit.proofs.NamedEntries.{authority_named, body_named, page_named}

own : IsNumeralModel (λ ds. list_all is_ascii_digit ds ≡ true) (digits_value 10)
own = numerals_by_value _ (search rules)

pub number_back : (n : ℕ) → IsNumber n → number_of (decimal n) ≡ Some n
number_back n small =
    let digits : list_all is_ascii_digit (decimal n) ≡ true = digits_decimal own n small in
    let value : digits_value 10 (decimal n) ≡ n = digits_value-decimal own n small in
    let some : 0 < length (decimal n) = decimal_nonempty n small in
    let numeral : is_numeral (decimal n) ≡ true = grind (arith, nat_tests) in
    let little : digits_value 10 (decimal n) < 2 ^ 64 = omega (arith, value) in
    let fits : is_small (decimal n) ≡ true = grind (arith, nat_tests) in
    let both : is_number (decimal n) ≡ true = rw (numeral, fits) refl in
    ap (λ b. cond b (Some (digits_value 10 (decimal n))) None) both ∙ ap Some value

pub page_back : (page : List ℕ) → IsPage page → page_named page ≡ Some page
page_back page is = ap result_ok is.own

pub authority_back : (authority : List ℕ) → IsAuthority authority → authority_named authority ≡ Some authority
authority_back authority is = by (list_any is_delimiter (written_host HttpAndHttps authority)) refl
  where
    root : Result (List ℕ) UrlFault
    root = page_url_among HttpAndHttps None (root_of authority) Enough

    read : (r : Result (List ℕ) UrlFault) → authority_of_read r ≡ Ok authority → option_map authority_of (result_ok r) ≡ Some authority
    read (Ok page) e = ap result_ok e
    read (Err fault) e = absurd (none_is (ap result_ok e))
      where
        none_is : None ≡ Some authority → ⊥
        none_is e = cc

    by : (t : Bool) → list_any is_delimiter (written_host HttpAndHttps authority) ≡ t → option_map authority_of (result_ok root) ≡ Some authority
    by true e = absurd (bad (sym (ap (λ b. cond b (Err AuthorityFault.BadAuthority) (unless_refused AuthorityFault.NoMemory (authority_of_read root) Enough)) e) ∙ is.own))
      where
        bad : Err AuthorityFault.BadAuthority ≡ Ok authority → ⊥
        bad e = cc
    by false e = read root (sym (ap (λ b. cond b (Err AuthorityFault.BadAuthority) (unless_refused AuthorityFault.NoMemory (authority_of_read root) Enough)) e) ∙ is.own)

not_percent : (octet : ℕ) → is_unreserved octet ≡ true → octet ≢ 37
not_percent octet is e = absurd (true≢false (sym is ∙ ap is_unreserved e))

decode_body : (text : List ℕ) → All (λ octet. octet < 256) text → percent_decode (escaped_body text) ≡ text
decode_body [] small = percent_decode-nil
decode_body (octet ∷ text) small = by (decode_body text (All-tail (λ o. o < 256) octet text small)) (is_unreserved octet) refl
  where
    by : percent_decode (escaped_body text) ≡ text → (t : Bool) → is_unreserved octet ≡ t → percent_decode (cond t (octet ∷ []) (percent_encode_byte octet) ++ escaped_body text) ≡ octet ∷ text
    by rest true is = percent_decode_not_percent octet (escaped_body text) (not_percent octet is) ∙ ap (λ l. octet ∷ l) rest
    by rest false is = percent_decode-percent_encode_byte octet (escaped_body text) (All-head (λ o. o < 256) octet text small) ∙ ap (λ l. octet ∷ l) rest

one_hyphen : percent_decode (codes "%2D") ≡ codes "-"
one_hyphen = percent_decode_escape 37 50 68 [] refl (omega arith) (omega arith) ∙ ap (λ l. 45 ∷ l) percent_decode-nil

pub body_back : (text : List ℕ) → IsBody text → body_named (body_word text) ≡ text
body_back text is = empty (length text == 0) refl
  where
    hyphen : percent_decode (codes "-") ≡ codes "-"
    hyphen = percent_decode_not_percent 45 [] (λ e. omega arith) ∙ ap (λ l. 45 ∷ l) percent_decode-nil

    escaped : (t : Bool) → bytes_eq (escaped_body text) (codes "-") ≡ t → bytes_eq text (codes "-") ≡ false → kept (cond t [] (percent_decode (escaped_body text))) ≡ text
    escaped true e other =
        let same = sym (decode_body text is.octets) ∙ ap percent_decode ((bytes_eq-Decides (escaped_body text) (codes "-")).0 e) ∙ hyphen in
        absurd (true≢false (sym ((bytes_eq-Decides text (codes "-")).1 same) ∙ other))
    escaped false e other = ap kept (decode_body text is.octets) ∙ is.own

    single : (t : Bool) → bytes_eq text (codes "-") ≡ t → body_named (cond t (codes "%2D") (escaped_body text)) ≡ text
    single true e =
        let same = (bytes_eq-Decides text (codes "-")).0 e in
        ap kept (one_hyphen ∙ sym same) ∙ is.own
    single false e = escaped (bytes_eq (escaped_body text) (codes "-")) refl e

    empty : (t : Bool) → (length text == 0) ≡ t → body_named (cond t (codes "-") (cond (bytes_eq text (codes "-")) (codes "%2D") (escaped_body text))) ≡ text
    empty true e =
        let none = nil_from_length text (grind (arith, nat_tests)) in
        ap kept (sym none) ∙ is.own
    empty false e = single (bytes_eq text (codes "-")) refl
