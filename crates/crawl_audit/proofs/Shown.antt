-- Fields of an entry are ASCII without spaces and controls, so its line splits at spaces and ends at its line feed.
-- Used by the laws of the spelling and by the reader of lines.
use Rattle.std.proofs.Common.{◌≡◌, ◌<◌, ℕ, All, Bool, true, false, List, [], ◌∷◌, ◌++◌, Some, length, decimal, sym, ap, ◌∙◌, refl, arith, append-nil, codes}
use Rattle.std.specs.Prelude.{◌==◌, Bool, cond, None}
use Rattle.std.specs.Str.{IsAscii, bytes_eq}
use Rattle.std.specs.List.{list_all}
use Rattle.std.proofs.lemmas.Bool.{and_parts}
use Rattle.std.proofs.lemmas.Fmt.{decimal_is_IsNumeral}
use Rattle.std.proofs.lemmas.Option.{none-some}
use Rattle.std.proofs.lemmas.Str.Parse.{digit_at}
use Rattle.percent_encoding.specs.Percent.{percent_encode_byte}
use Rattle.percent_encoding.proofs.PercentLemmas.{IsEscapeByte, All-percent_encode_byte}
use Rattle.path_normal.specs.Authority.{IsAuthority}
use Rattle.path_normal.specs.Normal.{is_unreserved}
use Rattle.path_normal.specs.PageUrl.{IsPage}
use Rattle.robots_text.specs.Token.{is_token, is_token_octet, lower_case, token_of}
use Rattle.std.proofs.lemmas.Bool.Decides.{nat_tests}
use Rattle.std.proofs.lemmas.List.Elements.{All-nil, All-cons, All-head, All-tail, All-append, All-from_get_or}
use Rattle.std.proofs.lemmas.List.Splits.{slice_split_none, slice_split_at}
use Rattle.line_text.specs.Words.{is_space, words_of}
use Rattle.line_text.specs.Escapes.{body_octet, escaped_body}
use Rattle.history_text.specs.Entries.{IsNumber}
use Rattle.history_text.specs.Spell.{body_word, spaced_fields}

-- an octet above the space and below 128
abbrev pub IsShownOctet : ℕ → Type 0
IsShownOctet octet = (32 < octet) × (octet < 128)

-- a field of such octets
abbrev pub IsShown : List ℕ → Type 0
IsShown field = All IsShownOctet field

no_space : (octet : ℕ) → IsShownOctet octet → is_space octet ≡ false
no_space octet shown = grind (arith, nat_tests)

spaceless : (field : List ℕ) → IsShown field → All (λ octet. is_space octet ≡ false) field
spaceless [] shown = All-nil (λ octet. is_space octet ≡ false)
spaceless (octet ∷ field) shown =
    All-cons (λ o. is_space o ≡ false) octet field (no_space octet (All-head IsShownOctet octet field shown)) (spaceless field (All-tail IsShownOctet octet field shown))

pub words_of_fields : (first : List ℕ) (fields : List (List ℕ)) → IsShown first → All IsShown fields → words_of (first ++ spaced_fields fields) ≡ first ∷ fields
words_of_fields first [] shown all =
    ap words_of (append-nil first) ∙ slice_split_none is_space first (spaceless first shown)
words_of_fields first (field ∷ fields) shown all =
    slice_split_at is_space first 32 (field ++ spaced_fields fields) (spaceless first shown) refl
    ∙ ap (λ ws. first ∷ ws) (words_of_fields field fields (All-head IsShown field fields all) (All-tail IsShown field fields all))

pub weaker : (P Q : ℕ → Type 0) → ((octet : ℕ) → P octet → Q octet) → (field : List ℕ) → All P field → All Q field
weaker P Q gives field all = λ k d within. gives _ (all k d within)

shown_text : (text : List ℕ) → IsAscii text → All (λ octet. 32 < octet) text → IsShown text
shown_text text ascii visible = All-from_get_or IsShownOctet text 0 (λ i within. (visible i 0 within, ascii i))

pub shown_decimal : (n : ℕ) → IsNumber n → IsShown (decimal n)
shown_decimal n small =
    All-from_get_or IsShownOctet (decimal n) 0
    (λ i within. let digit = digit_at (decimal n) i (decimal_is_IsNumeral n small).0.1 within in (omega (arith, digit), omega (arith, digit)))

shown_by : (test : ℕ → Bool) → ((octet : ℕ) → test octet ≡ true → IsShownOctet octet) → (text : List ℕ) → list_all test text ≡ true → IsShown text
shown_by test gives [] all = All-nil IsShownOctet
shown_by test gives (octet ∷ text) all =
    let parts = and_parts (test octet) (list_all test text) all in
    All-cons IsShownOctet octet text (gives octet parts.0) (shown_by test gives text parts.1)

shown_token_octet : (octet : ℕ) → is_token_octet octet ≡ true → IsShownOctet octet
shown_token_octet octet is = (grind (arith, nat_tests), grind (arith, nat_tests))

pub shown_token : (token : List ℕ) → token_of token ≡ Some token → IsShown token
shown_token token own = by (is_token token) refl
  where
    by : (t : Bool) → is_token token ≡ t → IsShown token
    by true is = shown_by is_token_octet shown_token_octet token (grind (arith, nat_tests))
    by false is = absurd (none-some token (sym (ap (λ t. cond t (Some (lower_case token)) None) is) ∙ own))

pub shown_authority : (authority : List ℕ) → IsAuthority authority → IsShown authority
shown_authority authority is = shown_text authority is.ascii is.visible

pub shown_page : (url : List ℕ) → IsPage url → IsShown url
shown_page url is = shown_text url is.ascii is.visible

shown_unreserved : (octet : ℕ) → is_unreserved octet ≡ true → IsShownOctet octet
shown_unreserved octet is = (grind (arith, nat_tests), grind (arith, nat_tests))

shown_escape : (octet : ℕ) → IsEscapeByte octet → IsShownOctet octet
shown_escape octet is = (omega (arith, is), omega (arith, is))

shown_octet : (octet : ℕ) → IsShown (body_octet octet)
shown_octet octet = by (is_unreserved octet) refl
  where
    by : (t : Bool) → is_unreserved octet ≡ t → IsShown (cond t (octet ∷ []) (percent_encode_byte octet))
    by true is = All-cons IsShownOctet octet [] (shown_unreserved octet is) (All-nil IsShownOctet)
    by false is = weaker IsEscapeByte IsShownOctet shown_escape (percent_encode_byte octet) (All-percent_encode_byte octet)

shown_octets : (text : List ℕ) → IsShown (escaped_body text)
shown_octets [] = All-nil IsShownOctet
shown_octets (octet ∷ text) = All-append IsShownOctet (body_octet octet) (escaped_body text) (shown_octet octet) (shown_octets text)

pub shown_body : (text : List ℕ) → IsShown (body_word text)
shown_body text = empty (length text == 0)
  where
    hyphen : IsShown (codes "-")
    hyphen = All-cons IsShownOctet 45 [] (omega arith, omega arith) (All-nil IsShownOctet)

    written : IsShown (codes "%2D")
    written = All-cons IsShownOctet 37 (50 ∷ 68 ∷ []) (omega arith, omega arith) (All-cons IsShownOctet 50 (68 ∷ []) (omega arith, omega arith) (All-cons IsShownOctet 68 [] (omega arith, omega arith) (All-nil IsShownOctet)))

    single : (t : Bool) → IsShown (cond t (codes "%2D") (escaped_body text))
    single true = written
    single false = shown_octets text

    empty : (t : Bool) → IsShown (cond t (codes "-") (cond (bytes_eq text (codes "-")) (codes "%2D") (escaped_body text)))
    empty true = hyphen
    empty false = single (bytes_eq text (codes "-"))
