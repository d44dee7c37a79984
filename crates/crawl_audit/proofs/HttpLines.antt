-- Only the lines of entries and rows that name `https` do.
-- Used by `laws`.
use Rattle.std.proofs.Common.{◌≡◌, ◌≢◌, ℕ, ◌==◌, All, Bool, true, false, cond, List, [], ◌∷◌, ◌++◌, Some, length, decimal, drop, refl, sym, ap, ◌∙◌, subst, arith, codes}
use Rattle.std.specs.Prelude.{◌||◌, None}
use Rattle.std.specs.List.{list_all, list_any}
use Rattle.std.specs.Str.{bytes_eq}
use Rattle.std.proofs.Math.Bool.{or-false}
use Rattle.std.proofs.lemmas.Bool.{and_parts}
use Rattle.std.proofs.lemmas.Bool.Decides.{Decides-eqb, nat_tests}
use Rattle.std.proofs.lemmas.Fmt.{decimal_is_IsNumeral}
use Rattle.std.proofs.lemmas.List.Elements.{All-append, All-cons, All-from_get_or, All-nil}
use Rattle.std.proofs.lemmas.Option.{none-some}
use Rattle.std.proofs.lemmas.Slice.Eq.{starts_is}
use Rattle.std.proofs.lemmas.Str.Parse.{digit_at}
use Rattle.percent_encoding.specs.Percent.{percent_encode_byte}
use Rattle.percent_encoding.proofs.PercentLemmas.{IsEscapeByte, All-percent_encode_byte}
use Rattle.path_normal.specs.Normal.{is_unreserved}
use Rattle.path_normal.specs.PageText.{is_https}
use Rattle.robots_text.specs.Token.{is_token, is_token_octet, lower_case, token_of}
use Rattle.robots_verdict.specs.declared.answer.Closure.{Closure}
use Rattle.robots_verdict.specs.declared.answer.Closure.TheVariants as closures
use Rattle.robots_verdict.specs.declared.answer.Opening.{Opening}
use Rattle.robots_verdict.specs.declared.answer.Opening.TheVariants as openings
use Rattle.robots_verdict.specs.declared.said.Said.{Said}
use Rattle.robots_verdict.specs.declared.said.Said.TheVariants as says
use Rattle.gate_history.specs.declared.entry.Entry.{Entry}
use Rattle.gate_history.specs.declared.entry.Entry.TheVariants.{Begun, Arrived, Granted, AskDenied, Started, StartDenied, Returned, Finished, Swept}
use Rattle.gate_history.specs.declared.outcome.Cause.{Cause}
use Rattle.gate_history.specs.declared.outcome.Cause.TheVariants as causes
use Rattle.gate_history.specs.declared.outcome.Reason.{Reason}
use Rattle.gate_history.specs.declared.outcome.Reason.TheVariants as reasons
use Rattle.gate_history.specs.Wording.{cause_words, reason_words}
use Rattle.line_text.specs.Escapes.{body_octet, escaped_body}
use Rattle.history_text.specs.declared.version.Version.{Version}
use Rattle.history_text.specs.declared.version.Version.TheVariants.{One, Two}
use Rattle.crawl_audit.specs.ChainAudit.{names_https}
use Rattle.history_text.specs.Entries.{IsCause, IsEntry, IsLife, IsNumber, IsReason}
use Rattle.crawl_audit.specs.HttpChains.{is_https_entry}
use Rattle.crawl_audit.specs.OpenRows.{OpenRow, Answered, InFlight, Greatest, Unspent, Running, IsOpenRow, row_line}
use Rattle.history_text.specs.Spell.{answer_fields, body_word, closure_word, entry_fields, entry_line, letter_of, opening_word}
use Rattle.crawl_audit.proofs.RowReading.{lived_row, row_fields, row_letter, row_words}
use Rattle.crawl_audit.proofs.Shown.{weaker}
use Rattle.crawl_audit.proofs.Spelling.{entry_words}

-- ---- words

-- the word does not begin with `https://`
abbrev pub IsPlain : List ℕ → Type 0
IsPlain word = is_https word ≡ false

-- an octet that is no `/`
abbrev IsNoSlash : ℕ → Type 0
IsNoSlash octet = octet ≢ 47

plain_word : (word : List ℕ) → All IsNoSlash word → IsPlain word
plain_word word none = by (is_https word) refl
  where
    by : (t : Bool) → is_https word ≡ t → IsPlain word
    by false e = e
    by true begins = absurd (all 6 0 (omega arith) refl)
      where
        all : All IsNoSlash (codes "https://" ++ drop 8 word)
        all = subst (All IsNoSlash) ((starts_is Decides-eqb word (codes "https://") _ refl).0 begins) none

pub plain_decimal : (n : ℕ) → IsNumber n → IsPlain (decimal n)
plain_decimal n small =
    plain_word (decimal n) (All-from_get_or IsNoSlash (decimal n) 0
    (λ i within e. let digit = digit_at (decimal n) i (decimal_is_IsNumeral n small).0.1 within in omega (arith, digit, e)))

no_slash_token : (octet : ℕ) → is_token_octet octet ≡ true → IsNoSlash octet
no_slash_token octet is e = grind (arith, nat_tests)

no_slashes : (text : List ℕ) → list_all is_token_octet text ≡ true → All IsNoSlash text
no_slashes [] all = All-nil IsNoSlash
no_slashes (octet ∷ text) all =
    let parts = and_parts (is_token_octet octet) (list_all is_token_octet text) all in
    All-cons IsNoSlash octet text (no_slash_token octet parts.0) (no_slashes text parts.1)

plain_token : (token : List ℕ) → token_of token ≡ Some token → IsPlain token
plain_token token own = by (is_token token) refl
  where
    by : (t : Bool) → is_token token ≡ t → IsPlain token
    by true is = plain_word token (no_slashes token (grind (arith, nat_tests)))
    by false is = absurd (none-some token (sym (ap (λ t. cond t (Some (lower_case token)) None) is) ∙ own))

no_slash_unreserved : (octet : ℕ) → is_unreserved octet ≡ true → IsNoSlash octet
no_slash_unreserved octet is e = grind (arith, nat_tests)

no_slash_escape : (octet : ℕ) → IsEscapeByte octet → IsNoSlash octet
no_slash_escape octet is e = omega (arith, is, e)

no_slash_octet : (octet : ℕ) → All IsNoSlash (body_octet octet)
no_slash_octet octet = by (is_unreserved octet) refl
  where
    by : (t : Bool) → is_unreserved octet ≡ t → All IsNoSlash (cond t (octet ∷ []) (percent_encode_byte octet))
    by true is = All-cons IsNoSlash octet [] (no_slash_unreserved octet is) (All-nil IsNoSlash)
    by false is = weaker IsEscapeByte IsNoSlash no_slash_escape (percent_encode_byte octet) (All-percent_encode_byte octet)

no_slash_body : (text : List ℕ) → All IsNoSlash (escaped_body text)
no_slash_body [] = All-nil IsNoSlash
no_slash_body (octet ∷ text) = All-append IsNoSlash (body_octet octet) (escaped_body text) (no_slash_octet octet) (no_slash_body text)

plain_body : (text : List ℕ) → IsPlain (body_word text)
plain_body text = empty (length text == 0)
  where
    single : (t : Bool) → IsPlain (cond t (codes "%2D") (escaped_body text))
    single true = refl
    single false = plain_word (escaped_body text) (no_slash_body text)

    empty : (t : Bool) → IsPlain (cond t (codes "-") (cond (bytes_eq text (codes "-")) (codes "%2D") (escaped_body text)))
    empty true = refl
    empty false = single (bytes_eq text (codes "-"))

plain_opening : (opening : Opening) → IsPlain (opening_word opening)
plain_opening openings.Unavailable = refl
plain_opening openings.TooManyRedirects = refl

plain_closure : (closure : Closure) → IsPlain (closure_word closure)
plain_closure closures.Server = refl
plain_closure closures.Network = refl
plain_closure closures.BadRedirect = refl
plain_closure closures.Scheme = refl
plain_closure closures.Coding = refl
plain_closure closures.Other = refl

-- ---- words of a line

-- no word names `https`
abbrev pub names_any : List (List ℕ) → Bool
names_any words = list_any is_https words

pub passed : (word : List ℕ) (words : List (List ℕ)) → IsPlain word → names_any (word ∷ words) ≡ names_any words
passed word words is = ap (λ b. b || names_any words) is

found : (word : List ℕ) (words : List (List ℕ)) → names_any words ≡ false → names_any (word ∷ words) ≡ is_https word
found word words none = ap (λ b. is_https word || b) none ∙ or-false (is_https word)

one : (a : List ℕ) → IsPlain a → names_any (a ∷ []) ≡ false
one a is = passed a [] is

two : (a b : List ℕ) → IsPlain a → IsPlain b → names_any (a ∷ b ∷ []) ≡ false
two a b is is' = passed a (b ∷ []) is ∙ one b is'

none_reason : (reason : Reason) → IsReason reason → names_any (reason_words reason) ≡ false
none_reason reasons.Open is = refl
none_reason (reasons.Line line) is = one (decimal line) (plain_decimal line is)
none_reason reasons.NoRule is = refl
none_reason reasons.RobotsPath is = refl

none_cause : (cause : Cause) → IsCause cause → names_any (cause_words cause) ≡ false
none_cause causes.Spent is = refl
none_cause causes.Unknown is = refl
none_cause causes.Expired is = refl
none_cause causes.Closed is = refl
none_cause (causes.Line line) is = one (decimal line) (plain_decimal line is)

none_answer : (version : Version) (said : Said) (life : ℕ) → IsLife version said life → names_any (answer_fields version said life) ≡ false
none_answer One (says.Rules text) life lasting = one (body_word text) (plain_body text)
none_answer Two (says.Rules text) life lasting = two (decimal life) (body_word text) (plain_decimal life (omega arith)) (plain_body text)
none_answer version (says.Open opening) life lasting = one (opening_word opening) (plain_opening opening)
none_answer version (says.Closed closure) life lasting = one (closure_word closure) (plain_closure closure)

-- ---- entries

fields_name : (version : Version) (e : Entry) → IsEntry version e → names_any (letter_of e ∷ entry_fields version e) ≡ is_https_entry e
fields_name version (Begun moment authority turn) is =
    passed (decimal moment) (authority ∷ decimal turn ∷ []) (plain_decimal moment is.fields.0) ∙ found authority (decimal turn ∷ []) (one (decimal turn) (plain_decimal turn is.fields.2))
fields_name version (Arrived life moment authority turn said) is =
    let answer = answer_fields version said life in
    passed (decimal moment) (authority ∷ decimal turn ∷ answer) (plain_decimal moment is.fields.0)
    ∙ found authority (decimal turn ∷ answer) (passed (decimal turn) answer (plain_decimal turn is.fields.2) ∙ none_answer version said life is.life)
fields_name version (Granted moment number fetch) is =
    passed (decimal moment) (decimal number ∷ fetch.token ∷ fetch.url ∷ []) (plain_decimal moment is.fields.0)
    ∙ passed (decimal number) (fetch.token ∷ fetch.url ∷ []) (plain_decimal number is.fields.1)
    ∙ passed fetch.token (fetch.url ∷ []) (plain_token fetch.token is.fields.2.token)
    ∙ found fetch.url [] refl
fields_name version (AskDenied moment fetch cause) is =
    passed (decimal moment) (fetch.token ∷ fetch.url ∷ cause_words cause) (plain_decimal moment is.fields.0)
    ∙ passed fetch.token (fetch.url ∷ cause_words cause) (plain_token fetch.token is.fields.1.token)
    ∙ found fetch.url (cause_words cause) (none_cause cause is.fields.2)
fields_name version (Started moment number reason) is =
    passed (decimal moment) (decimal number ∷ reason_words reason) (plain_decimal moment is.fields.0)
    ∙ passed (decimal number) (reason_words reason) (plain_decimal number is.fields.1) ∙ none_reason reason is.fields.2
fields_name version (StartDenied moment number cause) is =
    passed (decimal moment) (decimal number ∷ cause_words cause) (plain_decimal moment is.fields.0)
    ∙ passed (decimal number) (cause_words cause) (plain_decimal number is.fields.1) ∙ none_cause cause is.fields.2
fields_name version (Returned number) is = one (decimal number) (plain_decimal number is.fields)
fields_name version (Finished number) is = one (decimal number) (plain_decimal number is.fields)
fields_name version (Swept moment count) is = two (decimal moment) (decimal count) (plain_decimal moment is.fields.0) (plain_decimal count is.fields.1)

pub entry_names : (version : Version) (e : Entry) → IsEntry version e → names_https (entry_line version e) ≡ is_https_entry e
entry_names version e is = ap names_any (entry_words version e is) ∙ fields_name version e is

-- ---- rows

-- the row names a site or a page of `https`
abbrev pub is_https_row : OpenRow → Bool
is_https_row (Answered s) = is_https s.authority
is_https_row (InFlight t) = is_https t.authority
is_https_row (Greatest g) = false
is_https_row (Unspent p) = is_https p.url
is_https_row (Running p) = is_https p.url

row_fields_name : (r : OpenRow) → IsOpenRow r → names_any ((row_letter r ∷ []) ∷ row_fields r) ≡ is_https_row r
row_fields_name (Answered s) is =
    let row = is.0 in
    let lived = lived_row s is in
    let answer = answer_fields Two s.says s.life in
    found s.authority (decimal s.turn ∷ decimal s.begun ∷ answer)
    (passed (decimal s.turn) (decimal s.begun ∷ answer) (plain_decimal s.turn row.turn) ∙ passed (decimal s.begun) answer (plain_decimal s.begun row.begun) ∙ none_answer Two s.says s.life lived.life)
row_fields_name (InFlight t) is =
    found t.authority (decimal t.turn ∷ decimal t.begun ∷ []) (two (decimal t.turn) (decimal t.begun) (plain_decimal t.turn is.turn) (plain_decimal t.begun is.begun))
row_fields_name (Greatest g) is =
    let row = is.0 in
    two (decimal g.slot) (decimal g.generation) (plain_decimal g.slot row.slot) (plain_decimal g.generation row.generation)
row_fields_name (Unspent p) is =
    let fetch = is.fetch in
    passed (decimal p.number) (p.token ∷ p.url ∷ []) (plain_decimal p.number is.number) ∙ passed p.token (p.url ∷ []) (plain_token p.token fetch.token) ∙ found p.url [] refl
row_fields_name (Running p) is =
    let fetch = is.fetch in
    passed (decimal p.number) (p.token ∷ p.url ∷ []) (plain_decimal p.number is.number) ∙ passed p.token (p.url ∷ []) (plain_token p.token fetch.token) ∙ found p.url [] refl

pub row_names : (r : OpenRow) → IsOpenRow r → names_https (row_line r) ≡ is_https_row r
row_names r is = ap names_any (row_words r is) ∙ row_fields_name r is
