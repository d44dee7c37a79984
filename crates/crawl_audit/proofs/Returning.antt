-- A text that an export writes is bad at no line.
-- Used by `laws`.
use Rattle.std.proofs.Common.{◌≡◌, ℕ, ◌+◌, ◌*◌, ◌^◌, ◌<◌, ◌≤◌, ◌==◌, Bool, true, false, cond, List, [], ◌∷◌, Some, length, decimal, refl, sym, ap, ◌∙◌, arith, length-append, codes}
use Rattle.std.specs.Prelude.{None}
use Rattle.std.specs.Str.{bytes_eq}
use Rattle.std.proofs.lemmas.Bool.Decides.{nat_tests}
use Rattle.std.proofs.lemmas.Fmt.{length-decimal-le}
use Rattle.std.proofs.lemmas.Option.{none-some}
use Rattle.percent_encoding.specs.Percent.{percent_encode_byte}
use Rattle.path_normal.specs.Normal.{is_unreserved}
use Rattle.robots_text.specs.Token.{is_token, lower_case, token_of}
use Rattle.robots_verdict.specs.declared.answer.Closure.TheVariants as closures
use Rattle.robots_verdict.specs.declared.answer.Opening.TheVariants as openings
use Rattle.robots_verdict.specs.declared.said.Said.{Said}
use Rattle.robots_verdict.specs.declared.said.Said.TheVariants as says
use Rattle.gate_history.specs.declared.entry.Entry.{Entry}
use Rattle.gate_history.specs.declared.entry.Entry.TheVariants.{Begun, Arrived, Granted, AskDenied, Started, StartDenied, Returned, Finished, Swept}
use Rattle.gate_history.specs.declared.outcome.Cause.{Cause}
use Rattle.gate_history.specs.declared.outcome.Cause.TheVariants as causes
use Rattle.gate_history.specs.declared.outcome.Reason.{Reason}
use Rattle.gate_history.specs.declared.outcome.Reason.TheVariants as reasons
use Rattle.history_text.specs.declared.version.Version.{Version}
use Rattle.history_text.specs.declared.version.Version.TheVariants.{One, Two}
use Rattle.crawl_audit.specs.Chains.{line_limit}
use Rattle.line_text.specs.Escapes.{body_octet, escaped_body}
use Rattle.history_text.specs.Entries.{IsBody, IsCause, IsEntry, IsLife, IsNumber, IsReason, IsSaid}
use Rattle.history_text.specs.Spell.{answer_fields, body_word, entry_line, spaced_fields}
use Rattle.gate_history.specs.Wording.{cause_words, reason_words}

-- ---- how long a line is

pub digits : (n : ℕ) → IsNumber n → length (decimal n) ≤ 20
digits n small = length-decimal-le 20 n (omega arith) (omega arith) small

pub token_length : (token : List ℕ) → token_of token ≡ Some token → length token ≤ 64
token_length token own = by (is_token token) refl
  where
    by : (t : Bool) → is_token token ≡ t → length token ≤ 64
    by true is = grind (arith, nat_tests)
    by false is = absurd (none-some token (sym (ap (λ t. cond t (Some (lower_case token)) None) is) ∙ own))

escape_length : (octet : ℕ) → length (percent_encode_byte octet) ≡ 3
unfolding percent_encode_byte
escape_length octet = refl

octet_length : (octet : ℕ) → length (body_octet octet) ≤ 3
octet_length octet = by (is_unreserved octet)
  where
    by : (t : Bool) → length (cond t (octet ∷ []) (percent_encode_byte octet)) ≤ 3
    by true = omega arith
    by false = omega (arith, escape_length octet)

escaped_length : (text : List ℕ) → length (escaped_body text) ≤ 3 * length text
escaped_length [] = omega arith
escaped_length (octet ∷ text) = omega (arith, escaped_length text, octet_length octet, length-append (body_octet octet) (escaped_body text))

body_length : (text : List ℕ) → IsBody text → length (body_word text) ≤ 1536000
body_length text is = empty (length text == 0)
  where
    single : (t : Bool) → length (cond t (codes "%2D") (escaped_body text)) ≤ 1536000
    single true = omega arith
    single false = let few = is.few in omega (arith, escaped_length text)

    empty : (t : Bool) → length (cond t (codes "-") (cond (bytes_eq text (codes "-")) (codes "%2D") (escaped_body text))) ≤ 1536000
    empty true = omega arith
    empty false = single (bytes_eq text (codes "-"))

pub more : (field : List ℕ) (fields : List (List ℕ)) → length (spaced_fields (field ∷ fields)) ≡ 1 + length field + length (spaced_fields fields)
more field fields = omega (arith, length-append (32 ∷ field) (spaced_fields fields))

reason_length : (reason : Reason) → IsReason reason → length (spaced_fields (reason_words reason)) ≤ 40
reason_length reasons.Open is = omega arith
reason_length (reasons.Line line) is = omega (arith, digits line is, more (codes "line") (decimal line ∷ []), more (decimal line) [])
reason_length reasons.NoRule is = omega arith
reason_length reasons.RobotsPath is = omega arith

cause_length : (cause : Cause) → IsCause cause → length (spaced_fields (cause_words cause)) ≤ 40
cause_length causes.Spent is = omega arith
cause_length causes.Unknown is = omega arith
cause_length causes.Expired is = omega arith
cause_length causes.Closed is = omega arith
cause_length (causes.Line line) is = omega (arith, digits line is, more (codes "line") (decimal line ∷ []), more (decimal line) [])

pub answer_length : (version : Version) (said : Said) (life : ℕ) → IsSaid said → IsLife version said life → length (spaced_fields (answer_fields version said life)) ≤ 1536040
answer_length One (says.Rules text) life body is = omega (arith, body_length text body, more (codes "R") (body_word text ∷ []), more (body_word text) [])
answer_length Two (says.Rules text) life body is =
    let small : life < 2 ^ 64 = omega (arith, is) in
    omega (arith, body_length text body, digits life small, more (codes "R") (decimal life ∷ body_word text ∷ []), more (decimal life) (body_word text ∷ []), more (body_word text) [])
answer_length version (says.Open openings.Unavailable) life body is = omega arith
answer_length version (says.Open openings.TooManyRedirects) life body is = omega arith
answer_length version (says.Closed closures.Server) life body is = omega arith
answer_length version (says.Closed closures.Network) life body is = omega arith
answer_length version (says.Closed closures.BadRedirect) life body is = omega arith
answer_length version (says.Closed closures.Scheme) life body is = omega arith
answer_length version (says.Closed closures.Coding) life body is = omega arith
answer_length version (says.Closed closures.Other) life body is = omega arith

pub line_length : (version : Version) (e : Entry) → IsEntry version e → length (entry_line version e) ≤ line_limit
line_length version (Begun moment authority turn) is =
    omega (arith, digits moment is.fields.0, is.fields.1.limit, digits turn is.fields.2, more (decimal moment) (authority ∷ decimal turn ∷ []), more authority (decimal turn ∷ []), more (decimal turn) [])
line_length version (Arrived life moment authority turn said) is =
    let answer = answer_fields version said life in
    omega (
      arith,
      digits moment is.fields.0,
      is.fields.1.limit,
      digits turn is.fields.2,
      answer_length version said life is.fields.3 is.life,
      more (decimal moment) (authority ∷ decimal turn ∷ answer),
      more authority (decimal turn ∷ answer),
      more (decimal turn) answer,
    )
line_length version (Granted moment number fetch) is =
    omega (
      arith,
      digits moment is.fields.0,
      digits number is.fields.1,
      token_length fetch.token is.fields.2.token,
      is.fields.2.url.limit,
      more (decimal moment) (decimal number ∷ fetch.token ∷ fetch.url ∷ []),
      more (decimal number) (fetch.token ∷ fetch.url ∷ []),
      more fetch.token (fetch.url ∷ []),
      more fetch.url [],
    )
line_length version (AskDenied moment fetch cause) is =
    omega (
      arith,
      digits moment is.fields.0,
      token_length fetch.token is.fields.1.token,
      is.fields.1.url.limit,
      cause_length cause is.fields.2,
      more (decimal moment) (fetch.token ∷ fetch.url ∷ cause_words cause),
      more fetch.token (fetch.url ∷ cause_words cause),
      more fetch.url (cause_words cause),
    )
line_length version (Started moment number reason) is =
    omega (arith, digits moment is.fields.0, digits number is.fields.1, reason_length reason is.fields.2, more (decimal moment) (decimal number ∷ reason_words reason), more (decimal number) (reason_words reason))
line_length version (StartDenied moment number cause) is =
    omega (arith, digits moment is.fields.0, digits number is.fields.1, cause_length cause is.fields.2, more (decimal moment) (decimal number ∷ cause_words cause), more (decimal number) (cause_words cause))
line_length version (Returned number) is = omega (arith, digits number is.fields, more (decimal number) [])
line_length version (Finished number) is = omega (arith, digits number is.fields, more (decimal number) [])
line_length version (Swept moment count) is = omega (arith, digits moment is.fields.0, digits count is.fields.1, more (decimal moment) (decimal count ∷ []), more (decimal count) [])
