-- A line is at most one entry, and a text at most one history.
-- Used by `laws` and by the reader of lines.
use Rattle.std.proofs.Common.{◌≡◌, ◌<◌, ℕ, All, Bool, true, false, List, [], ◌∷◌, ◌++◌, Some, decimal, sym, ap, ◌∙◌, refl, arith, codes, append_assoc}
use Rattle.std.specs.Prelude.{◌&&◌, ◌==◌, nat_lt, unwrap_or}
use Rattle.std.specs.List.{list_all, slice_split}
use Rattle.std.specs.Str.{IsUtf8}
use Rattle.std.proofs.lemmas.Bool.{and_parts}
use Rattle.std.proofs.lemmas.Bool.Decides.{nat_tests}
use Rattle.std.proofs.lemmas.List.{append_cancel_left}
use Rattle.std.proofs.lemmas.List.Elements.{All-nil, All-cons, All-head, All-tail, All-append}
use Rattle.std.proofs.lemmas.List.Splits.{slice_split_at}
use Rattle.std.proofs.lemmas.Str.{IsUtf8-from_ascii}
use Rattle.std.proofs.lemmas.Str.Ascii.{IsAscii-from_all}
use Rattle.robots_verdict.specs.declared.answer.Closure.{Closure}
use Rattle.robots_verdict.specs.declared.answer.Closure.TheVariants as closures
use Rattle.robots_verdict.specs.declared.answer.Opening.TheVariants as openings
use Rattle.robots_verdict.specs.declared.said.Said.{Said}
use Rattle.robots_verdict.specs.declared.said.Said.TheVariants as says
use Rattle.authority_cache.specs.Lives.{greatest_life}
use Rattle.gate_history.specs.declared.entry.Entry.{Entry}
use Rattle.gate_history.specs.declared.entry.Entry.TheVariants.{Begun, Arrived, Granted, AskDenied, Started, StartDenied, Returned, Finished, Swept}
use Rattle.gate_history.specs.declared.outcome.Cause.{Cause}
use Rattle.gate_history.specs.declared.outcome.Cause.TheVariants as causes
use Rattle.gate_history.specs.declared.outcome.Reason.{Reason}
use Rattle.gate_history.specs.declared.outcome.Reason.TheVariants as reasons
use Rattle.line_text.specs.Words.{words_of}
use Rattle.history_text.specs.declared.version.Version.{Version}
use Rattle.history_text.specs.declared.version.Version.TheVariants.{One, Two}
use Rattle.history_text.specs.Entries.{IsCause, IsEntry, IsLife, IsReason, IsSaid}
use Rattle.crawl_audit.specs.Reading.{head_word, tail_words}
use Rattle.history_text.specs.Spell.{answer_fields, body_word, entry_line, entry_text, entry_fields, version_line, letter_of, line_end, entry_lines, spaced_fields, spell}
use Rattle.gate_history.specs.Wording.{cause_words, reason_words}
use Rattle.crawl_audit.proofs.NamedEntries.{answer_named, entry_behind, entry_named, Lasting, next_cause, next_reason}
use Rattle.crawl_audit.proofs.Back.{authority_back, body_back, number_back, page_back}
use Rattle.crawl_audit.proofs.Shown.{IsShown, IsShownOctet, shown_authority, shown_body, shown_decimal, shown_page, shown_token, weaker, words_of_fields}

-- ---- each field is shown

is_shown : ℕ → Bool
is_shown octet = nat_lt 32 octet && nat_lt octet 128

shown_word : (word : List ℕ) → list_all is_shown word ≡ true → IsShown word
unfolding is_shown
shown_word [] is = All-nil IsShownOctet
shown_word (octet ∷ word) is =
    let parts = and_parts (is_shown octet) (list_all is_shown word) is in
    All-cons IsShownOctet octet word (grind (arith, nat_tests), grind (arith, nat_tests)) (shown_word word parts.1)

pub one : (a : List ℕ) → IsShown a → All IsShown (a ∷ [])
one a is = All-cons IsShown a [] is (All-nil IsShown)

pub two : (a b : List ℕ) → IsShown a → IsShown b → All IsShown (a ∷ b ∷ [])
two a b is is' = All-cons IsShown a (b ∷ []) is (one b is')

pub three : (a b c : List ℕ) → IsShown a → IsShown b → IsShown c → All IsShown (a ∷ b ∷ c ∷ [])
three a b c is is' is'' = All-cons IsShown a (b ∷ c ∷ []) is (two b c is' is'')

shown_reason : (reason : Reason) → IsReason reason → All IsShown (reason_words reason)
unfolding is_shown
shown_reason reasons.Open is = one (codes "open") (shown_word (codes "open") refl)
shown_reason (reasons.Line line) is = two (codes "line") (decimal line) (shown_word (codes "line") refl) (shown_decimal line is)
shown_reason reasons.NoRule is = one (codes "norule") (shown_word (codes "norule") refl)
shown_reason reasons.RobotsPath is = one (codes "robots") (shown_word (codes "robots") refl)

shown_cause : (cause : Cause) → IsCause cause → All IsShown (cause_words cause)
unfolding is_shown
shown_cause causes.Spent is = one (codes "spent") (shown_word (codes "spent") refl)
shown_cause causes.Unknown is = one (codes "unknown") (shown_word (codes "unknown") refl)
shown_cause causes.Expired is = one (codes "expired") (shown_word (codes "expired") refl)
shown_cause causes.Closed is = one (codes "closed") (shown_word (codes "closed") refl)
shown_cause (causes.Line line) is = two (codes "line") (decimal line) (shown_word (codes "line") refl) (shown_decimal line is)

pub shown_answer : (version : Version) (said : Said) (life : ℕ) → IsSaid said → IsLife version said life → All IsShown (answer_fields version said life)
unfolding is_shown
shown_answer One (says.Rules text) life body lasting = two (codes "R") (body_word text) (shown_word (codes "R") refl) (shown_body text)
shown_answer Two (says.Rules text) life body lasting =
    three (codes "R") (decimal life) (body_word text) (shown_word (codes "R") refl) (shown_decimal life (omega arith)) (shown_body text)
shown_answer version (says.Open openings.Unavailable) life body lasting = two (codes "O") (codes "unavailable") (shown_word (codes "O") refl) (shown_word (codes "unavailable") refl)
shown_answer version (says.Open openings.TooManyRedirects) life body lasting = two (codes "O") (codes "redirects") (shown_word (codes "O") refl) (shown_word (codes "redirects") refl)
shown_answer version (says.Closed closures.Server) life body lasting = two (codes "C") (codes "server") (shown_word (codes "C") refl) (shown_word (codes "server") refl)
shown_answer version (says.Closed closures.Network) life body lasting = two (codes "C") (codes "network") (shown_word (codes "C") refl) (shown_word (codes "network") refl)
shown_answer version (says.Closed closures.BadRedirect) life body lasting = two (codes "C") (codes "redirect") (shown_word (codes "C") refl) (shown_word (codes "redirect") refl)
shown_answer version (says.Closed closures.Scheme) life body lasting = two (codes "C") (codes "scheme") (shown_word (codes "C") refl) (shown_word (codes "scheme") refl)
shown_answer version (says.Closed closures.Coding) life body lasting = two (codes "C") (codes "coding") (shown_word (codes "C") refl) (shown_word (codes "coding") refl)
shown_answer version (says.Closed closures.Other) life body lasting = two (codes "C") (codes "other") (shown_word (codes "C") refl) (shown_word (codes "other") refl)

shown_letter : (e : Entry) → IsShown (letter_of e)
unfolding is_shown
shown_letter (Begun _ _ _) = shown_word (codes "B") refl
shown_letter (Arrived _ _ _ _ _) = shown_word (codes "A") refl
shown_letter (Granted _ _ _) = shown_word (codes "G") refl
shown_letter (AskDenied _ _ _) = shown_word (codes "N") refl
shown_letter (Started _ _ _) = shown_word (codes "S") refl
shown_letter (StartDenied _ _ _) = shown_word (codes "D") refl
shown_letter (Returned _) = shown_word (codes "K") refl
shown_letter (Finished _) = shown_word (codes "F") refl
shown_letter (Swept _ _) = shown_word (codes "W") refl

shown_fields : (version : Version) (e : Entry) → IsEntry version e → All IsShown (entry_fields version e)
shown_fields version (Begun moment authority turn) is =
    three (decimal moment) authority (decimal turn) (shown_decimal moment is.fields.0) (shown_authority authority is.fields.1) (shown_decimal turn is.fields.2)
shown_fields version (Arrived life moment authority turn said) is =
    All-append IsShown (decimal moment ∷ authority ∷ decimal turn ∷ []) (answer_fields version said life)
    (three (decimal moment) authority (decimal turn) (shown_decimal moment is.fields.0) (shown_authority authority is.fields.1) (shown_decimal turn is.fields.2))
    (shown_answer version said life is.fields.3 is.life)
shown_fields version (Granted moment number fetch) is =
    All-cons IsShown (decimal moment) (decimal number ∷ fetch.token ∷ fetch.url ∷ []) (shown_decimal moment is.fields.0)
    (three (decimal number) fetch.token fetch.url (shown_decimal number is.fields.1) (shown_token fetch.token is.fields.2.token) (shown_page fetch.url is.fields.2.url))
shown_fields version (AskDenied moment fetch cause) is =
    All-append IsShown (decimal moment ∷ fetch.token ∷ fetch.url ∷ []) (cause_words cause)
    (three (decimal moment) fetch.token fetch.url (shown_decimal moment is.fields.0) (shown_token fetch.token is.fields.1.token) (shown_page fetch.url is.fields.1.url))
    (shown_cause cause is.fields.2)
shown_fields version (Started moment number reason) is =
    All-append IsShown (decimal moment ∷ decimal number ∷ []) (reason_words reason)
    (two (decimal moment) (decimal number) (shown_decimal moment is.fields.0) (shown_decimal number is.fields.1)) (shown_reason reason is.fields.2)
shown_fields version (StartDenied moment number cause) is =
    All-append IsShown (decimal moment ∷ decimal number ∷ []) (cause_words cause)
    (two (decimal moment) (decimal number) (shown_decimal moment is.fields.0) (shown_decimal number is.fields.1)) (shown_cause cause is.fields.2)
shown_fields version (Returned number) is = one (decimal number) (shown_decimal number is.fields)
shown_fields version (Finished number) is = one (decimal number) (shown_decimal number is.fields)
shown_fields version (Swept moment count) is =
    two (decimal moment) (decimal count) (shown_decimal moment is.fields.0) (shown_decimal count is.fields.1)

-- ---- an entry's line is read back as the entry

reason_back : (reason : Reason) → IsReason reason → next_reason (reason_words reason) ≡ Some reason
reason_back reasons.Open is = refl
reason_back (reasons.Line line) is = rw (number_back line is) refl
reason_back reasons.NoRule is = refl
reason_back reasons.RobotsPath is = refl

cause_back : (cause : Cause) → IsCause cause → next_cause (cause_words cause) ≡ Some cause
cause_back causes.Spent is = refl
cause_back causes.Unknown is = refl
cause_back causes.Expired is = refl
cause_back causes.Closed is = refl
cause_back (causes.Line line) is = rw (number_back line is) refl

abbrev lasting : Said → ℕ → Lasting
lasting said life = record { says = said; life = life }

closed_back : (version : Version) (closure : Closure) (life : ℕ) → greatest_life ≡ life → answer_named version (answer_fields version (says.Closed closure) life) ≡ Some (lasting (says.Closed closure) life)
closed_back version closures.Server life is = ap (λ n. Some (lasting (says.Closed closures.Server) n)) is
closed_back version closures.Network life is = ap (λ n. Some (lasting (says.Closed closures.Network) n)) is
closed_back version closures.BadRedirect life is = ap (λ n. Some (lasting (says.Closed closures.BadRedirect) n)) is
closed_back version closures.Scheme life is = ap (λ n. Some (lasting (says.Closed closures.Scheme) n)) is
closed_back version closures.Coding life is = ap (λ n. Some (lasting (says.Closed closures.Coding) n)) is
closed_back version closures.Other life is = ap (λ n. Some (lasting (says.Closed closures.Other) n)) is

pub answer_back : (version : Version) (said : Said) (life : ℕ) → IsSaid said → IsLife version said life → answer_named version (answer_fields version said life) ≡ Some (lasting said life)
answer_back One (says.Rules text) life body is = (λ i. Some (lasting (says.Rules (body_back text body i)) (sym is i)))
answer_back Two (says.Rules text) life body is = rw (number_back life (omega arith), body_back text body) refl
answer_back One (says.Open openings.Unavailable) life body is = ap (λ n. Some (lasting (says.Open openings.Unavailable) n)) (sym is)
answer_back Two (says.Open openings.Unavailable) life body is = ap (λ n. Some (lasting (says.Open openings.Unavailable) n)) is
answer_back One (says.Open openings.TooManyRedirects) life body is = ap (λ n. Some (lasting (says.Open openings.TooManyRedirects) n)) (sym is)
answer_back Two (says.Open openings.TooManyRedirects) life body is = ap (λ n. Some (lasting (says.Open openings.TooManyRedirects) n)) is
answer_back One (says.Closed closure) life body is = closed_back One closure life (sym is)
answer_back Two (says.Closed closure) life body is = closed_back Two closure life is

pub behind_back : (version : Version) (e : Entry) → IsEntry version e → entry_behind version (letter_of e) (entry_fields version e) ≡ Some e
behind_back version (Begun moment authority turn) is =
    rw (number_back moment is.fields.0, authority_back authority is.fields.1, number_back turn is.fields.2) refl
behind_back version (Arrived life moment authority turn said) is =
    rw (number_back moment is.fields.0, authority_back authority is.fields.1, number_back turn is.fields.2, answer_back version said life is.fields.3 is.life) refl
behind_back version (Granted moment number fetch) is =
    rw (number_back moment is.fields.0, number_back number is.fields.1, is.fields.2.token, page_back fetch.url is.fields.2.url) refl
behind_back version (AskDenied moment fetch cause) is =
    rw (number_back moment is.fields.0, is.fields.1.token, page_back fetch.url is.fields.1.url, cause_back cause is.fields.2) refl
behind_back version (Started moment number reason) is =
    rw (number_back moment is.fields.0, number_back number is.fields.1, reason_back reason is.fields.2) refl
behind_back version (StartDenied moment number cause) is =
    rw (number_back moment is.fields.0, number_back number is.fields.1, cause_back cause is.fields.2) refl
behind_back version (Returned number) is = rw (number_back number is.fields) refl
behind_back version (Finished number) is = rw (number_back number is.fields) refl
behind_back version (Swept moment count) is = rw (number_back moment is.fields.0, number_back count is.fields.1) refl

pub entry_words : (version : Version) (e : Entry) → IsEntry version e → words_of (entry_line version e) ≡ letter_of e ∷ entry_fields version e
entry_words version e is = words_of_fields (letter_of e) (entry_fields version e) (shown_letter e) (shown_fields version e is)

pub entry_back : (version : Version) (e : Entry) → IsEntry version e → entry_named version (entry_line version e) ≡ Some e
entry_back version e is =
    ap (λ words. entry_behind version (head_word words) (tail_words words)) (entry_words version e is)
    ∙ behind_back version e is

pub one_entry : (version : Version) (d e : Entry) → IsEntry version d → IsEntry version e → entry_line version d ≡ entry_line version e → d ≡ e
one_entry version d e is is' same =
    ap (λ o. unwrap_or o d) (sym (entry_back version d is) ∙ ap (entry_named version) same ∙ entry_back version e is')

-- ---- lines end at their line feeds

-- an octet that a line may have
abbrev pub IsLineOctet : ℕ → Type 0
IsLineOctet octet = (31 < octet) × (octet < 128)

line_field : (field : List ℕ) → IsShown field → All IsLineOctet field
line_field field shown = weaker IsShownOctet IsLineOctet (λ octet is. (omega (arith, is), is.1)) field shown

pub line_fields : (fields : List (List ℕ)) → All IsShown fields → All IsLineOctet (spaced_fields fields)
line_fields [] all = All-nil IsLineOctet
line_fields (field ∷ fields) all =
    All-cons IsLineOctet 32 (field ++ spaced_fields fields) (omega arith, omega arith)
    (All-append IsLineOctet field (spaced_fields fields) (line_field field (All-head IsShown field fields all)) (line_fields fields (All-tail IsShown field fields all)))

pub line_octets : (version : Version) (e : Entry) → IsEntry version e → All IsLineOctet (entry_line version e)
line_octets version e is =
    All-append IsLineOctet (letter_of e) (spaced_fields (entry_fields version e)) (line_field (letter_of e) (shown_letter e)) (line_fields (entry_fields version e) (shown_fields version e is))

pub utf8_line : (version : Version) (e : Entry) → IsEntry version e → IsUtf8 (entry_line version e)
utf8_line version e is =
    IsUtf8-from_ascii (entry_line version e) (IsAscii-from_all (entry_line version e) (weaker IsLineOctet (λ octet. octet < 128) (λ octet h. h.1) (entry_line version e) (line_octets version e is)))

-- no octet is a line feed
abbrev pub HasNoFeed : List ℕ → Type 0
HasNoFeed line = All (λ octet. (octet == 10) ≡ false) line

pub no_feed : (version : Version) (e : Entry) → IsEntry version e → HasNoFeed (entry_line version e)
no_feed version e is = weaker IsLineOctet (λ octet. (octet == 10) ≡ false) (λ octet h. grind (arith, nat_tests)) (entry_line version e) (line_octets version e is)

pub cut_lines : (l l' r r' : List ℕ) → HasNoFeed l → HasNoFeed l' → l ++ 10 ∷ r ≡ l' ++ 10 ∷ r' → (l ≡ l') × (r ≡ r')
cut_lines l l' r r' none none' e =
    let first : l ≡ l' = ap head_word (sym (slice_split_at (λ o. o == 10) l 10 r none refl) ∙ ap (slice_split (λ o. o == 10)) e ∙ slice_split_at (λ o. o == 10) l' 10 r' none' refl) in
    let rest : 10 ∷ r ≡ 10 ∷ r' = append_cancel_left l (10 ∷ r) (10 ∷ r') (e ∙ ap (λ k. k ++ 10 ∷ r') (sym first)) in
    (first, cc)

pub text_then : (version : Version) (e : Entry) (behind : List ℕ) → entry_text version e ++ behind ≡ entry_line version e ++ 10 ∷ behind
text_then version e behind = append_assoc (entry_line version e) line_end behind

pub not_empty : (line behind : List ℕ) → [] ≡ line ++ 10 ∷ behind → ⊥
not_empty [] behind e = cc
not_empty (octet ∷ line) behind e = cc

lines_once : (version : Version) (ds es : List Entry) → All (IsEntry version) ds → All (IsEntry version) es → entry_lines version ds ≡ entry_lines version es → ds ≡ es
lines_once version [] [] all all' same = refl
lines_once version [] (e ∷ es) all all' same = absurd (not_empty (entry_line version e) (entry_lines version es) (same ∙ text_then version e (entry_lines version es)))
lines_once version (d ∷ ds) [] all all' same = absurd (not_empty (entry_line version d) (entry_lines version ds) (sym same ∙ text_then version d (entry_lines version ds)))
lines_once version (d ∷ ds) (e ∷ es) all all' same =
    let is = All-head (IsEntry version) d ds all in
    let is' = All-head (IsEntry version) e es all' in
    let cut = cut_lines (entry_line version d) (entry_line version e) (entry_lines version ds) (entry_lines version es) (no_feed version d is) (no_feed version e is')
    (sym (text_then version d (entry_lines version ds)) ∙ same ∙ text_then version e (entry_lines version es)) in
    let first = one_entry version d e is is' cut.0 in
    let rest = lines_once version ds es (All-tail (IsEntry version) d ds all) (All-tail (IsEntry version) e es all') cut.1 in
    λ i. first i ∷ rest i

pub one_history : (version : Version) (ds es : List Entry) → All (IsEntry version) ds → All (IsEntry version) es → spell version ds ≡ spell version es → ds ≡ es
one_history version ds es all all' same =
    lines_once version ds es all all' (append_cancel_left (version_line version) (entry_lines version ds) (entry_lines version es) same)
