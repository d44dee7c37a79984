-- What the words of a line name. It accepts more than the one canonical line of each entry.
-- Used to show that `read` reads each entry back from its line.
use Rattle.std.proofs.Common.{◌≡◌, ℕ, List, [], Some, Ok, Err, codes}
use Rattle.std.specs.Prelude.{Option, None, Result, if◌then◌else◌}
use Rattle.std.specs.Option.{option_map}
use Rattle.std.specs.Result.{result_ok}
use Rattle.std.specs.Str.{bytes_eq}
use Rattle.percent_encoding.specs.Percent.{percent_decode}
use Rattle.robots_text.specs.Lines.{kept}
use Rattle.robots_text.specs.Token.{token_of}
use Rattle.path_normal.specs.Capacity.{Enough}
use Rattle.path_normal.specs.PageText.{authority_of}
use Rattle.path_normal.specs.declared.schemes.Schemes.TheVariants.{HttpAndHttps}
use Rattle.path_normal.specs.Authority.{root_of}
use Rattle.path_normal.specs.PageUrl.{page_url_among}
use Rattle.robots_verdict.specs.declared.answer.Answer.{Answer}
use Rattle.robots_verdict.specs.declared.answer.Closure.{Closure}
use Rattle.robots_verdict.specs.declared.answer.Closure.TheVariants as closures
use Rattle.robots_verdict.specs.declared.answer.Opening.{Opening}
use Rattle.robots_verdict.specs.declared.answer.Opening.TheVariants as openings
use Rattle.robots_verdict.specs.declared.said.Said.{Said}
use Rattle.robots_verdict.specs.declared.said.Said.TheVariants as says
use Rattle.robots_verdict.specs.Answer.{said}
use Rattle.authority_cache.specs.Lives.{greatest_life}
use Rattle.gate_history.specs.declared.entry.Entry.{Entry}
use Rattle.gate_history.specs.declared.entry.Entry.TheVariants.{Begun, Arrived, Granted, AskDenied, Started, StartDenied, Returned, Finished, Swept}
use Rattle.gate_history.specs.declared.outcome.Cause.{Cause}
use Rattle.gate_history.specs.declared.outcome.Reason.{Reason}
use Rattle.gate_history.specs.Wording.{cause_named, reason_named}
use Rattle.line_text.specs.Number.{number_of}
use Rattle.line_text.specs.Words.{words_of}
use Rattle.history_text.specs.declared.version.Version.{Version}
use Rattle.history_text.specs.declared.version.Version.TheVariants.{One, Two}
use Rattle.crawl_audit.specs.declared.unread_line.UnreadLine.{UnreadLine}
use Rattle.crawl_audit.specs.declared.unread_line.UnreadLine.TheVariants.{NotOne, NoMemory}
use Rattle.crawl_audit.specs.declared.record.Record.{Record}
use Rattle.crawl_audit.specs.Reading.{head_word, tail_words}
use Rattle.crawl_audit.specs.Records.{entry_of}

-- what is named is read on
abbrev pub and_then : {A B : Type 0} → Option A → (A → Option B) → Option B
and_then None next = None
and_then (Some value) next = next value

-- the URL of the page that a word names
abbrev pub page_named : List ℕ → Option (List ℕ)
page_named word = result_ok (page_url_among HttpAndHttps None word Enough)

-- the authority that a word names
abbrev pub authority_named : List ℕ → Option (List ℕ)
authority_named word = option_map authority_of (page_named (root_of word))

-- what is kept of the body that a word writes
abbrev pub body_named : List ℕ → List ℕ
body_named word = kept (if bytes_eq word (codes "-") then [] else percent_decode word)

-- the reason that the next words name
abbrev pub next_reason : List (List ℕ) → Option Reason
next_reason words = reason_named (head_word words) (number_of (head_word (tail_words words)))

-- the cause that the next words name
abbrev pub next_cause : List (List ℕ) → Option Cause
next_cause words = cause_named (head_word words) (number_of (head_word (tail_words words)))

-- the reason for an open answer that a word writes
abbrev pub opening_named : List ℕ → Option Opening
opening_named word =
    if bytes_eq word (codes "unavailable") then Some openings.Unavailable
    else (if bytes_eq word (codes "redirects") then Some openings.TooManyRedirects
    else None)

-- the reason for a closed answer that a word writes
abbrev pub closure_named : List ℕ → Option Closure
closure_named word =
    if bytes_eq word (codes "server") then Some closures.Server
    else (if bytes_eq word (codes "network") then Some closures.Network
    else (if bytes_eq word (codes "redirect") then Some closures.BadRedirect
    else (if bytes_eq word (codes "scheme") then Some closures.Scheme
    else (if bytes_eq word (codes "coding") then Some closures.Coding
    else (if bytes_eq word (codes "other") then Some closures.Other
    else None)))))

-- an answer and its life
pub record Lasting : Type 0 where
  pub says : Said
  pub life : ℕ

-- an answer with the greatest life
abbrev pub lasting_a_day : Said → Lasting
lasting_a_day says = record { says = says; life = greatest_life }

-- the rules that words write, with their life
abbrev pub rules_named : Version → List (List ℕ) → Option Lasting
rules_named One words = Some (lasting_a_day (says.Rules (body_named (head_word words))))
rules_named Two words =
    and_then (number_of (head_word words)) (λ life.
    Some (record { says = says.Rules (body_named (head_word (tail_words words))); life = life }))

-- the answer that words write, with its life
abbrev pub answer_named : Version → List (List ℕ) → Option Lasting
answer_named version words =
    let word = head_word words in
    if bytes_eq word (codes "R") then rules_named version (tail_words words)
    else (if bytes_eq word (codes "O") then option_map (λ opening. lasting_a_day (says.Open opening)) (opening_named (head_word (tail_words words)))
    else (if bytes_eq word (codes "C") then option_map (λ closure. lasting_a_day (says.Closed closure)) (closure_named (head_word (tail_words words)))
    else None))

-- the entries for the words behind each letter
abbrev pub begun_named : List (List ℕ) → Option Entry
begun_named words =
    and_then (number_of (head_word words)) (λ moment.
    and_then (authority_named (head_word (tail_words words))) (λ authority.
    and_then (number_of (head_word (tail_words (tail_words words)))) (λ turn.
    Some (Begun moment authority turn))))

abbrev pub arrived_named : Version → List (List ℕ) → Option Entry
arrived_named version words =
    and_then (number_of (head_word words)) (λ moment.
    and_then (authority_named (head_word (tail_words words))) (λ authority.
    and_then (number_of (head_word (tail_words (tail_words words)))) (λ turn.
    and_then (answer_named version (tail_words (tail_words (tail_words words)))) (λ lasting.
    Some (Arrived lasting.life moment authority turn lasting.says)))))

abbrev pub granted_named : List (List ℕ) → Option Entry
granted_named words =
    and_then (number_of (head_word words)) (λ moment.
    and_then (number_of (head_word (tail_words words))) (λ number.
    and_then (token_of (head_word (tail_words (tail_words words)))) (λ token.
    and_then (page_named (head_word (tail_words (tail_words (tail_words words))))) (λ url.
    Some (Granted moment number (record { token = token; url = url }))))))

abbrev pub ask_denied_named : List (List ℕ) → Option Entry
ask_denied_named words =
    and_then (number_of (head_word words)) (λ moment.
    and_then (token_of (head_word (tail_words words))) (λ token.
    and_then (page_named (head_word (tail_words (tail_words words)))) (λ url.
    and_then (next_cause (tail_words (tail_words (tail_words words)))) (λ cause.
    Some (AskDenied moment (record { token = token; url = url }) cause)))))

abbrev pub started_named : List (List ℕ) → Option Entry
started_named words =
    and_then (number_of (head_word words)) (λ moment.
    and_then (number_of (head_word (tail_words words))) (λ number.
    and_then (next_reason (tail_words (tail_words words))) (λ reason.
    Some (Started moment number reason))))

abbrev pub start_denied_named : List (List ℕ) → Option Entry
start_denied_named words =
    and_then (number_of (head_word words)) (λ moment.
    and_then (number_of (head_word (tail_words words))) (λ number.
    and_then (next_cause (tail_words (tail_words words))) (λ cause.
    Some (StartDenied moment number cause))))

abbrev pub returned_named : List (List ℕ) → Option Entry
returned_named words = and_then (number_of (head_word words)) (λ number. Some (Returned number))

abbrev pub finished_named : List (List ℕ) → Option Entry
finished_named words = and_then (number_of (head_word words)) (λ number. Some (Finished number))

abbrev pub swept_named : List (List ℕ) → Option Entry
swept_named words =
    and_then (number_of (head_word words)) (λ moment.
    and_then (number_of (head_word (tail_words words))) (λ count.
    Some (Swept moment count)))

-- the entry for the words behind this letter
abbrev pub entry_behind : Version → List ℕ → List (List ℕ) → Option Entry
entry_behind version letter words =
    if bytes_eq letter (codes "B") then begun_named words
    else (if bytes_eq letter (codes "A") then arrived_named version words
    else (if bytes_eq letter (codes "G") then granted_named words
    else (if bytes_eq letter (codes "N") then ask_denied_named words
    else (if bytes_eq letter (codes "S") then started_named words
    else (if bytes_eq letter (codes "D") then start_denied_named words
    else (if bytes_eq letter (codes "K") then returned_named words
    else (if bytes_eq letter (codes "F") then finished_named words
    else (if bytes_eq letter (codes "W") then swept_named words
    else None))))))))

-- the entry that a line writes
abbrev pub entry_named : Version → List ℕ → Option Entry
entry_named version line = entry_behind version (head_word (words_of line)) (tail_words (words_of line))

-- the result is the named entry, or says that there is none, or that memory was refused
abbrev pub NamesEntry : Result Record UnreadLine → Option Entry → Type 0
NamesEntry (Ok found) named = named ≡ Some (entry_of found)
NamesEntry (Err NotOne) named = named ≡ None
NamesEntry (Err NoMemory) named = Unit {0}

-- like `NamesEntry`, for an answer and its life
abbrev pub NamesAnswer : Result (Answer × ℕ) UnreadLine → Option Lasting → Type 0
NamesAnswer (Ok pair) named = named ≡ Some (record { says = said pair.0; life = pair.1 })
NamesAnswer (Err NotOne) named = named ≡ None
NamesAnswer (Err NoMemory) named = Unit {0}
