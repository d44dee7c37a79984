-- What the words of a base's line name. It accepts more than the one canonical line of each row.
-- Used to show that `read_base` reads each row, and a base's numbers, back from its line.
use Rattle.std.proofs.Common.{◌≡◌, ℕ, List, Some, Ok, Err, codes}
use Rattle.std.specs.Prelude.{Option, None, Result, if◌then◌else◌}
use Rattle.std.specs.Option.{option_map}
use Rattle.std.specs.Str.{bytes_eq}
use Rattle.robots_text.specs.Token.{token_of}
use Rattle.permit_book.specs.declared.granted_permit.GrantedPermit.{GrantedPermit}
use Rattle.permit_book.specs.declared.out.Fetch.{Fetch}
use Rattle.permit_book.specs.Outstanding.{permit_for}
use Rattle.gate_history.specs.declared.base.Numbers.{Numbers}
use Rattle.line_text.specs.Number.{number_of}
use Rattle.line_text.specs.Words.{words_of}
use Rattle.history_text.specs.declared.version.Version.TheVariants.{Two}
use Rattle.crawl_audit.specs.declared.base_row.BaseRow.{BaseRow}
use Rattle.crawl_audit.specs.declared.unread_line.UnreadLine.{UnreadLine}
use Rattle.crawl_audit.specs.declared.unread_line.UnreadLine.TheVariants.{NotOne, NoMemory}
use Rattle.crawl_audit.specs.OpenRows.{OpenRow, Answered, InFlight, Greatest, Unspent, Running, row_of}
use Rattle.crawl_audit.specs.Reading.{head_word, tail_words}
use Rattle.crawl_audit.proofs.NamedEntries.{and_then, answer_named, authority_named, page_named}

-- the rows for the words behind each letter
abbrev pub answered_named : List (List ℕ) → Option OpenRow
answered_named words =
    and_then (authority_named (head_word words)) (λ authority.
    and_then (number_of (head_word (tail_words words))) (λ turn.
    and_then (number_of (head_word (tail_words (tail_words words)))) (λ begun.
    and_then (answer_named Two (tail_words (tail_words (tail_words words)))) (λ lasting.
    Some (Answered (record { authority = authority; turn = turn; begun = begun; life = lasting.life; says = lasting.says }))))))

abbrev pub in_flight_named : List (List ℕ) → Option OpenRow
in_flight_named words =
    and_then (authority_named (head_word words)) (λ authority.
    and_then (number_of (head_word (tail_words words))) (λ turn.
    and_then (number_of (head_word (tail_words (tail_words words)))) (λ begun.
    Some (InFlight (record { authority = authority; turn = turn; begun = begun })))))

abbrev pub greatest_named : List (List ℕ) → Option OpenRow
greatest_named words =
    and_then (number_of (head_word words)) (λ slot.
    and_then (number_of (head_word (tail_words words))) (λ generation.
    Some (Greatest (record { slot = slot; generation = generation }))))

-- the permit that words write
abbrev pub permit_named : List (List ℕ) → Option GrantedPermit
permit_named words =
    and_then (number_of (head_word words)) (λ number.
    and_then (token_of (head_word (tail_words words))) (λ token.
    and_then (page_named (head_word (tail_words (tail_words words)))) (λ url.
    Some (record { number = number; token = token; url = url }))))

-- the row for the words behind this letter
abbrev pub row_behind : List ℕ → List (List ℕ) → Option OpenRow
row_behind letter words =
    if bytes_eq letter (codes "H") then answered_named words
    else (if bytes_eq letter (codes "I") then in_flight_named words
    else (if bytes_eq letter (codes "L") then greatest_named words
    else (if bytes_eq letter (codes "U") then option_map Unspent (permit_named words)
    else (if bytes_eq letter (codes "Y") then option_map Running (permit_named words)
    else None))))

-- the thing that a line writes
abbrev pub row_named : List ℕ → Option OpenRow
row_named line = row_behind (head_word (words_of line)) (tail_words (words_of line))

-- the result is the named row, or says that there is none, or that memory was refused
abbrev pub NamesRow : Result BaseRow UnreadLine → Option OpenRow → Type 0
NamesRow (Ok found) expected = expected ≡ Some (row_of found)
NamesRow (Err NotOne) expected = expected ≡ None
NamesRow (Err NoMemory) expected = Unit {0}

-- like `NamesRow`, for a permit's number and fetch
abbrev pub NamesPermit : Result (ℕ × Fetch) UnreadLine → Option GrantedPermit → Type 0
NamesPermit (Ok pair) expected = expected ≡ Some (permit_for pair.0 pair.1)
NamesPermit (Err NotOne) expected = expected ≡ None
NamesPermit (Err NoMemory) expected = Unit {0}

-- the numbers that the words of a line write
abbrev pub numbers_behind : List (List ℕ) → Option Numbers
numbers_behind words =
    and_then (number_of (head_word words)) (λ entries.
    and_then (number_of (head_word (tail_words words))) (λ started.
    and_then (number_of (head_word (tail_words (tail_words words)))) (λ begins.
    and_then (number_of (head_word (tail_words (tail_words (tail_words words))))) (λ moment.
    Some (record { begins = begins; moment = moment; entries = entries; started = started })))))

abbrev pub numbers_named : List ℕ → Option Numbers
numbers_named line =
    if bytes_eq (head_word (words_of line)) (codes "T") then numbers_behind (tail_words (words_of line)) else None
