-- A text has at most as many lines as octets, and its records name each part of it once.
-- Used by `RobotsText::records` and `RobotsText::groups`.
use Rattle.std.proofs.Common.{◌≡◌, ℕ, ◌+◌, ◌≤◌, suc, Bool, true, false, List, [], ◌∷◌, length, take, drop, map, All, refl, ap, arith}
use Rattle.std.specs.Prelude.{◌==◌, Option, Some, None, codes, if◌then◌else◌}
use Rattle.std.specs.List.{onto_first, position, before_first, position_or_len, list_all}
use Rattle.std.proofs.lemmas.List.{length-take, length-drop}
use Rattle.std.proofs.lemmas.List.Elements.{All-cons, All-nil}
use Rattle.robots_text.specs.Grouped.{IsWithin, begins_behind, group_at, grouped_from, name_octets, value_octets, values_octets}
use Rattle.robots_text.specs.Lines.{lines_from}
use Rattle.robots_text.specs.Records.{everybody, Record, agent, rule, other, ends_token, is_blank, is_colon, is_everybody, is_number_sign, named, named_by, numbered_from, record_at, record_of, trimmed, without_leading, without_trailing}
use Rattle.robots_text.specs.Words.{is_same_word}
use Rattle.robots_text.specs.declared.record.RuleKind.TheVariants.{Allow, Disallow}
use Rattle.robots_text.proofs.GroupLaws.{group_within}
use Rattle.robots_text.specs.Octets.{carriage_return, line_feed}

-- how many octets the lines have together
abbrev pub octets_of : List (List ℕ) → ℕ
octets_of [] = 0
octets_of (line ∷ lines) = length line + octets_of lines

-- an octet more makes at most a line more, with at most that octet
onto_few : (octet : ℕ) (lines : List (List ℕ)) → (length (onto_first octet lines) ≤ suc (length lines)) × (octets_of (onto_first octet lines) ≤ suc (octets_of lines))
onto_few octet [] = (omega arith, omega arith)
onto_few octet (line ∷ lines) = (omega arith, omega arith)

lf_few : (cr : Bool) (lines : List (List ℕ)) → (length (if cr then lines else [] ∷ lines) ≤ suc (length lines)) × (octets_of (if cr then lines else [] ∷ lines) ≤ suc (octets_of lines))
lf_few true lines = (omega arith, omega arith)
lf_few false lines = (omega arith, omega arith)

with_few : (is_cr is_lf cr : Bool) (octet : ℕ) (lines : List (List ℕ)) →
    (length (if is_cr then [] ∷ lines else (if is_lf then (if cr then lines else [] ∷ lines) else onto_first octet lines)) ≤ suc (length lines))
    × (octets_of (if is_cr then [] ∷ lines else (if is_lf then (if cr then lines else [] ∷ lines) else onto_first octet lines)) ≤ suc (octets_of lines))
with_few true is_lf cr octet lines = (omega arith, omega arith)
with_few false true cr octet lines = lf_few cr lines
with_few false false cr octet lines = onto_few octet lines

pub few_lines : (cr : Bool) (text : List ℕ) → (length (lines_from cr text) ≤ length text) × (octets_of (lines_from cr text) ≤ length text)
few_lines cr [] = (omega arith, omega arith)
few_lines cr (octet ∷ text) =
    let later = few_lines (octet == carriage_return) text in
    let here = with_few (octet == carriage_return) (octet == line_feed) cr octet (lines_from (octet == carriage_return) text) in
    (omega (arith, later.0, here.0), omega (arith, later.1, here.1))

take_within : (n : ℕ) (line : List ℕ) → length (take n line) ≤ length line
take_within n line = omega (arith, length-take n line)

drop_within : (n : ℕ) (line : List ℕ) → length (drop n line) ≤ length line
drop_within n line = omega (arith, length-drop n line)

leading_by : (blank : Bool) (octet : ℕ) (line rest : List ℕ) → length rest ≤ length line → length (if blank then rest else octet ∷ line) ≤ suc (length line)
leading_by true octet line rest within = omega arith
leading_by false octet line rest within = omega arith

leading_within : (line : List ℕ) → length (without_leading line) ≤ length line
leading_within [] = omega arith
leading_within (octet ∷ line) = let by = leading_by (is_blank octet) octet line (without_leading line) (leading_within line) in omega arith

trailing_by : (blank : Bool) (octet : ℕ) (line rest : List ℕ) → length rest ≤ length line → length (if blank then [] else octet ∷ rest) ≤ suc (length line)
trailing_by true octet line rest within = omega arith
trailing_by false octet line rest within = omega arith

trailing_within : (line : List ℕ) → length (without_trailing line) ≤ length line
trailing_within [] = omega arith
trailing_within (octet ∷ line) =
    let by = trailing_by (list_all is_blank (octet ∷ line)) octet line (without_trailing line) (trailing_within line) in omega arith

trimmed_within : (line : List ℕ) → length (trimmed line) ≤ length line
trimmed_within line = omega (arith, leading_within line, trailing_within (without_leading line))

named_within : (word : List ℕ) → name_octets (named_by word) ≤ length word
named_within [] = omega arith
named_within (octet ∷ word) = omega arith

name_by : (all : Bool) (value word : List ℕ) → length word ≤ length value → name_octets (if all then everybody else named_by word) ≤ length value
name_by true value word within = omega arith
name_by false value word within = omega (arith, named_within word)

name_within : (value : List ℕ) → name_octets (named value) ≤ length value
name_within value = name_by (is_everybody value) value (before_first ends_token value) (take_within (position_or_len ends_token value) value)

record_by : (agents allows disallows : Bool) (value : List ℕ) →
    value_octets (if agents then agent (named value) else (if allows then rule Allow value else (if disallows then rule Disallow value else other))) ≤ length value
record_by true allows disallows value = name_within value
record_by false true disallows value = omega arith
record_by false false true value = omega arith
record_by false false false value = omega arith

record_at_within : (colon : Option ℕ) (text : List ℕ) → value_octets (record_at colon text) ≤ length text
record_at_within None text = omega arith
record_at_within (Some colon) text =
    let name = trimmed (take colon text) in
    let value = trimmed (drop (colon + 1) text) in
    omega (
      arith,
      record_by (is_same_word name (codes "user-agent")) (is_same_word name (codes "allow")) (is_same_word name (codes "disallow")) value,
      trimmed_within (drop (colon + 1) text),
      drop_within (colon + 1) text,
    )

record_within : (line : List ℕ) → value_octets (record_of line) ≤ length line
record_within line =
    let text = before_first is_number_sign line in
    omega (arith, record_at_within (position is_colon text) text, take_within (position_or_len is_number_sign line) line)

pub small_values : (group : ℕ) (begins : Bool) (n : ℕ) (lines : List (List ℕ)) →
    values_octets (grouped_from group begins (numbered_from n (map record_of lines))) ≤ octets_of lines
small_values group begins n [] = omega arith
small_values group begins n (line ∷ lines) =
    omega (arith, record_within line, small_values (group_at group begins n (record_of line)) (begins_behind begins (record_of line)) (n + 1) lines)

pub as_many : (group : ℕ) (begins : Bool) (n : ℕ) (records : List Record) →
    (length (grouped_from group begins (numbered_from n records)) ≡ length records) × (length (numbered_from n records) ≡ length records)
as_many group begins n [] = (refl, refl)
as_many group begins n (first ∷ records) =
    let later = as_many (group_at group begins n first) (begins_behind begins first) (n + 1) records in
    (ap suc later.0, ap suc later.1)

length_records : (lines : List (List ℕ)) → length (map record_of lines) ≡ length lines
length_records [] = refl
length_records (line ∷ lines) = ap suc (length_records lines)

pub few_records : (text : List ℕ) → length (numbered_from 1 (map record_of (lines_from false text))) ≤ length text
few_records text =
    let lines = lines_from false text in
    omega (arith, (as_many 0 true 1 (map record_of lines)).1, length_records lines, (few_lines false text).0)

pub few_grouped : (text : List ℕ) → length (grouped_from 0 true (numbered_from 1 (map record_of (lines_from false text)))) ≤ length text
few_grouped text =
    let lines = lines_from false text in
    omega (arith, (as_many 0 true 1 (map record_of lines)).0, length_records lines, (few_lines false text).0)

pub within_from : (most group : ℕ) (begins : Bool) (n : ℕ) (records : List Record) → group ≤ n → n + length records ≤ most + 1 →
    All (IsWithin most) (grouped_from group begins (numbered_from n records))
within_from most group begins n [] low high = All-nil (IsWithin most)
within_from most group begins n (first ∷ records) low high =
    let below = (group_within group begins n first low).1 in
    All-cons (IsWithin most) _ _ (omega arith, below)
    (within_from most (group_at group begins n first) (begins_behind begins first) (n + 1) records (omega arith) (omega arith))

pub within_text : (most : ℕ) (text : List ℕ) → length text ≤ most →
    All (IsWithin most) (grouped_from 0 true (numbered_from 1 (map record_of (lines_from false text))))
within_text most text few =
    let lines = lines_from false text in
    within_from most 0 true 1 (map record_of lines) (omega arith) (omega (arith, length_records lines, (few_lines false text).0))
