-- No line says something exactly if none is a record.
-- By `Saying`.
use Rattle.std.proofs.Common.{◌≡◌, ◌∙◌, ℕ, List, [], ap, arith, length, map, sym}
use Rattle.std.proofs.lemmas.Bool.Decides.{nat_tests}
use Rattle.std.proofs.lemmas.List.{length-map, nil_from_length}
use Rattle.robots_text.specs.Grouped.{grouped_records, grouped_seen}
use Rattle.robots_text.specs.Records.{numbered_records}
use Rattle.robots_text.specs.declared.grouped.GroupedRecord.{GroupedRecord}
use Rattle.robots_check.specs.Notes.{silent_note}
use Rattle.robots_check.specs.Said.{said_among}
use Rattle.robots_check.proofs.Saying.{silent_none, silent_some}
use Rattle.robots_check.proofs.notes.silent_note.Goals as goal

none_said : (text : List ℕ) (lines given : List GroupedRecord) → map grouped_seen lines ≡ said_among (grouped_records text) → given ≡ lines → length given ≡ 0 → said_among (grouped_records text) ≡ []
none_said text lines given are given_is none = sym are ∙ ap (map grouped_seen) (sym given_is ∙ nil_from_length given none)

some_said : (text : List ℕ) (lines given : List GroupedRecord) → map grouped_seen lines ≡ said_among (grouped_records text) → given ≡ lines → (length given ≡ 0 → ⊥) → silent_note (numbered_records text) ≡ []
some_said text lines given are given_is some =
    silent_some text (λ none. some (ap length given_is ∙ sym (length-map lines grouped_seen) ∙ ap length (are ∙ none)))

pub returns-then-not-is_empty : goal.returns-then-not-is_empty
returns-then-not-is_empty c =
    let some = c.if-not-is_empty.ensures {u = tt} in
    sym (some_said c.args.said.now.text.now c.args.said.now.lines.items c.as_slice.result.now c.args.said.now.are c.as_slice.ensures.value (λ none. grind (arith, nat_tests, some, none)))

pub returns-in-Some : goal.returns-in-Some
returns-in-Some c =
    let empty = c.if-not-is_empty.ensures {u = tt} in
    let none : length c.as_slice.result.now ≡ 0 = grind (arith, nat_tests, empty) in
    sym (silent_none c.args.said.now.text.now _ _ (sym c.records.ensures.records ∙ (c.in-Some.ensures {u = tt}).steps)
    (none_said c.args.said.now.text.now c.args.said.now.lines.items c.as_slice.result.now c.args.said.now.are c.as_slice.ensures.value none))

pub returns-in-None : goal.returns-in-None
returns-in-None c = sym (ap silent_note (sym c.records.ensures.records ∙ (c.in-None.ensures {u = tt}).steps.0))
