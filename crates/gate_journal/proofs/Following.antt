-- Two texts in sequence are the text of both parts.
-- The answers of `spelling` cite it.
use Rattle.std.proofs.Common.{◌≡◌, ℕ, List, Bool, true, false, ◌++◌, sym, ap, ◌∙◌, append_assoc, take, drop, take-append-drop}
use Rattle.std.specs.Prelude.{if◌then◌else◌, ◌==◌}
use Rattle.std.proofs.lemmas.Grind.{flat_map-append}
use Rattle.gate_history.specs.declared.entry.Entry.{Entry}
use Rattle.gate_history.specs.Segment.{Sealed}
use Rattle.history_text.specs.declared.version.Version.TheVariants.{Two}
use Rattle.history_text.specs.Spell.{entry_lines, entry_text, version_line}
use Rattle.history_text.specs.SpellBase.{base_text, spell_segment}
use Rattle.journal.specs.declared.position.JournalPosition.{JournalPosition}
use Rattle.gate_journal.specs.Follows.{Follows, AreBehind, spelled_count, spelled_of}

either_behind : (b : Bool) (p q xs ys : List ℕ) → (if b then p ++ xs else q ++ xs) ++ ys ≡ if b then p ++ (xs ++ ys) else q ++ (xs ++ ys)
either_behind true p q xs ys = append_assoc p xs ys
either_behind false p q xs ys = append_assoc q xs ys

lines_joined : (count : ℕ) (entries : List Entry) → entry_lines Two (take count entries) ++ entry_lines Two (drop count entries) ≡ entry_lines Two entries
lines_joined count entries =
    sym (flat_map-append (entry_text Two) (take count entries) (drop count entries)) ∙ ap (entry_lines Two) (take-append-drop count entries)

pub followed : (place : JournalPosition) (s : Sealed) (entries : List Entry) (text : List ℕ) → AreBehind place s entries → text ≡ entry_lines Two entries → Follows place s text
followed place s entries text behind is = record {
  place_is = behind.place_is;
  whole =
      let count = spelled_count place in
      let first = entry_lines Two (take count s.entries) in
      let rest = entry_lines Two (drop count s.entries) in
      let text_is : text ≡ rest = is ∙ ap (entry_lines Two) behind.entries_are in
      let choose : List ℕ → List ℕ = λ l. if s.base.entries == 0 then version_line Two ++ l else base_text s.base ++ l in
      ap (λ l. spell_segment (spelled_of place s) ++ l) text_is
      ∙ either_behind (s.base.entries == 0) (version_line Two) (base_text s.base) first rest
      ∙ ap choose (lines_joined count s.entries);
}
