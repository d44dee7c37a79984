-- What a line without a fault before its first word has.
-- Used by `LineWords::of` and `read_command`.
use Rattle.std.proofs.Common.{◌≡◌, ◌⊎◌, sym, subst, ℕ, Bool, true, false, cond, List, Result, Ok, Err, refl, ◌∙◌, inl, inr}
use Rattle.std.specs.List.{list_any}
use Rattle.path_normal.specs.Capacity.{Capacity, Enough, Overflows, Refused, IsRead}
use Rattle.path_normal.specs.declared.schemes.Schemes.{Schemes}
use Rattle.command_lines.specs.CallOf.{command_of, dialogue_words_of, has_line_octets, verb_words_of}
use Rattle.command_lines.specs.LineWords.{line_words_of, made_of_words}
use Rattle.command_lines.specs.declared.command.Command.{Command}
use Rattle.command_lines.specs.declared.fault.LineFault.{LineFault}
use Rattle.command_lines.specs.declared.fault.LineFault.TheVariants as faults
use Rattle.command_lines.specs.declared.verbs.Dialogue.{Dialogue}
use Rattle.command_lines.specs.declared.verbs.Dialogue.TheVariants.{Client, Overseer}
use Rattle.line_text.specs.Words.{is_empty_word, words_of}

parts : {T : Type 0} (plain empty : Bool) (made value : T) →
    cond plain (cond empty (Err faults.Words) (Ok made)) (Err faults.Chars) ≡ Ok value → (plain ≡ true) × (empty ≡ false) × (made ≡ value)
parts true false made value is = (refl, refl, cc)
parts true true made value is = absurd cc
parts false empty made value is = absurd cc

pub made_parts : {T : Type 0} (made : List (List ℕ) → T) (line : List ℕ) (value : T) → made_of_words made line ≡ Ok value →
    (has_line_octets line ≡ true) × (list_any is_empty_word (words_of line) ≡ false) × (made (words_of line) ≡ value)
made_parts made line value is = parts (has_line_octets line) (list_any is_empty_word (words_of line)) (made (words_of line)) value is

words_read : (schemes : Schemes) (dialogue : Dialogue) (line : List ℕ) (words : List (List ℕ)) (capacity : Capacity) → line_words_of line ≡ Ok words →
    command_of schemes dialogue line capacity ≡ dialogue_words_of schemes dialogue words capacity
words_read schemes dialogue line words capacity is =
    let found = made_parts (λ (ws : List (List ℕ)). ws) line words is in
    rw (found.0, found.1, found.2) refl

pub read_of_words : (schemes : Schemes) (dialogue : Dialogue) (line : List ℕ) (words : List (List ℕ)) (result : Result Command LineFault) → line_words_of line ≡ Ok words →
    IsRead result (dialogue_words_of schemes dialogue words) → IsRead result (command_of schemes dialogue line)
read_of_words schemes dialogue line words (Ok command) is read = words_read schemes dialogue line words Enough is ∙ read
read_of_words schemes dialogue line words (Err fault) is (inl enough) = inl (words_read schemes dialogue line words Enough is ∙ enough)
read_of_words schemes dialogue line words (Err fault) is (inr (inl over)) = inr (inl (words_read schemes dialogue line words Overflows is ∙ over))
read_of_words schemes dialogue line words (Err fault) is (inr (inr refused)) = inr (inr (words_read schemes dialogue line words Refused is ∙ refused))

-- who speaks at the moment of the line
abbrev pub SpeaksAt : Dialogue → ℕ → Type 0
SpeaksAt dialogue moment = ((fetches : Bool) × (dialogue ≡ Client moment fetches)) ⊎ (dialogue ≡ Overseer moment)

pub read_at : (schemes : Schemes) (dialogue : Dialogue) (moment : ℕ) (words : List (List ℕ)) (result : Result Command LineFault) → SpeaksAt dialogue moment →
    IsRead result (verb_words_of schemes dialogue moment words) → IsRead result (dialogue_words_of schemes dialogue words)
read_at schemes dialogue moment words result (inl client) read =
    subst (λ (d : Dialogue). IsRead result (verb_words_of schemes d moment words) → IsRead result (dialogue_words_of schemes d words)) (sym client.1) (λ (r : IsRead result (verb_words_of schemes (Client moment client.0) moment words)). r) read
read_at schemes dialogue moment words result (inr overseer) read =
    subst (λ (d : Dialogue). IsRead result (verb_words_of schemes d moment words) → IsRead result (dialogue_words_of schemes d words)) (sym overseer) (λ (r : IsRead result (verb_words_of schemes (Overseer moment) moment words)). r) read
