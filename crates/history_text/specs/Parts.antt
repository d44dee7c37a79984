-- A base's text in parts: single lines, and the lines of a list.
-- Cited by `base_parts.rt`.
use Rattle.std.specs.Prelude.{ℕ, All, List, flat_map}
use Rattle.history_text.specs.declared.base_parts.BasePart.{BasePart}
use Rattle.history_text.specs.declared.base_parts.BasePart.TheVariants.{Line, Numbers, Answers, Turns, Grants, Permits}
use Rattle.history_text.specs.BaseFields.{HasNumbers, IsAnswerRow, IsGrantRow, IsPermitRow, IsTurnRow}
use Rattle.history_text.specs.SpellBase.{answer_line, ended, grant_line, numbers_line, permit_line, turn_line}

-- the text of a part
abbrev pub part_text : BasePart → List ℕ
part_text (Line line) = ended line.now
part_text (Numbers base) = ended (numbers_line base.now)
part_text (Answers base) = flat_map (λ s. ended (answer_line s)) base.now.standing
part_text (Turns turns) = flat_map (λ t. ended (turn_line t)) turns.now
part_text (Grants grants) = flat_map (λ g. ended (grant_line g)) grants.now
part_text (Permits letter permits) = flat_map (λ p. ended (permit_line letter.now p)) permits.now

-- the fields of a list's things
abbrev pub HasPartFields : BasePart → Type 0
HasPartFields (Line line) = Unit {0}
HasPartFields (Numbers base) = HasNumbers base.now
HasPartFields (Answers base) = All IsAnswerRow base.now.standing
HasPartFields (Turns turns) = All IsTurnRow turns.now
HasPartFields (Grants grants) = All IsGrantRow grants.now
HasPartFields (Permits letter permits) = All IsPermitRow permits.now
