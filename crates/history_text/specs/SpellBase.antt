-- A segment's text: if something was sealed before it, the lines of its base precede the entries,
-- as version 3. docs/FORMATS.md has the lines as a table.
use Rattle.std.specs.Prelude.{◌==◌, ℕ, List, [], ◌∷◌, ◌++◌, codes, decimal, flat_map, if◌then◌else◌, map}
use Rattle.permit_book.specs.declared.granted_permit.GrantedPermit.{GrantedPermit}
use Rattle.authority_cache.specs.declared.standing_answer.StandingAnswer.{StandingAnswer}
use Rattle.authority_cache.specs.declared.turn.Turn.{Turn}
use Rattle.gate_history.specs.declared.base.SlotGrant.{SlotGrant}
use Rattle.gate_history.specs.Base.{Base}
use Rattle.gate_history.specs.Segment.{Sealed}
use Rattle.history_text.specs.declared.version.Version.TheVariants.{Two}
use Rattle.history_text.specs.Spell.{answer_fields, entry_lines, line_end, spaced_fields, spell}

-- a line with its end
abbrev pub ended : List ℕ → List ℕ
ended line = line ++ line_end

-- the text of lines
abbrev pub lines_text : List (List ℕ) → List ℕ
lines_text lines = flat_map ended lines

-- a base's numbers: its entries, starts and begins, and the latest moment
abbrev pub numbers_line : Base → List ℕ
numbers_line b =
    codes "T" ++ spaced_fields (decimal b.entries ∷ decimal b.started ∷ decimal b.begins ∷ decimal b.moment ∷ [])

-- an answer's line after letter and space
abbrev pub answer_words : StandingAnswer → List ℕ
answer_words s = s.authority ++ spaced_fields (decimal s.turn ∷ decimal s.begun ∷ answer_fields Two s.says s.life)

-- an answer, as in version 2
abbrev pub answer_line : StandingAnswer → List ℕ
answer_line s =
    codes "H" ++ spaced_fields (s.authority ∷ decimal s.turn ∷ decimal s.begun ∷ answer_fields Two s.says s.life)

-- a turn in flight
abbrev pub turn_line : Turn → List ℕ
turn_line t = codes "I" ++ spaced_fields (t.authority ∷ decimal t.turn ∷ decimal t.begun ∷ [])

-- the largest generation granted in a slot
abbrev pub grant_line : SlotGrant → List ℕ
grant_line g = codes "L" ++ spaced_fields (decimal g.slot ∷ decimal g.generation ∷ [])

-- a permit out, after the letter that says how
abbrev pub permit_line : List ℕ → GrantedPermit → List ℕ
permit_line letter p = letter ++ spaced_fields (decimal p.number ∷ p.token ∷ p.url ∷ [])

-- an unspent permit, and one whose fetch runs
abbrev pub unspent_line : GrantedPermit → List ℕ
unspent_line p = permit_line (codes "U") p

abbrev pub running_line : GrantedPermit → List ℕ
running_line p = permit_line (codes "Y") p

-- what a base left open, a line each
abbrev pub open_lines : Base → List (List ℕ)
open_lines b =
    map answer_line b.standing ++ (map turn_line b.in_flight ++ (map grant_line b.grants
    ++ (map unspent_line b.unspent ++ map running_line b.running)))

-- the lines of a base
abbrev pub base_lines : Base → List (List ℕ)
base_lines b = codes "V 3" ∷ numbers_line b ∷ (open_lines b ++ codes "E" ∷ [])

-- its text
abbrev pub base_text : Base → List ℕ
base_text b = lines_text (base_lines b)

-- a segment's text: version 2 if nothing was sealed before it, else version 3
abbrev pub spell_segment : Sealed → List ℕ
spell_segment s = if s.base.entries == 0 then spell Two s.entries else base_text s.base ++ entry_lines Two s.entries
