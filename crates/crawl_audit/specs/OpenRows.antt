-- What a base left open as one list of rows, one line each; and which row may follow others.
-- See docs/FORMATS.md.
use Rattle.std.specs.Prelude.{◌≡◌, ℕ, true, List, [], ◌∷◌, ◌++◌, map}
use Rattle.permit_book.specs.declared.granted_permit.GrantedPermit.{GrantedPermit}
use Rattle.permit_book.specs.Outstanding.{permit_for}
use Rattle.authority_cache.specs.declared.standing_answer.StandingAnswer.{StandingAnswer}
use Rattle.authority_cache.specs.declared.turn.Turn.{Turn}
use Rattle.robots_verdict.specs.Answer.{said}
use Rattle.gate_history.specs.declared.base.SlotGrant.{SlotGrant}
use Rattle.gate_history.specs.Base.{Base, has_its_life}
use Rattle.crawl_audit.specs.declared.base_row.BaseRow.{BaseRow}
use Rattle.crawl_audit.specs.declared.base_row.BaseRow.TheVariants as rows
use Rattle.history_text.specs.BaseFields.{IsAnswerRow, IsGrantRow, IsPermitRow, IsTurnRow}
use Rattle.gate_history.specs.Grants.{IsSlotGrant}
use Rattle.history_text.specs.Texts.{IsTextBase}
use Rattle.history_text.specs.SpellBase.{answer_line, grant_line, running_line, turn_line, unspent_line}

-- a thing that a base left open
pub data OpenRow : Type 0 where
  Answered : StandingAnswer → OpenRow
  InFlight : Turn → OpenRow
  Greatest : SlotGrant → OpenRow
  Unspent : GrantedPermit → OpenRow
  Running : GrantedPermit → OpenRow

-- its line
abbrev pub row_line : OpenRow → List ℕ
row_line (Answered s) = answer_line s
row_line (InFlight t) = turn_line t
row_line (Greatest g) = grant_line g
row_line (Unspent p) = unspent_line p
row_line (Running p) = running_line p

-- its fields may be in such a line
abbrev pub IsOpenRow : OpenRow → Type 0
IsOpenRow (Answered s) = IsAnswerRow s × (has_its_life s ≡ true)
IsOpenRow (InFlight t) = IsTurnRow t
IsOpenRow (Greatest g) = IsGrantRow g × IsSlotGrant g
IsOpenRow (Unspent p) = IsPermitRow p
IsOpenRow (Running p) = IsPermitRow p

-- what a base left open, as sorted rows
abbrev pub rows_of : Base → List OpenRow
rows_of b =
    map Answered b.standing ++ (map InFlight b.in_flight ++ (map Greatest b.grants
    ++ (map Unspent b.unspent ++ map Running b.running)))

-- the base with these lists
abbrev pub left_as : List StandingAnswer → List Turn → List SlotGrant → List GrantedPermit → List GrantedPermit → Base
    → Base
left_as standing in_flight grants unspent running b = record {
  standing = standing;
  in_flight = in_flight;
  unspent = unspent;
  running = running;
  grants = grants;
  begins = b.begins;
  moment = b.moment;
  entries = b.entries;
  started = b.started;
}

-- the base with one more thing left open
abbrev pub with_row : Base → OpenRow → Base
with_row b (Answered s) = left_as (b.standing ++ s ∷ []) b.in_flight b.grants b.unspent b.running b
with_row b (InFlight t) = left_as b.standing (b.in_flight ++ t ∷ []) b.grants b.unspent b.running b
with_row b (Greatest g) = left_as b.standing b.in_flight (b.grants ++ g ∷ []) b.unspent b.running b
with_row b (Unspent p) = left_as b.standing b.in_flight b.grants (b.unspent ++ p ∷ []) b.running b
with_row b (Running p) = left_as b.standing b.in_flight b.grants b.unspent (b.running ++ p ∷ []) b

-- the row may follow the base's: it sorts after them, and makes a base that a text can have
pub record MayStand (b : Base) (row : OpenRow) : Type 0 where
  pub behind : rows_of (with_row b row) ≡ rows_of b ++ row ∷ []
  pub base : IsTextBase (with_row b row)

-- the row that was read
abbrev pub row_of : BaseRow → OpenRow
row_of (rows.Answered authority turn begun answer life) =
    Answered (record { authority = authority; turn = turn; begun = begun; life = life; says = said answer })
row_of (rows.InFlight authority turn begun) = InFlight (record { authority = authority; turn = turn; begun = begun })
row_of (rows.Greatest grant) = Greatest grant
row_of (rows.Unspent number fetch) = Unspent (permit_for number fetch)
row_of (rows.Running number fetch) = Running (permit_for number fetch)

-- a thing's fields have their form; `IsInRange` has the rest
abbrev pub HasRowFields : OpenRow → Type 0
HasRowFields (Answered s) = IsAnswerRow s
HasRowFields (InFlight t) = IsTurnRow t
HasRowFields (Greatest g) = IsGrantRow g
HasRowFields (Unspent p) = IsPermitRow p
HasRowFields (Running p) = IsPermitRow p

-- an answer's life suits its kind, and slot and generation are possible
abbrev pub IsInRange : OpenRow → Type 0
IsInRange (Answered s) = has_its_life s ≡ true
IsInRange (InFlight t) = Unit {0}
IsInRange (Greatest g) = IsSlotGrant g
IsInRange (Unspent p) = Unit {0}
IsInRange (Running p) = Unit {0}
