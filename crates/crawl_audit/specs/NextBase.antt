-- The base of a further text, made from the tables, and its lines so far.
-- The contracts of `listing.rt` and `next_base.rt`.
use Rattle.std.specs.Prelude.{◌≡◌, ℕ, ◌+◌, ◌⊎◌, List, [], ◌∷◌, ◌++◌, Some, codes, length}
use Rattle.authority_cache.specs.Lists.{ListsAnswers, ListsTurns}
use Rattle.gate_history.specs.declared.base.LeftOpen.{LeftOpen}
use Rattle.gate_history.specs.declared.base.Numbers.{Numbers as BaseNumbers}
use Rattle.gate_history.specs.Base.{Base}
use Rattle.gate_history.specs.History.{History, entry_count, from}
use Rattle.gate_history.specs.Kept.{base_with}
use Rattle.gate_history.specs.Order.{IsInOrder, Reorders}
use Rattle.gate_history.specs.Seal.{SaysAs}
use Rattle.crawl_audit.specs.declared.open_state.OpenState.{OpenState}
use Rattle.crawl_audit.specs.declared.next_base.NextBase.{NextBase}
use Rattle.crawl_audit.specs.declared.next_base.BaseLine.{BaseLine}
use Rattle.crawl_audit.specs.declared.next_base.BaseLine.TheVariants.{Taken, Last, Other}
use Rattle.history_text.specs.BaseFields.{HasBaseFields}
use Rattle.history_text.specs.Texts.{IsTextBase}
use Rattle.history_text.specs.SpellBase.{base_lines, numbers_line, open_lines}
use Rattle.crawl_audit.specs.Steps.{EndsBase, Place, TakesLine, inside}
use Rattle.crawl_audit.specs.Tables.{ListsGrants, ListsRunning, ListsUnspent}

-- the lists hold what the open_state's tables do
pub record TellsLeft (l : OpenState) (left : LeftOpen) : Type 0 where
  pub answers : ListsAnswers l.cache left.standing.items
  pub turns : ListsTurns l.cache left.in_flight.items
  pub permits : ListsUnspent l.numbers left.unspent.items
  pub runs : ListsRunning l.numbers left.running.items
  pub slots : ListsGrants l.numbers left.grants.items

-- the base that must come
abbrev pub base_in : NextBase → Base
base_in next = base_with next.left next.numbers

-- the lines of a base behind `V 3`
abbrev pub lines_behind : Base → List (List ℕ)
lines_behind b = numbers_line b ∷ (open_lines b ++ codes "E" ∷ [])

-- how many things were left open
abbrev pub row_count : LeftOpen → ℕ
row_count left =
    length left.standing.items + length left.in_flight.items + length left.grants.items
    + length left.unspent.items + length left.running.items

-- it was made and sorted from this, with no lines read
pub record IsNextOf (left : LeftOpen) (numbers : BaseNumbers) (next : NextBase) : Type 0 where
  pub same : Reorders (base_with left numbers) (base_in next)
  pub order : IsInOrder (base_in next)
  pub fields : HasBaseFields (base_in next)
  pub count : next.count ≡ row_count next.left + 2
  pub taken : next.taken ≡ 0

-- a base describes the history, and these are its first lines
pub record Awaits (next : NextBase) (h : History) (lines : List (List ℕ)) : Type 0 where
  pub base : IsTextBase (base_in next)
  pub says : SaysAs (from (base_in next)) h
  pub rest : List (List ℕ)
  pub lines_are : base_lines (base_in next) ≡ lines ++ rest
  pub taken : length lines ≡ next.taken + 1
  pub count : next.count ≡ row_count next.left + 2

-- nothing was entered, so no base may come
pub record AwaitsNone (next : NextBase) (h : History) (lines : List (List ℕ)) : Type 0 where
  pub none : next.numbers.entries ≡ 0
  pub entries : entry_count h ≡ 0
  pub lines_are : lines ≡ codes "V 3" ∷ []

-- what must follow the history, of which these lines were read
abbrev pub Expects : NextBase → History → List (List ℕ) → Type 0
Expects next h lines = Awaits next h lines ⊎ AwaitsNone next h lines

-- the lines are all those of the next base
pub record IsWholeBase (h : History) (lines : List (List ℕ)) : Type 0 where
  pub base : Base
  pub is_base : IsTextBase base
  pub says : SaysAs (from base) h
  pub lines_are : base_lines base ≡ lines

-- the line is one of the base with more to come, its last one, or another
abbrev pub TakesNextLine : History → List (List ℕ) → List ℕ → BaseLine → NextBase → Type 0
TakesNextLine h lines line Taken next =
    Expects next h (lines ++ line ∷ []) × TakesLine (Some h) lines line (inside (Some h) (lines ++ line ∷ []))
TakesNextLine h lines line Last next = IsWholeBase h (lines ++ line ∷ [])
TakesNextLine h lines line Other next =
    (place : Place) → (TakesLine (Some h) lines line place → ⊥) × (EndsBase (Some h) lines line place → ⊥)
