-- What entries open and no later entry closes: turns in flight, answers, unspent permits and running ones. By the
-- laws these lists are complete.
use Rattle.std.specs.Prelude.{Bool, false, not, List, [], ◌∷◌, ◌++◌, map, filter}
use Rattle.std.specs.List.{list_any}
use Rattle.permit_book.specs.declared.granted_permit.GrantedPermit.{GrantedPermit}
use Rattle.permit_book.specs.Outstanding.{is_numbered, permit_for}
use Rattle.authority_cache.specs.declared.standing_answer.StandingAnswer.{StandingAnswer}
use Rattle.authority_cache.specs.declared.turn.Turn.{Turn}
use Rattle.authority_cache.specs.Lists.{answered, has_number, is_answer_for, is_past_answer, turn_for}
use Rattle.gate_history.specs.declared.entry.Entry.{Entry}
use Rattle.gate_history.specs.declared.entry.Entry.TheVariants.{Begun, Arrived, Granted, Started, StartDenied, Returned, Finished, Swept}
use Rattle.gate_history.specs.History.{History, ◌▸◌}
use Rattle.gate_history.specs.Standing.{in_flight}
use Rattle.gate_history.specs.Outstanding.{unspent}

-- one of these entries closes x
abbrev pub is_closed_by : {X : Type 0} → (Entry → X → Bool) → List Entry → X → Bool
is_closed_by closes later x = list_any (λ e. closes e x) later

-- what entries open, given the history before each, and no later one closes
abbrev pub opened : {X : Type 0} → (History → Entry → List X) → (Entry → X → Bool) → History → List Entry → List X
opened opens closes h [] = []
opened opens closes h (e ∷ later) =
    filter (λ x. not (is_closed_by closes later x)) (opens h e) ++ opened opens closes (h ▸ e) later

-- what is left open: of a history's and what the entries after it open, all that no later entry closes
abbrev pub left_open : {X : Type 0} → (History → List X) → (History → Entry → List X) → (Entry → X → Bool) → History
    → List Entry → List X
left_open has opens closes h later =
    filter (λ x. not (is_closed_by closes later x)) (has h) ++ opened opens closes h later

-- a begin opens its turn
abbrev pub turns_opened : History → Entry → List Turn
turns_opened h (Begun moment authority turn) = turn_for authority (record { turn = turn; begun = moment }) ∷ []
turns_opened h _ = []

-- an arrival closes the turn of its number
abbrev pub closes_turn : Entry → Turn → Bool
closes_turn (Arrived _ _ _ turn _) t = has_number turn t
closes_turn _ t = false

-- an arrival opens its answer, for the turn that it closes
abbrev pub answers_opened : History → Entry → List StandingAnswer
answers_opened h (Arrived life _ _ turn says) = map (answered says life) (filter (has_number turn) (in_flight h))
answers_opened h _ = []

-- an answer is closed by a later arrival, or by a sweep when older than its life
abbrev pub closes_answer : Entry → StandingAnswer → Bool
closes_answer (Arrived _ _ authority _ _) s = is_answer_for authority s
closes_answer (Swept moment _) s = is_past_answer moment s
closes_answer _ s = false

-- a grant opens its permit
abbrev pub permits_opened : History → Entry → List GrantedPermit
permits_opened h (Granted _ number fetch) = permit_for number fetch ∷ []
permits_opened h _ = []

-- a start, allowed or denied, and a return close their permit
abbrev pub closes_permit : Entry → GrantedPermit → Bool
closes_permit (Started _ number _) p = is_numbered number p
closes_permit (StartDenied _ number _) p = is_numbered number p
closes_permit (Returned number) p = is_numbered number p
closes_permit _ p = false

-- an allowed start opens the run of its permit
abbrev pub runs_opened : History → Entry → List GrantedPermit
runs_opened h (Started _ number _) = filter (is_numbered number) (unspent h)
runs_opened h _ = []

-- a finish closes its run
abbrev pub closes_run : Entry → GrantedPermit → Bool
closes_run (Finished number) p = is_numbered number p
closes_run _ p = false
