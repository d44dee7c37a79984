-- The turns in flight and the answers after a history (RFC 9309, 2.3.1 and 2.4).
use Rattle.std.specs.Prelude.{ℕ, Bool, not, ◌&&◌, ◌||◌, List, [], ◌∷◌, ◌++◌, length, map, filter, Option}
use Rattle.std.specs.List.{list_any, find}
use Rattle.authority_cache.specs.declared.standing_answer.StandingAnswer.{StandingAnswer}
use Rattle.authority_cache.specs.declared.turn.Turn.{Turn}
use Rattle.authority_cache.specs.Lists.{answered, has_number, is_answer_for, is_past_answer, is_turn_of, known_by, turn_for}
use Rattle.gate_history.specs.declared.entry.Entry.TheVariants.{Begun, Arrived, Swept}
use Rattle.gate_history.specs.History.{History, from, ◌▸◌}

-- the turns in flight: begins add them, arrivals remove them
abbrev pub in_flight : History → List Turn
in_flight (from base) = base.in_flight
in_flight (h ▸ Begun moment authority turn) =
    in_flight h ++ turn_for authority (record { turn = turn; begun = moment }) ∷ []
in_flight (h ▸ Arrived _ _ _ turn _) = filter (λ t. not (has_number turn t)) (in_flight h)
in_flight (h ▸ _) = in_flight h

-- the answers: an arrival replaces its authority's, whose age counts from the begin of its turn; a sweep removes
-- those older than their lives
abbrev pub standing : History → List StandingAnswer
standing (from base) = base.standing
standing (h ▸ Arrived life _ authority turn says) =
    filter (λ s. not (is_answer_for authority s)) (standing h)
    ++ map (answered says life) (filter (has_number turn) (in_flight h))
standing (h ▸ Swept moment _) = filter (λ s. not (is_past_answer moment s)) (standing h)
standing (h ▸ _) = standing h

-- this turn of this authority is in flight
abbrev pub has_turn : History → List ℕ → ℕ → Bool
has_turn h authority turn = list_any (λ t. has_number turn t && is_turn_of authority t) (in_flight h)

-- a turn of the authority is in flight
abbrev pub is_fetching : History → List ℕ → Bool
is_fetching h authority = list_any (is_turn_of authority) (in_flight h)

-- the authority's answer
abbrev pub standing_of : History → List ℕ → Option StandingAnswer
standing_of h authority = find (is_answer_for authority) (standing h)

-- how many answers a sweep at this moment ends
abbrev pub past_count : History → ℕ → ℕ
past_count h moment = length (filter (is_past_answer moment) (standing h))

-- the authority is known: it has an answer or a turn in flight
abbrev pub is_known : History → List ℕ → Bool
is_known h authority = list_any (is_answer_for authority) (standing h) || is_fetching h authority

-- how many authorities are known
abbrev pub known_count : History → ℕ
known_count h = known_by (standing h) (in_flight h)
