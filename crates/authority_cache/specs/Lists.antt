-- What is known of authorities by the lists of a history: its answers and its turns in
-- flight; and caches that agree. RFC 9309, sections 2.3.1 and 2.4.
use Rattle.std.specs.Prelude.{◌≡◌, ℕ, ◌+◌, ◌==◌, Bool, not, nat_lt, List, length, filter, option_to_list}
use Rattle.std.specs.List.{list_any}
use Rattle.std.specs.Option.{option_map}
use Rattle.std.specs.Str.{bytes_eq}
use Rattle.robots_verdict.specs.declared.said.Said.{Said}
use Rattle.authority_cache.specs.declared.site.Flight.{Flight}
use Rattle.authority_cache.specs.declared.standing_answer.StandingAnswer.{StandingAnswer}
use Rattle.authority_cache.specs.declared.turn.Turn.{Turn}
use Rattle.authority_cache.specs.Sites.{Answered, Known, State, site_of}

-- the answer is this authority's
abbrev pub is_answer_for : List ℕ → StandingAnswer → Bool
is_answer_for authority s = bytes_eq s.authority authority

-- the turn is this authority's
abbrev pub is_turn_of : List ℕ → Turn → Bool
is_turn_of authority t = bytes_eq t.authority authority

-- the turn has this number
abbrev pub has_number : ℕ → Turn → Bool
has_number turn t = t.turn == turn

-- the answer is older than its lifetime at this moment
abbrev pub is_past_answer : ℕ → StandingAnswer → Bool
is_past_answer moment s = nat_lt (s.begun + s.life) moment

-- the authority's turn in flight
abbrev pub turn_for : List ℕ → Flight → Turn
turn_for authority flight = record { authority = authority; turn = flight.turn; begun = flight.begun }

-- the authority's answer
abbrev pub answer_for : List ℕ → Answered → StandingAnswer
answer_for authority s = record { authority = authority; turn = s.turn; begun = s.begun; life = s.life; says = s.says }

-- the answer with this lifetime, brought by a turn
abbrev pub answered : Said → ℕ → Turn → StandingAnswer
answered says life t = record { authority = t.authority; turn = t.turn; begun = t.begun; life = life; says = says }

-- the answers in an authority's state, none or one
abbrev pub answers_in : List ℕ → State → List StandingAnswer
answers_in authority state = option_to_list (option_map (answer_for authority) state.standing)

-- the turns in flight in a state, none or one
abbrev pub turns_in : List ℕ → State → List Turn
turns_in authority state = option_to_list (option_map (turn_for authority) state.in_flight)

-- the list has each answer of the cache once
abbrev pub ListsAnswers : Known → List StandingAnswer → Type 0
ListsAnswers k standing =
    (authority : List ℕ) → filter (is_answer_for authority) standing ≡ answers_in authority (site_of k authority)

-- the list has each turn in flight of the cache once
abbrev pub ListsTurns : Known → List Turn → Type 0
ListsTurns k in_flight =
    (authority : List ℕ) → filter (is_turn_of authority) in_flight ≡ turns_in authority (site_of k authority)

-- the cache agrees with the lists on each authority's answer, if any, and turn in flight, if any
pub record TellsCache (k : Known) (standing : List StandingAnswer) (in_flight : List Turn) : Type 0 where
  pub answers_are : ListsAnswers k standing
  pub turns_are : ListsTurns k in_flight

-- none of these answers is for the turn's authority
abbrev pub lacks_answer : List StandingAnswer → Turn → Bool
lacks_answer standing t = not (list_any (is_answer_for t.authority) standing)

-- the lists' authorities: those with an answer, and those with only a turn
abbrev pub known_by : List StandingAnswer → List Turn → ℕ
known_by standing in_flight = length standing + length (filter (lacks_answer standing) in_flight)
