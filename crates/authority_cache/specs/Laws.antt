-- How each change of the cache changes the lists of a history, and that both count and read alike.
-- Cited by `laws.rt`.
use Rattle.std.specs.Prelude.{◌≡◌, ℕ, true, false, not, ◌&&◌, ◌||◌, List, [], ◌∷◌, ◌++◌, length, filter, map}
use Rattle.std.specs.List.{find, list_any}
use Rattle.std.specs.Option.{option_map}
use Rattle.robots_verdict.specs.declared.said.Said.{Said}
use Rattle.authority_cache.specs.declared.site.Flight.{Flight}
use Rattle.authority_cache.specs.declared.standing_answer.StandingAnswer.{StandingAnswer}
use Rattle.authority_cache.specs.declared.turn.Turn.{Turn}
use Rattle.authority_cache.specs.Sites.{Known, IsApart, arrived, flight_count, has_turn, is_flying, is_known, known_count, past_count, site_of, with_flight}
use Rattle.authority_cache.specs.Calls.{Changes, Sweeps}
use Rattle.authority_cache.specs.Lists.{TellsCache, answer_for, answered, has_number, is_answer_for, is_past_answer, is_turn_of, known_by, turn_for}

-- an empty cache says what a history without begins says
abbrev pub NewTells : Type 0
NewTells = (limit : ℕ) → TellsCache (record { limit = limit; sites = [] }) [] []

-- a begin adds its turn
abbrev pub BeginTells : Type 0
BeginTells =
    (old new : Known) (standing : List StandingAnswer) (in_flight : List Turn) (authority : List ℕ) (flight : Flight)
    → TellsCache old standing in_flight → is_flying (site_of old authority) ≡ false
    → Changes old authority (with_flight flight (site_of old authority)) new
    → TellsCache new standing (in_flight ++ turn_for authority flight ∷ [])

-- an arrival removes its turn, which no other authority's turn shares, and its answer replaces the authority's
abbrev pub ArriveTells : Type 0
ArriveTells = (old new : Known) (standing : List StandingAnswer) (in_flight : List Turn) (authority : List ℕ)
    (turn life : ℕ) (says : Said)
    → TellsCache old standing in_flight → has_turn turn (site_of old authority) ≡ true
    → filter (has_number turn) in_flight ≡ filter (is_turn_of authority) in_flight
    → Changes old authority (arrived turn says life (site_of old authority)) new
    → TellsCache new
    (filter (λ s. not (is_answer_for authority s)) standing
    ++ map (answered says life) (filter (has_number turn) in_flight))
    (filter (λ t. not (has_number turn t)) in_flight)

-- a sweep removes the answers older than their lifetimes
abbrev pub SweepTells : Type 0
SweepTells = (old new : Known) (standing : List StandingAnswer) (in_flight : List Turn) (moment count : ℕ)
    → TellsCache old standing in_flight → Sweeps old moment count new
    → TellsCache new (filter (λ s. not (is_past_answer moment s)) standing) in_flight

-- a cache says the same whatever its limit
abbrev pub LimitTells : Type 0
LimitTells = (old new : Known) (standing : List StandingAnswer) (in_flight : List Turn)
    → TellsCache old standing in_flight → new.sites ≡ old.sites → TellsCache new standing in_flight

-- the cache and the lists have equal counts
pub record CountsAlike (k : Known) (standing : List StandingAnswer) (in_flight : List Turn) : Type 0 where
  pub known : known_count k ≡ known_by standing in_flight
  pub flights : flight_count k ≡ length in_flight
  pub past : (moment : ℕ) → past_count moment k ≡ length (filter (is_past_answer moment) standing)

-- a cache that agrees with lists is counted alike
abbrev pub TellingCountsAlike : Type 0
TellingCountsAlike = (k : Known) (standing : List StandingAnswer) (in_flight : List Turn)
    → TellsCache k standing in_flight → IsApart k → CountsAlike k standing in_flight

-- readers of the cache and of the lists agree
pub record ReadsAlike (k : Known) (standing : List StandingAnswer) (in_flight : List Turn) : Type 0 where
  pub flying : (authority : List ℕ) → is_flying (site_of k authority) ≡ list_any (is_turn_of authority) in_flight
  pub turns : (authority : List ℕ) (turn : ℕ)
      → has_turn turn (site_of k authority) ≡ list_any (λ t. has_number turn t && is_turn_of authority t) in_flight
  pub answers : (authority : List ℕ)
      → option_map (answer_for authority) (site_of k authority).standing ≡ find (is_answer_for authority) standing
  pub known : (authority : List ℕ)
      → is_known (site_of k authority)
      ≡ (list_any (is_answer_for authority) standing || list_any (is_turn_of authority) in_flight)

-- a cache that agrees with lists is read alike
abbrev pub TellingReadsAlike : Type 0
TellingReadsAlike = (k : Known) (standing : List StandingAnswer) (in_flight : List Turn)
    → TellsCache k standing in_flight → ReadsAlike k standing in_flight
