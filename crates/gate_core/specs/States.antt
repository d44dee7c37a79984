-- What is known of an authority.
-- RFC 9309, sections 2.3.1 and 2.4.
use Rattle.std.specs.Prelude.{◌≡◌, ℕ, false, List, Option, Some, None, MatchBool}
use Rattle.std.specs.Option.{option_map}
use Rattle.robots_verdict.specs.declared.said.Said.{Said}
use Rattle.robots_verdict.specs.declared.said.Said.TheVariants as says
use Rattle.authority_cache.specs.declared.site.CachedAnswer.{CachedAnswer}
use Rattle.authority_cache.specs.declared.standing_answer.StandingAnswer.{StandingAnswer}
use Rattle.authority_cache.specs.Lists.{answer_for, is_past_answer}
use Rattle.authority_cache.specs.Sites.{said_cached}
use Rattle.gate_history.specs.History.{History}
use Rattle.gate_history.specs.Standing.{is_fetching, standing_of}
use Rattle.gate_core.specs.declared.state.Standing.{Standing}
use Rattle.gate_core.specs.declared.state.Standing.TheVariants as standings
use Rattle.gate_core.specs.declared.state.State.{State}

-- the state by an answer in force
abbrev pub standing_as : Said → Standing
standing_as (says.Rules _) = standings.Rules
standing_as (says.Open _) = standings.Open
standing_as (says.Closed _) = standings.Closed

-- the state at this moment: no answer, one older than its life, or the answer's
abbrev pub StandsAs : Option StandingAnswer → ℕ → Standing → Type 0
StandsAs None moment state = state ≡ standings.Unknown
StandsAs (Some s) moment state =
    MatchBool (is_past_answer moment s) (state ≡ standings.Expired) (state ≡ standing_as s.says)

-- what is known of an authority: its answer's state, and whether a turn is in flight
pub record IsState (h : History) (authority : List ℕ) (moment : ℕ) (state : State) : Type 0 where
  pub standing : StandsAs (standing_of h authority) moment state.word
  pub fetching : state.fetching ≡ is_fetching h authority

-- rules of this text are in force for the authority now
pub record HasRulesInForce (h : History) (authority : List ℕ) (moment : ℕ) (text : List ℕ) : Type 0 where
  pub answer : StandingAnswer
  pub stands : standing_of h authority ≡ Some answer
  pub in_force : is_past_answer moment answer ≡ false
  pub rules : answer.says ≡ says.Rules text

-- the cached answer is the authority's: its turn, the moment of that turn's begin, its life and content; or none
-- exists
abbrev pub IsStanding : History → List ℕ → Option CachedAnswer → Type 0
IsStanding h authority found =
    option_map (answer_for authority) (option_map said_cached found) ≡ standing_of h authority
