-- What a look at the cache says by the history.
-- Used by `Book::decide`, `Book::state_of` and `Book::hint`.
use Rattle.std.proofs.Common.{◌≡◌, ℕ, true, false, List, refl, sym, ap, ◌∙◌, subst}
use Rattle.std.specs.Prelude.{Option, Some, None, is_some}
use Rattle.std.specs.Option.{option_map}
use Rattle.std.proofs.lemmas.Bool.{true≢false}
use Rattle.robots_verdict.specs.declared.said.Said.{Said}
use Rattle.robots_verdict.specs.declared.said.Said.TheVariants as says
use Rattle.authority_cache.specs.declared.standing_answer.StandingAnswer.{StandingAnswer}
use Rattle.authority_cache.specs.Lists.{answer_for, is_past_answer}
use Rattle.authority_cache.specs.Sites.{has_past, has_turn, is_flying, site_of, State}
use Rattle.authority_cache.proofs.CallerLemmas as cache_laws
use Rattle.gate_history.specs.History.{History}
use Rattle.gate_history.specs.Standing.{has_turn as standing_turn, in_flight, is_fetching, standing, standing_of}
use Rattle.gate_history.proofs.CallerLemmas.{IsInForce, IsPast, if_false, if_true, in_force_of, past_of}
use Rattle.gate_core.specs.declared.book.Book.TheInside.{Inside}
use Rattle.gate_core.specs.declared.state.Standing.TheVariants as standings
use Rattle.gate_core.specs.Kept.{IsKept}
use Rattle.gate_core.specs.States.{HasRulesInForce, standing_as, StandsAs}
use Rattle.gate_core.proofs.Keeping.{told}

module _ (b : Inside) (kept : IsKept b) (authority : List ℕ) (moment : ℕ) where
  abbrev pub state : State
  state = site_of b.cache authority

  found : option_map (answer_for authority) state.standing ≡ standing_of (told b) authority
  found = (cache_laws.reads_alike b.cache (standing (told b)) (in_flight (told b)) kept.cache).answers authority

  pub none_stands : state.standing ≡ None → standing_of (told b) authority ≡ None
  none_stands is = sym found ∙ ap (option_map (answer_for authority)) is

  pub stands_past : has_past moment state ≡ true → IsPast (standing_of (told b) authority) moment
  stands_past is = subst (λ (o : Option StandingAnswer). IsPast o moment) found (past_of state.standing authority moment is)

  pub stands_in_force : (says : Said) → has_past moment state ≡ false → option_map (λ s. s.says) state.standing ≡ Some says → IsInForce (standing_of (told b) authority) moment says
  stands_in_force says is said = subst (λ (o : Option StandingAnswer). IsInForce o moment says) found (in_force_of state.standing authority moment says is said)

pub stands_as_unknown : (found : Option StandingAnswer) (moment : ℕ) → found ≡ None → StandsAs found moment standings.Unknown
stands_as_unknown None moment is = refl
stands_as_unknown (Some s) moment is = absurd (true≢false (ap is_some is))

pub stands_as_expired : (found : Option StandingAnswer) (moment : ℕ) → IsPast found moment → StandsAs found moment standings.Expired
stands_as_expired found moment past =
    subst (λ (o : Option StandingAnswer). StandsAs o moment standings.Expired) (sym past.stands) (if_true (is_past_answer moment past.answer) _ _ past.past refl)

pub stands_as_said : (found : Option StandingAnswer) (moment : ℕ) (says : Said) → IsInForce found moment says → StandsAs found moment (standing_as says)
stands_as_said found moment says force =
    subst (λ (o : Option StandingAnswer). StandsAs o moment (standing_as says)) (sym force.stands)
    (if_false (is_past_answer moment force.answer) _ _ force.in_force (sym (ap standing_as force.said)))

pub fetching_is : (b : Inside) → IsKept b → (authority : List ℕ) → is_flying (site_of b.cache authority) ≡ is_fetching (told b) authority
fetching_is b kept authority = (cache_laws.reads_alike b.cache (standing (told b)) (in_flight (told b)) kept.cache).flying authority

pub rules_in_force : (h : History) (authority : List ℕ) (moment : ℕ) (text : List ℕ) → IsInForce (standing_of h authority) moment (says.Rules text) → HasRulesInForce h authority moment text
rules_in_force h authority moment text force = record { answer = force.answer; stands = force.stands; in_force = force.in_force; rules = force.said }

pub turn_is : (b : Inside) → IsKept b → (authority : List ℕ) (turn : ℕ) → has_turn turn (site_of b.cache authority) ≡ standing_turn (told b) authority turn
turn_is b kept authority turn = (cache_laws.reads_alike b.cache (standing (told b)) (in_flight (told b)) kept.cache).turns authority turn

pub standing_is : (b : Inside) → IsKept b → (authority : List ℕ) → option_map (answer_for authority) (site_of b.cache authority).standing ≡ standing_of (told b) authority
standing_is b kept authority = (cache_laws.reads_alike b.cache (standing (told b)) (in_flight (told b)) kept.cache).answers authority
