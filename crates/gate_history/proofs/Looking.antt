-- What a look at the cache says of a fetch.
-- Used by `decide`, and by what looks at the cache otherwise.
use Rattle.std.proofs.Common.{◌≡◌, ℕ, Bool, true, false, List, refl, sym, ap, ◌∙◌, subst}
use Rattle.std.specs.Prelude.{MatchBool, Option, Some, None, Result, Err, is_some, unwrap_or}
use Rattle.std.specs.List.{find}
use Rattle.std.specs.Option.{option_map, option_map_or}
use Rattle.std.proofs.lemmas.Bool.{true≢false}
use Rattle.robots_verdict.specs.declared.said.Said.{Said}
use Rattle.authority_cache.specs.declared.standing_answer.StandingAnswer.{StandingAnswer}
use Rattle.authority_cache.specs.declared.turn.Turn.{Turn}
use Rattle.authority_cache.specs.Lists.{answer_for, is_answer_for, is_past_answer, TellsCache}
use Rattle.authority_cache.specs.Sites.{Answered, has_past, is_past, Known, site_of}
use Rattle.authority_cache.proofs.CallerLemmas as cache_laws
use Rattle.gate_history.specs.declared.outcome.Cause.{Cause}
use Rattle.gate_history.specs.declared.outcome.Cause.TheVariants as causes
use Rattle.gate_history.specs.declared.outcome.Reason.{Reason}
use Rattle.gate_history.specs.Cause.{Judges, Says}

pub if_true : (b : Bool) (P Q : Type 0) → b ≡ true → P → MatchBool b P Q
if_true true P Q is one = one
if_true false P Q is one = absurd (true≢false (sym is))

pub if_false : (b : Bool) (P Q : Type 0) → b ≡ false → Q → MatchBool b P Q
if_false true P Q is one = absurd (true≢false is)
if_false false P Q is one = one

-- an answer that is older than its life
pub record IsPast (found : Option StandingAnswer) (moment : ℕ) : Type 0 where
  pub answer : StandingAnswer
  pub stands : found ≡ Some answer
  pub past : is_past_answer moment answer ≡ true

-- an answer in force that says so
pub record IsInForce (found : Option StandingAnswer) (moment : ℕ) (says : Said) : Type 0 where
  pub answer : StandingAnswer
  pub stands : found ≡ Some answer
  pub in_force : is_past_answer moment answer ≡ false
  pub said : answer.says ≡ says

pub past_of : (o : Option Answered) (authority : List ℕ) (moment : ℕ) → option_map_or (is_past moment) o false ≡ true → IsPast (option_map (answer_for authority) o) moment
past_of None authority moment is = absurd (true≢false (sym is))
past_of (Some s) authority moment is = record { answer = answer_for authority s; stands = refl; past = is }

pub in_force_of : (o : Option Answered) (authority : List ℕ) (moment : ℕ) (says : Said) → option_map_or (is_past moment) o false ≡ false → option_map (λ s. s.says) o ≡ Some says →
    IsInForce (option_map (answer_for authority) o) moment says
in_force_of None authority moment says is said = absurd (true≢false (ap is_some (sym said)))
in_force_of (Some s) authority moment says is said =
    record { answer = answer_for authority s; stands = refl; in_force = is; said = ap (λ (o : Option Said). unwrap_or o says) said }

pub decides_unknown : (found : Option StandingAnswer) (token url : List ℕ) (moment : ℕ) → found ≡ None → Judges found token url moment (Err causes.Unknown)
decides_unknown None token url moment is = refl
decides_unknown (Some s) token url moment is = absurd (true≢false (ap is_some is))

pub decides_expired : (found : Option StandingAnswer) (token url : List ℕ) (moment : ℕ) → IsPast found moment → Judges found token url moment (Err causes.Expired)
decides_expired found token url moment past =
    subst (λ (o : Option StandingAnswer). Judges o token url moment (Err causes.Expired)) (sym past.stands)
    (if_true (is_past_answer moment past.answer) _ _ past.past refl)

pub decides_by : (found : Option StandingAnswer) (token url : List ℕ) (moment : ℕ) (says : Said) (outcome : Result Reason Cause) → IsInForce found moment says →
    Says says token url outcome → Judges found token url moment outcome
decides_by found token url moment says outcome force is =
    subst (λ (o : Option StandingAnswer). Judges o token url moment outcome) (sym force.stands)
    (if_false (is_past_answer moment force.answer) _ _ force.in_force (subst (λ (s : Said). Says s token url outcome) (sym force.said) is))

module _ (k : Known) (answers : List StandingAnswer) (turns : List Turn) (tells : TellsCache k answers turns) (a authority token url : List ℕ) (same : a ≡ authority) (moment : ℕ) where
  found : option_map (answer_for a) (site_of k a).standing ≡ find (is_answer_for authority) answers
  found = (cache_laws.reads_alike k answers turns tells).answers a ∙ ap (λ b. find (is_answer_for b) answers) same

  pub judges_unknown : (site_of k a).standing ≡ None → Judges (find (is_answer_for authority) answers) token url moment (Err causes.Unknown)
  judges_unknown is = decides_unknown _ token url moment (sym found ∙ ap (option_map (answer_for a)) is)

  pub judges_expired : has_past moment (site_of k a) ≡ true → Judges (find (is_answer_for authority) answers) token url moment (Err causes.Expired)
  judges_expired is =
      decides_expired _ token url moment (subst (λ (o : Option StandingAnswer). IsPast o moment) found (past_of (site_of k a).standing a moment is))

  pub judges_in_force : (says : Said) (outcome : Result Reason Cause) → has_past moment (site_of k a) ≡ false → option_map (λ s. s.says) (site_of k a).standing ≡ Some says → Says says token url outcome →
      Judges (find (is_answer_for authority) answers) token url moment outcome
  judges_in_force says outcome is said by =
      decides_by _ token url moment says outcome (subst (λ (o : Option StandingAnswer). IsInForce o moment says) found (in_force_of (site_of k a).standing a moment says is said)) by
