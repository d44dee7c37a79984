-- The rules that were found are in force.
-- By the lemmas of `Looking`.
use Rattle.std.proofs.Common.{◌≡◌, ℕ, List, Ok, Err, sym, ap, subst}
use Rattle.std.specs.Prelude.{IfOk, IfSome, Result}
use Rattle.std.specs.Arc.{arc_value}
use Rattle.std.specs.Result.{result_ok}
use Rattle.robots_verdict.specs.Answer.{said}
use Rattle.gate_history.specs.Standing.{standing_of}
use Rattle.gate_core.specs.Gate.{Gate, history}
use Rattle.gate_core.specs.Replies.{moment_at}
use Rattle.gate_core.specs.States.{HasRulesInForce}
use Rattle.gate_core.proofs.Keeping.{told}
use Rattle.gate_history.proofs.CallerLemmas.{IsInForce}
use Rattle.gate_core.proofs.Looking.{rules_in_force, stands_in_force}
use Rattle.gate_core.proofs.book.Book.hint.Goals as goal

handed : {A E : Type 0} (value : A → List ℕ) (P : List ℕ → Type 0) (text : List ℕ) (r : Result A E) → IfOk r (λ a. value a ≡ text) → P text → IfSome (result_ok r) (λ a. P (value a))
handed value P text (Ok a) is holds = subst P (sym is) holds
handed value P text (Err e) is holds = tt

pub returns-in-InForce-Rules : goal.returns-in-InForce-Rules
returns-in-InForce-Rules c =
    let b = c.self.inside in
    let authority = c.args.authority.now in
    let moment = c.moment_of_call-moment.result in
    let text = c.in-InForce-Rules.rules.text in
    let is = ap said c.in-InForce-Rules.field-0-is in
    let force = subst (λ s. IsInForce (standing_of (told b) authority) moment s) is
    (stands_in_force b c.self.invariant authority moment (said c.in-InForce-Rules.field-0.now) c.in-InForce-Rules.ensures.0 c.in-InForce-Rules.ensures.1) in
    let here : HasRulesInForce (history c.args.self.now) authority (moment_at c.args.self.now c.args.moment) text =
    subst (λ (m : ℕ). HasRulesInForce (history c.args.self.now) authority m text) c.moment_of_call-moment.ensures
    (subst (λ (g : Gate). HasRulesInForce (history g) authority moment text) c.self.view_is (rules_in_force (told b) authority moment text force)) in
    subst (λ o. IfSome o (λ policy. HasRulesInForce (history c.args.self.now) authority (moment_at c.args.self.now c.args.moment) (arc_value policy))) (sym c.ok.ensures.value)
    (handed arc_value (HasRulesInForce (history c.args.self.now) authority (moment_at c.args.self.now c.args.moment)) text c.handle.result c.handle.ensures here)
