-- The state found is the history's.
-- By the lemmas of `Looking`.
use Rattle.std.proofs.Common.{ℕ, sym, ◌∙◌, subst}
use Rattle.robots_verdict.specs.Answer.{said}
use Rattle.authority_cache.specs.declared.look.Look.TheVariants.{Unknown, Expired, InForce}
use Rattle.authority_cache.specs.Calls.{LooksAt}
use Rattle.authority_cache.specs.Sites.{State}
use Rattle.authority_cache.proofs.CallerLemmas.{state_found}
use Rattle.gate_history.specs.Standing.{standing_of}
use Rattle.gate_core.specs.Gate.{Gate, history}
use Rattle.gate_core.specs.States.{IsState, StandsAs}
use Rattle.gate_core.proofs.Keeping.{told}
use Rattle.gate_core.proofs.Looking.{fetching_is, none_stands, stands_as_expired, stands_as_said, stands_as_unknown, stands_in_force, stands_past}
use Rattle.gate_core.proofs.book.Book.state_of.Goals as goal
use Rattle.gate_core.proofs.book.Book.state_of.Goals.{in-Unknown, in-Expired, in-InForce}

pub returns : goal.returns
returns c =
    let b = c.self.inside in
    let authority = c.args.authority.now in
    let moment = c.moment_of_call-moment.result in
    let found = standing_of (told b) authority in
    let same = state_found b.cache authority c.find-found.result c.find-found.ensures in
    let stands : StandsAs found moment c.match-look_at.word = elim c.match-look_at.branch [
      | in-Unknown w ↦ subst (StandsAs found moment) (sym w.word-is) (stands_as_unknown found moment (none_stands b c.self.invariant authority moment (subst (λ (s : State). LooksAt s moment Unknown) same w.in-Unknown.ensures)))
      | in-Expired w ↦ subst (StandsAs found moment) (sym w.word-is) (stands_as_expired found moment (stands_past b c.self.invariant authority moment (subst (λ (s : State). LooksAt s moment Expired) same w.in-Expired.ensures)))
      | in-InForce w ↦ subst (StandsAs found moment) (sym (w.word-is ∙ w.of-word.ensures))
          (stands_as_said found moment (said w.in-InForce.answer.now) (let force = subst (λ (s : State). LooksAt s moment (InForce w.in-InForce.answer)) same w.in-InForce.ensures in
          stands_in_force b c.self.invariant authority moment (said w.in-InForce.answer.now) force.0 force.1))
    ] in
    subst (λ (m : ℕ). IsState (history c.args.self.now) authority m (record { word = c.match-look_at.word; fetching = c.is_fetching.result })) c.moment_of_call-moment.ensures
    (subst (λ (g : Gate). IsState (history g) authority moment (record { word = c.match-look_at.word; fetching = c.is_fetching.result })) c.self.view_is
    (record { standing = stands; fetching = c.is_fetching.ensures ∙ c.find-found.ensures.fetching ∙ fetching_is b c.self.invariant authority }))
