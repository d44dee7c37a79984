-- Each spare is of the policy itself.
use Rattle.std.proofs.Common.{ℕ, List, ap, ◌∙◌}
use Rattle.robots_verdict.specs.Kept.{KeptRules}
use Rattle.robots_verdict.proofs.rules.Rules.twin.Goals as goal

abbrev without_spares : List ℕ → KeptRules
without_spares text = record { text = text; spares = 0 }

pub invariant_of-self : goal.invariant_of-self
invariant_of-self c = c.take_spare.ensures.left _ c.self.invariant

pub returns-clause-twin : goal.returns-clause-twin
returns-clause-twin c =
    ap without_spares (c.take_spare.ensures.taken _ c.self.invariant ∙ ap (λ (kept : KeptRules). kept.text) c.self.view_is)
