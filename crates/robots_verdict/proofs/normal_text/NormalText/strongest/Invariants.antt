-- The best of the rules passed is known.
use Rattle.std.proofs.Common.{◌≡◌}
use Rattle.robots_text.specs.Walk.{rules_left}
use Rattle.robots_verdict.proofs.Walking.{IsWalked}
use Rattle.robots_verdict.proofs.normal_text.NormalText.strongest.Given as goal

abbrev pub invariant-loop-rule : goal.invariant-loop-rule
invariant-loop-rule l = (l.path ≡ l.fn.path) × IsWalked l.fn.path (rules_left l.initial.rules) (rules_left l.rules) l.best
