-- The strongest of the rule lines so far that match is known.
use Rattle.std.proofs.Common.{◌≡◌, drop, map}
use Rattle.robots_verdict.proofs.CallerLemmas.{IsWalked}
use Rattle.robots_check.specs.Forms.{formed_rule}
use Rattle.robots_check.proofs.rows.strongest.Given as goal

abbrev pub invariant-loop-rule : goal.invariant-loop-rule
invariant-loop-rule l = IsWalked l.fn.path (map formed_rule l.rules) (map formed_rule (drop l.rule-index l.rules)) l.best × (l.path ≡ l.fn.path)
