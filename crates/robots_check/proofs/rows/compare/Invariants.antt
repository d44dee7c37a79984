-- The rows so far are those of the rule lines so far, and the strongest of these that match is known.
use Rattle.std.proofs.Common.{◌≡◌, drop, map, take}
use Rattle.robots_verdict.proofs.CallerLemmas.{IsWalked}
use Rattle.robots_check.specs.Forms.{formed_rule}
use Rattle.robots_check.specs.Rows.{AreRows, row_seen}
use Rattle.robots_check.proofs.rows.compare.Given as goal

abbrev pub invariant-loop-rule : goal.invariant-loop-rule
invariant-loop-rule l = AreRows l.fn.path (map formed_rule (take l.rule-index l.rules)) (map row_seen l.rows.items)
    × IsWalked l.fn.path (map formed_rule l.rules) (map formed_rule (drop l.rule-index l.rules)) l.strongest × (l.path ≡ l.fn.path)
