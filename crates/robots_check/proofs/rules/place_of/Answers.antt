-- Each step halves the range between the two places.
-- `Placing` says what the line in the middle decides.
use Rattle.std.proofs.Common.{◌≡◌, ◌<◌, slice_index_or, ℕ, List, length, map, ◌+◌, ◌-◌, ◌/◌, ap, arith}
use Rattle.robots_check.specs.Forms.{formed_rule}
use Rattle.robots_check.specs.Rules.{rule_at}
use Rattle.robots_check.specs.declared.rules.Formed.{Formed}
use Rattle.robots_check.proofs.Judging.{seen_at}
use Rattle.robots_check.proofs.Placing.{above_middle, up_to_middle}
use Rattle.robots_check.proofs.rules.place_of.Goals as goal

line_at : (rules : List Formed) (i : ℕ) (d : Formed) → i < length (map formed_rule rules) → (slice_index_or rules i d).rule.line ≡ (rule_at (map formed_rule rules) i).line
line_at rules i d within = ap (λ ruled. ruled.line) (seen_at rules i d within)

pub loop-low-preserved-then-rules-middle : goal.loop-low-preserved-then-rules-middle
loop-low-preserved-then-rules-middle c =
    let rules = map formed_rule c.args.rules.now in
    let low = c.loop-low.low in
    let high = c.loop-low.high in
    let middle = low + (high - low) / 2 in
    let to : middle < high = omega (arith, c.loop-low-test.true) in
    above_middle rules c.args.line low high middle c.requires.rising c.loop-low.invariant to
    (omega (arith, c.if-rules-middle.true, line_at c.args.rules.now middle c.index-rules-middle.result (omega (arith, to, c.loop-low.invariant.within))))

pub loop-low-preserved : goal.loop-low-preserved
loop-low-preserved c =
    let rules = map formed_rule c.args.rules.now in
    let low = c.loop-low.low in
    let high = c.loop-low.high in
    let middle = low + (high - low) / 2 in
    let to : middle < high = omega (arith, c.loop-low-test.true) in
    up_to_middle rules c.args.line low high middle c.requires.rising c.loop-low.invariant to
    (omega (arith, c.if-rules-middle.false, line_at c.args.rules.now middle c.index-rules-middle.result (omega (arith, to, c.loop-low.invariant.within))))
