-- A place that can't be passed, one that was, and the end.
use Rattle.std.proofs.Common.{arith, rules}
use Rattle.gate_marks.proofs.Merging.{ended, next_below, passes_ascend, passes_times, stuck}
use Rattle.gate_marks.proofs.Ranging.{too_many}
use Rattle.gate_marks.proofs.merged_marks.merge.Goals as goal

pub returns-then-first-count : goal.returns-then-first-count
returns-then-first-count c = (
  (λ yes. absurd (search rules)),
  (λ once. absurd (too_many c.args.first c.args.count c.args.left.now c.if-first-count.true once)),
)

pub returns-then-not-pass_one : goal.returns-then-not-pass_one
returns-then-not-pass_one c = (
  (λ yes. absurd (search rules)),
  (λ once. absurd (stuck c.args.first c.args.count c.loop-place.place c.args.left.now c.loop-place.left c.loop-place-test.true c.loop-place.invariant.1 c.loop-place.invariant.2 (c.pass_one.ensures.no (search rules)) once)),
)

pub loop-place-preserved : goal.loop-place-preserved
loop-place-preserved c =
    let passes = c.pass_one.ensures.yes (search rules) in
    let least = c.loop-place-test.true in (
      omega (arith, least),
      passes_ascend c.loop-place.place c.loop-place.left c.pass_one.new.left passes c.loop-place.invariant.1,
      (λ p.
          let a = passes_times c.loop-place.place c.loop-place.left c.pass_one.new.left passes p in
          let b = c.loop-place.invariant.2 p in
          let d = next_below c.loop-place.place p in
          omega (arith, a, b, d)),
    )

pub returns : goal.returns
returns c =
    let end = ended c.args.first c.args.count c.loop-place.place c.args.left.now c.loop-place.left c.loop-place.invariant.0 (search rules) c.loop-place.invariant.2 in (
      (λ yes. end.0 (c.are_empty.ensures.0 yes)),
      (λ once. c.are_empty.ensures.1 (end.1 once)),
    )
