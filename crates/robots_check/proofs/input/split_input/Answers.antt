-- The text ends where lines of URLs first follow, else it is all.
-- By `Cutting`.
use Rattle.std.proofs.Common.{inl, inr}
use Rattle.robots_check.proofs.Cutting.{nowhere, passed_on, stops}
use Rattle.robots_check.proofs.input.split_input.Goals as goal

pub returns-in-Some : goal.returns-in-Some
returns-in-Some c =
    inl (stops c.args.input.now c.loop-place.place _ _ _ c.loop-place.invariant c.loop-place-test.true c.split_at.ensures.front c.split_at.ensures.back c.in-Some.ensures.some)

pub loop-place-preserved : goal.loop-place-preserved
loop-place-preserved c =
    passed_on c.args.input.now c.loop-place.place c.line_len-place.result _ c.loop-place.invariant c.split_at.ensures.back c.in_default.ensures.none c.line_len-place.ensures

pub returns : goal.returns
returns c = inr (nowhere c.args.input.now c.loop-place.place c.loop-place.invariant c.loop-place-test.false)
