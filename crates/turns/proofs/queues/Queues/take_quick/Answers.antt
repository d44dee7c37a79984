-- The first place of the quick queue was called, so it is within, and the other queues do not have it.
use Rattle.std.proofs.Common.{arith, refl}
use Rattle.std.proofs.lemmas.Grind.{common_steps}
use Rattle.turns.specs.Marks.{is_quick}
use Rattle.turns.proofs.Marking.{is_called, is_within, leaves, quick_leaves_free, quick_leaves_slow, with_first}
use Rattle.turns.proofs.queues.Queues.take_quick.Goals as goal

pub index-requires : goal.index-requires
index-requires c =
    let within = is_within is_quick _ _ _ (with_first is_quick _ _ _ _ c.in_ok-place.ensures.items c.args.self.now.quicks) in
    grind (arith, common_steps, within)

pub index_mut-requires : goal.index_mut-requires
index_mut-requires c =
    let within = is_within is_quick _ _ _ (with_first is_quick _ _ _ _ c.in_ok-place.ensures.items c.args.self.now.quicks) in
    grind (arith, common_steps, within)

pub invariant_of-self-2-clause-quicks : goal.invariant_of-self-2-clause-quicks
invariant_of-self-2-clause-quicks c = leaves is_quick _ _ _ _ (with_first is_quick _ _ _ _ c.in_ok-place.ensures.items c.args.self.now.quicks) refl

pub invariant_of-self-2-clause-frees : goal.invariant_of-self-2-clause-frees
invariant_of-self-2-clause-frees c = quick_leaves_free _ _ _ _ (with_first is_quick _ _ _ _ c.in_ok-place.ensures.items c.args.self.now.quicks) c.args.self.now.frees

pub invariant_of-self-2-clause-slows : goal.invariant_of-self-2-clause-slows
invariant_of-self-2-clause-slows c = quick_leaves_slow _ _ _ _ (with_first is_quick _ _ _ _ c.in_ok-place.ensures.items c.args.self.now.quicks) c.args.self.now.slows

pub returns-then-ends-clause-some : goal.returns-then-ends-clause-some
returns-then-ends-clause-some c = record {
  first = c.in_ok-place.ensures.items;
  called = is_called is_quick _ _ _ (with_first is_quick _ _ _ _ c.in_ok-place.ensures.items c.args.self.now.quicks);
  served = refl;
  task = λ same. grind (arith, same);
  slow_now = refl;
}

pub returns-else-ends-clause-some : goal.returns-else-ends-clause-some
returns-else-ends-clause-some c = record {
  first = c.in_ok-place.ensures.items;
  called = is_called is_quick _ _ _ (with_first is_quick _ _ _ _ c.in_ok-place.ensures.items c.args.self.now.quicks);
  served = refl;
  task = λ same. grind (arith, same);
  slow_now = refl;
}
