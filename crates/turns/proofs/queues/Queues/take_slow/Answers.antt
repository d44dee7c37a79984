-- The first place of the slow queue was called for a slow step, so it is within, and the other queues do not have it.
use Rattle.std.proofs.Common.{arith, inl, inr, refl}
use Rattle.std.proofs.lemmas.Grind.{common_steps}
use Rattle.turns.specs.Marks.{is_slow}
use Rattle.turns.proofs.Marking.{is_called, is_within, leaves, slow_leaves_free, slow_leaves_quick, with_first}
use Rattle.turns.proofs.queues.Queues.take_slow.Goals as goal

pub index_mut-requires : goal.index_mut-requires
index_mut-requires c =
    let within = is_within is_slow _ _ _ (with_first is_slow _ _ _ _ c.in_ok-place.ensures.items c.args.self.now.slows) in
    grind (arith, common_steps, within)

pub invariant_of-self-in-Shut-clause-slows : goal.invariant_of-self-in-Shut-clause-slows
invariant_of-self-in-Shut-clause-slows c = leaves is_slow _ _ _ _ (with_first is_slow _ _ _ _ c.in_ok-place.ensures.items c.args.self.now.slows) refl

pub invariant_of-self-in-Shut-clause-frees : goal.invariant_of-self-in-Shut-clause-frees
invariant_of-self-in-Shut-clause-frees c = slow_leaves_free _ _ _ _ (with_first is_slow _ _ _ _ c.in_ok-place.ensures.items c.args.self.now.slows) c.args.self.now.frees

pub invariant_of-self-in-Shut-clause-quicks : goal.invariant_of-self-in-Shut-clause-quicks
invariant_of-self-in-Shut-clause-quicks c = slow_leaves_quick _ _ _ _ (with_first is_slow _ _ _ _ c.in_ok-place.ensures.items c.args.self.now.slows) c.args.self.now.quicks

pub invariant_of-self-in-Left-clause-slows : goal.invariant_of-self-in-Left-clause-slows
invariant_of-self-in-Left-clause-slows c = leaves is_slow _ _ _ _ (with_first is_slow _ _ _ _ c.in_ok-place.ensures.items c.args.self.now.slows) refl

pub invariant_of-self-in-Left-clause-frees : goal.invariant_of-self-in-Left-clause-frees
invariant_of-self-in-Left-clause-frees c = slow_leaves_free _ _ _ _ (with_first is_slow _ _ _ _ c.in_ok-place.ensures.items c.args.self.now.slows) c.args.self.now.frees

pub invariant_of-self-in-Left-clause-quicks : goal.invariant_of-self-in-Left-clause-quicks
invariant_of-self-in-Left-clause-quicks c = slow_leaves_quick _ _ _ _ (with_first is_slow _ _ _ _ c.in_ok-place.ensures.items c.args.self.now.slows) c.args.self.now.quicks

pub returns-in-Shut-clause-some : goal.returns-in-Shut-clause-some
returns-in-Shut-clause-some c = record {
  first = c.in_ok-place.ensures.items;
  called = is_called is_slow _ _ _ (with_first is_slow _ _ _ _ c.in_ok-place.ensures.items c.args.self.now.slows);
  served = refl;
  step = inr (refl, c.in-Shut.is, refl);
}

pub returns-in-Left-clause-some : goal.returns-in-Left-clause-some
returns-in-Left-clause-some c = record {
  first = c.in_ok-place.ensures.items;
  called = is_called is_slow _ _ _ (with_first is_slow _ _ _ _ c.in_ok-place.ensures.items c.args.self.now.slows);
  served = refl;
  step = inl (refl, grind (arith, c.requires, c.in-Left.is), refl);
}
