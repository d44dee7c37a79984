-- The first place of the free ones is within, and the other queues do not have it.
use Rattle.std.proofs.Common.{arith, refl}
use Rattle.std.proofs.lemmas.Grind.{common_steps}
use Rattle.turns.specs.Marks.{is_free}
use Rattle.turns.proofs.Marking.{is_called, is_within, leaves, free_leaves_quick, free_leaves_slow, with_first}
use Rattle.turns.proofs.queues.Queues.admit.Goals as goal

pub index_mut-requires : goal.index_mut-requires
index_mut-requires c =
    let within = is_within is_free _ _ _ (with_first is_free _ _ _ _ c.in_ok-place.ensures.items c.args.self.now.frees) in
    grind (arith, common_steps, within)

pub invariant_of-self-2-clause-frees : goal.invariant_of-self-2-clause-frees
invariant_of-self-2-clause-frees c = leaves is_free _ _ _ _ (with_first is_free _ _ _ _ c.in_ok-place.ensures.items c.args.self.now.frees) refl

pub invariant_of-self-2-clause-quicks : goal.invariant_of-self-2-clause-quicks
invariant_of-self-2-clause-quicks c = free_leaves_quick _ _ _ _ (with_first is_free _ _ _ _ c.in_ok-place.ensures.items c.args.self.now.frees) c.args.self.now.quicks

pub invariant_of-self-2-clause-slows : goal.invariant_of-self-2-clause-slows
invariant_of-self-2-clause-slows c = free_leaves_slow _ _ _ _ (with_first is_free _ _ _ _ c.in_ok-place.ensures.items c.args.self.now.frees) c.args.self.now.slows

pub returns : goal.returns
returns c = record {
  first = c.in_ok-place.ensures.items;
  free = is_called is_free _ _ _ (with_first is_free _ _ _ _ c.in_ok-place.ensures.items c.args.self.now.frees);
  served = refl;
}
