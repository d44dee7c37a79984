-- The place waits, and the queues stay.
use Rattle.std.proofs.Common.{refl}
use Rattle.turns.specs.Marks.{is_free, is_quick, is_slow}
use Rattle.turns.proofs.Marking.{stays}
use Rattle.turns.proofs.queues.Queues.go_to.Goals as goal

pub invariant_of-self-clause-frees : goal.invariant_of-self-clause-frees
invariant_of-self-clause-frees c = stays is_free _ _ _ _ c.args.self.now.frees c.requires.within c.requires.free refl

pub invariant_of-self-clause-quicks : goal.invariant_of-self-clause-quicks
invariant_of-self-clause-quicks c = stays is_quick _ _ _ _ c.args.self.now.quicks c.requires.within c.requires.quick refl

pub invariant_of-self-clause-slows : goal.invariant_of-self-clause-slows
invariant_of-self-clause-slows c = stays is_slow _ _ _ _ c.args.self.now.slows c.requires.within c.requires.slow refl

pub invariant_of-self-in-Parked-clause-frees : goal.invariant_of-self-in-Parked-clause-frees
invariant_of-self-in-Parked-clause-frees c = stays is_free _ _ _ _ c.args.self.now.frees c.requires.within c.requires.free refl

pub invariant_of-self-in-Parked-clause-quicks : goal.invariant_of-self-in-Parked-clause-quicks
invariant_of-self-in-Parked-clause-quicks c = stays is_quick _ _ _ _ c.args.self.now.quicks c.requires.within c.requires.quick refl

pub invariant_of-self-in-Parked-clause-slows : goal.invariant_of-self-in-Parked-clause-slows
invariant_of-self-in-Parked-clause-slows c = stays is_slow _ _ _ _ c.args.self.now.slows c.requires.within c.requires.slow refl
