-- The place joins the one queue, and the others stay.
use Rattle.std.proofs.Common.{◌≡◌, [], ◌∷◌, ◌++◌, arith, refl, sym, subst}
use Rattle.std.specs.Prelude.{slice_set}
use Rattle.turns.specs.declared.queues.PlaceMark.TheVariants.{Slow, Parked}
use Rattle.turns.specs.Marks.{Lists, is_free, is_quick, is_slow}
use Rattle.turns.proofs.Marking.{joins, stays}
use Rattle.turns.proofs.queues.Queues.join_slow.Goals as goal

pub invariant_of-self-clause-frees : goal.invariant_of-self-clause-frees
invariant_of-self-clause-frees c = stays is_free _ _ _ _ c.args.self.now.frees c.requires.within c.requires.free refl

pub invariant_of-self-clause-quicks : goal.invariant_of-self-clause-quicks
invariant_of-self-clause-quicks c = stays is_quick _ _ _ _ c.args.self.now.quicks c.requires.within c.requires.quick refl

pub invariant_of-self-clause-slows : goal.invariant_of-self-clause-slows
invariant_of-self-clause-slows c =
    let pushed : c.push_back.new.self.items ≡ c.args.self.now.slow.items ++ c.args.place ∷ [] = grind (arith, c.push_back.ensures.items, c.if-is_ok.true, c.is_ok.ensures.value) in
    subst (λ queue. Lists is_slow (slice_set c.args.self.now.marks.items c.args.place Slow) queue) (sym pushed)
    (joins is_slow _ _ _ _ c.args.self.now.slows c.requires.within c.requires.slow refl)

pub invariant_of-self-else-is_ok-clause-frees : goal.invariant_of-self-else-is_ok-clause-frees
invariant_of-self-else-is_ok-clause-frees c = stays is_free _ _ _ _ c.args.self.now.frees c.requires.within c.requires.free refl

pub invariant_of-self-else-is_ok-clause-quicks : goal.invariant_of-self-else-is_ok-clause-quicks
invariant_of-self-else-is_ok-clause-quicks c = stays is_quick _ _ _ _ c.args.self.now.quicks c.requires.within c.requires.quick refl

pub invariant_of-self-else-is_ok-clause-slows : goal.invariant_of-self-else-is_ok-clause-slows
invariant_of-self-else-is_ok-clause-slows c =
    let same : c.push_back.new.self.items ≡ c.args.self.now.slow.items = grind (arith, c.push_back.ensures.items, c.if-is_ok.false, c.is_ok.ensures.value) in
    subst (λ queue. Lists is_slow (slice_set c.args.self.now.marks.items c.args.place Parked) queue) (sym same)
    (stays is_slow _ _ _ _ c.args.self.now.slows c.requires.within c.requires.slow refl)
