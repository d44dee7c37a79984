-- All are served at first, so the queues are empty.
use Rattle.std.proofs.Common.{◌≡◌, ℕ, List, [], refl, sym, subst}
use Rattle.std.specs.Prelude.{Bool, false, replicate}
use Rattle.turns.specs.declared.queues.PlaceMark.{PlaceMark}
use Rattle.turns.specs.declared.queues.PlaceMark.TheVariants.{Served}
use Rattle.turns.specs.Marks.{Lists, is_free, is_quick, is_slow}
use Rattle.turns.proofs.Marking.{none_marked}
use Rattle.turns.proofs.queues.Queues.new.Goals as goal

empty : (test : PlaceMark → Bool) (marks : List PlaceMark) (queue : List ℕ) (count : ℕ) → test Served ≡ false → marks ≡ replicate count Served → queue ≡ [] → Lists test marks queue
empty test marks queue count fails all none =
    subst (λ found. Lists test found queue) (sym all)
    (subst (λ found. Lists test (replicate count Served) found) (sym none) (none_marked test Served fails count))

pub invariant_of-queues-clause-frees : goal.invariant_of-queues-clause-frees
invariant_of-queues-clause-frees c = empty is_free _ _ _ refl c.in_ok-all_served.ensures.items c.in_ok-with_capacity.ensures.items

pub invariant_of-queues-clause-quicks : goal.invariant_of-queues-clause-quicks
invariant_of-queues-clause-quicks c = empty is_quick _ _ _ refl c.in_ok-all_served.ensures.items c.in_ok-with_capacity-2.ensures.items

pub invariant_of-queues-clause-slows : goal.invariant_of-queues-clause-slows
invariant_of-queues-clause-slows c = empty is_slow _ _ _ refl c.in_ok-all_served.ensures.items c.in_ok-with_capacity-3.ensures.items
