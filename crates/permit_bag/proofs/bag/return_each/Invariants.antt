-- Those that were given back are the last ones.
use Rattle.std.proofs.Common.{◌≡◌, ◌+◌, ◌++◌, List, length, All}
use Rattle.numbered_store.specs.Stores.{kept_in}
use Rattle.permit_bag.specs.Bags.{ReturnsEach}
use Rattle.gate_lock.specs.Desks.{out_of, Pass}
use Rattle.permit_bag.proofs.bag.return_each.Given as goal

abbrev pub invariant-loop-permit : goal.invariant-loop-permit
invariant-loop-permit g l =
    (l.desk.no ≡ l.fn.desk.no)
    × All (λ (p : Pass). p.desk ≡ l.fn.desk.no) (kept_in l.permits)
    × ((done : List Pass) × (kept_in l.fn.permits ≡ kept_in l.permits ++ done)
    × ReturnsEach l.fn.desk done l.desk × (out_of l.desk + length done ≡ out_of l.fn.desk))

abbrev pub decreases-loop-permit : goal.decreases-loop-permit
decreases-loop-permit g l = length (kept_in l.permits)
