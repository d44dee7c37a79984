-- Those that were finished are the last ones.
use Rattle.std.proofs.Common.{◌≡◌, ◌+◌, ◌++◌, List, length, All}
use Rattle.numbered_store.specs.Stores.{kept_in}
use Rattle.permit_bag.specs.Bags.{FinishesEach}
use Rattle.gate_lock.specs.Desks.{out_of, Run}
use Rattle.permit_bag.proofs.bag.finish_each.Given as goal

abbrev pub invariant-loop-run : goal.invariant-loop-run
invariant-loop-run g l =
    (l.desk.no ≡ l.fn.desk.no)
    × All (λ (r : Run). r.pass.desk ≡ l.fn.desk.no) (kept_in l.runs)
    × ((done : List Run) × (kept_in l.fn.runs ≡ kept_in l.runs ++ done)
    × FinishesEach l.fn.desk done l.desk × (out_of l.desk + length done ≡ out_of l.fn.desk))

abbrev pub decreases-loop-run : goal.decreases-loop-run
decreases-loop-run g l = length (kept_in l.runs)
