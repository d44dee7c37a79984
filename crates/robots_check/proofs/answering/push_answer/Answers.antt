-- If memory runs out nothing was written.
-- Used by `push_answer`.
use Rattle.std.proofs.Common.{inr, refl}
use Rattle.robots_check.proofs.Passing.{cut_none}
use Rattle.robots_check.proofs.answering.push_answer.Goals as goal

pub returns-in-Err : goal.returns-in-Err
returns-in-Err g c = record {
  passes = tt;
  cut = cut_none _ _ _ _ _ _;
  faults = inr refl;
  count = refl;
}
