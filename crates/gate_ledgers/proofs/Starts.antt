-- The started fetches among marks, with one mark more.
-- Used by `Account`.
use Rattle.std.proofs.Common.{◌≡◌, ◌+◌, List, [], ◌∷◌, ◌++◌, arith}
use Rattle.std.specs.Prelude.{if◌then◌else◌}
use Rattle.gate_marks.specs.declared.mark.Mark.{Mark}
use Rattle.gate_history.specs.History.{is_start}
use Rattle.gate_marks.specs.Marks.{starts_in}

pub starts_in_push : (ms : List Mark) (m : Mark) → starts_in (ms ++ m ∷ []) ≡ starts_in ms + (if is_start m.entry then 1 else 0)
starts_in_push [] m = omega arith
starts_in_push (x ∷ ms) m = let e = starts_in_push ms m in omega (arith, e)
