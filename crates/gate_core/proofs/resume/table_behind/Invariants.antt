-- The table is behind the grants so far.
use Rattle.std.proofs.Common.{take}
use Rattle.gate_core.specs.Resuming.{IsBehind}
use Rattle.gate_core.proofs.resume.table_behind.Given as goal

abbrev pub invariant-loop-place : goal.invariant-loop-place
invariant-loop-place l = IsBehind l.fn.limits (take l.place l.grants) l.permits
