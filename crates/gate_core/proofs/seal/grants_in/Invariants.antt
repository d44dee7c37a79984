-- The list has what was granted in the slots so far.
use Rattle.std.proofs.Common.{◌≡◌, take}
use Rattle.gate_core.proofs.ListedGrants.{grants_from}
use Rattle.gate_core.proofs.seal.grants_in.Given as goal

abbrev pub invariant-loop-place : goal.invariant-loop-place
invariant-loop-place l = l.grants.items ≡ grants_from 0 (take l.place l.permits.slots)
