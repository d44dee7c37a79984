-- The octets taken, and those allowed yet, stay within the limit.
use Rattle.std.proofs.Common.{◌≤◌, ◌-◌}
use Rattle.client_connections.specs.Closing.{closing_octets, TakesAtMost}
use Rattle.client_connections.proofs.closing.read_out.Given as goal

abbrev pub invariant-loop : goal.invariant-loop
invariant-loop g l =
    TakesAtMost (closing_octets - l.left) (g.S.Read.remaining l.initial.stream) (g.S.Read.remaining l.stream)
    × (l.left ≤ closing_octets)
