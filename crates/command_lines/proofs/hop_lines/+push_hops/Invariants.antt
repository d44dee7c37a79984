-- One hop less is left at each step.
use Rattle.std.proofs.Common.{length}
use Rattle.command_lines.proofs.hop_lines.+push_hops.Given as goal

abbrev pub decreases-push_hops : goal.decreases-push_hops
decreases-push_hops g l = length l.hops.now
