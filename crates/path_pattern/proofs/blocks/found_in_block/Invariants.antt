-- A lane is left exactly where the octets seen are, and there is one.
use Rattle.std.proofs.Common.{◌+◌, ◌-◌, length}
use Rattle.path_pattern.specs.Blocks.{IsNoneLeft}
use Rattle.path_pattern.proofs.BlockLemmas.{IsLeft}
use Rattle.path_pattern.proofs.blocks.found_in_block.Given as goal

abbrev pub invariant-loop-seen : goal.invariant-loop-seen
invariant-loop-seen l = IsLeft l.path l.literal l.start l.seen l.left × ¬ (IsNoneLeft l.left)

abbrev pub decreases-loop-seen : goal.decreases-loop-seen
decreases-loop-seen l = length l.literal + 2 - l.seen
