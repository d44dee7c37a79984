-- The literal is not before the block, and the telling octets are its own.
use Rattle.std.proofs.Common.{◌-◌, ◌≤◌}
use Rattle.memchr.specs.Find.{Nowhere, OccursAt}
use Rattle.path_pattern.specs.Blocks.{IsWithin}
use Rattle.path_pattern.proofs.blocks.first_by_blocks.Given as goal

abbrev pub invariant-loop-start : goal.invariant-loop-start
invariant-loop-start l =
    Nowhere (OccursAt l.path l.literal) l.from l.start × IsWithin l.telling l.literal × (l.from ≤ l.start)

abbrev pub decreases-loop-start : goal.decreases-loop-start
decreases-loop-start l = l.last - l.start
