-- The blocks of the texts so far.
use Rattle.std.proofs.Common.{map, take}
use Rattle.program_arguments.specs.Blocks.{AreBlocks}
use Rattle.program_arguments.proofs.fetching.blocks_in.Given as goal

abbrev pub invariant-loop-text : goal.invariant-loop-text
invariant-loop-text l = AreBlocks (map (λ text. text.now) (take l.text-index l.texts)) l.blocks.items
