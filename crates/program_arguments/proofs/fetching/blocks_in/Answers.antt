-- A further text and its block.
use Rattle.std.proofs.Common.{◌+◌, [], map, take, subst, sym}
use Rattle.program_arguments.specs.Blocks.{AreBlocks}
use Rattle.program_arguments.proofs.BlockLists.{add_next}
use Rattle.program_arguments.proofs.fetching.blocks_in.Goals as goal

pub loop-text-preserved : goal.loop-text-preserved
loop-text-preserved c =
    subst (λ items. AreBlocks (map (λ t. t.now) (take (c.loop-text.text-index + 1) c.args.texts.now)) items)
    (sym c.in-Ok.ensures.items)
    (add_next (λ t. t.now) c.args.texts.now c.loop-text.text-index (record { ref_ptr = (0, 0); now = [] }) c.loop-text.blocks.items c.in-Some.block
    c.loop-text-test.true c.loop-text.invariant c.in-Some.ensures)
