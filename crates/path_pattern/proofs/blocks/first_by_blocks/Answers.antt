-- A block's place is the first if no earlier block has one.
use Rattle.std.proofs.Common.{◌-◌, length, subst, sym, arith}
use Rattle.memchr.proofs.lemmas.FindLemmas.{Nowhere-then}
use Rattle.path_pattern.specs.Blocks.{IsWithin}
use Rattle.path_pattern.proofs.BlockLemmas.{first_of_blocks, nowhere_before, nowhere_in_blocks}
use Rattle.path_pattern.proofs.blocks.first_by_blocks.Goals.{in-Nowhere, in-Nearly}
use Rattle.path_pattern.proofs.blocks.first_by_blocks.Goals as goal

pub returns-in-At : goal.returns-in-At
returns-in-At c =
    let kept = c.loop-start.invariant in
    first_of_blocks c.args.path.now c.args.literal.now c.args.from c.loop-start.start kept.0 _ _ kept.2 c.in-At.ensures.0 c.in-At.ensures.1

pub loop-start-preserved : goal.loop-start-preserved
loop-start-preserved c =
    let kept = c.loop-start.invariant in
    elim c.match-found_in_block.branch [
      | in-Nowhere w ↦ (Nowhere-then kept.0 w.in-Nowhere.ensures, subst (λ telling. IsWithin telling c.args.literal.now) (sym w.telling-is) kept.1, omega (arith, kept.2))
      | in-Nearly w ↦ (Nowhere-then kept.0 w.in-Nearly.ensures.0, subst (λ telling. IsWithin telling c.args.literal.now) (sym w.telling-is) w.in-Nearly.ensures.1, omega (arith, kept.2))
    ]

pub returns-in-At-found_in_block : goal.returns-in-At-found_in_block
returns-in-At-found_in_block c =
    let path = c.args.path.now in
    let literal = c.args.literal.now in
    let last = length path - length literal - 63 in
    let none = nowhere_before path literal c.args.from c.loop-start.start c.loop-start.invariant.0 last (omega arith) in
    first_of_blocks path literal c.args.from last none _ _ (omega (arith, c.requires.room)) c.in-At-found_in_block.ensures.0 c.in-At-found_in_block.ensures.1

pub returns-in-Nowhere-found_in_block : goal.returns-in-Nowhere-found_in_block
returns-in-Nowhere-found_in_block c =
    let path = c.args.path.now in
    let literal = c.args.literal.now in
    let last = length path - length literal - 63 in
    nowhere_in_blocks path literal c.args.from c.loop-start.start c.loop-start.invariant.0 last (omega (arith, c.requires.room)) (omega arith) c.in-Nowhere-found_in_block.ensures

pub returns-in-Nearly-found_in_block : goal.returns-in-Nearly-found_in_block
returns-in-Nearly-found_in_block c =
    let path = c.args.path.now in
    let literal = c.args.literal.now in
    let last = length path - length literal - 63 in
    nowhere_in_blocks path literal c.args.from c.loop-start.start c.loop-start.invariant.0 last (omega (arith, c.requires.room)) (omega arith) c.in-Nearly-found_in_block.ensures.0
