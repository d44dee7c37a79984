-- A lane is left at the places of both octets.
use Rattle.std.proofs.Common.{refl}
use Rattle.path_pattern.proofs.BlockLemmas.{left_of_two}
use Rattle.path_pattern.proofs.blocks.two_left.Goals as goal

pub returns : goal.returns
returns c =
    left_of_two c.args.path.now c.args.literal.now c.args.start c.args.one c.args.other _ _ c.args.lanes c.octet_left-first.result _ refl refl c.octet_left-first.ensures c.octet_left.ensures
