-- A literal occurs only where its first octets do.
use Rattle.std.proofs.Common.{arith}
use Rattle.path_pattern.proofs.SortedLemmas.{among_first}
use Rattle.path_pattern.proofs.kept.range_found.Goals as goal

pub range_among-requires-clause-among : goal.range_among-requires-clause-among
range_among-requires-clause-among c =
    among_first c.args.path.now c.args.places.now c.args.literal.now 16 c.in-Some.low c.in-Some.high (omega (arith, c.if-literal-le-SPELLED.false)) c.in-Some.ensures

pub range_among-requires-2-clause-among : goal.range_among-requires-2-clause-among
range_among-requires-2-clause-among c =
    let range = c.range_of-low.result in
    among_first c.args.path.now c.args.places.now c.args.literal.now 16 range.0 range.1 (omega (arith, c.if-literal-le-SPELLED.false)) c.range_of-low.ensures
