-- The stand in one slot moves to the other, and the literal takes its slot.
use Rattle.std.proofs.Common.{slice_index_or, slice_set}
use Rattle.std.proofs.lemmas.List.Elements.{All-set}
use Rattle.path_pattern.specs.declared.kept.Stand.{Stand}
use Rattle.path_pattern.specs.Kept.{IsKept}
use Rattle.path_pattern.proofs.kept.keep.Goals as goal

pub returns : goal.returns
returns c =
    let stands = c.args.stands.now in
    let one = c.args.slots.0 in
    let other = c.args.slots.1 in
    let none : Stand = record { count = 0; start = 0; end = 0 } in
    let first = slice_index_or stands one none in
    All-set (IsKept c.args.path.now c.args.places.now) (slice_set stands other first) one c.stand_of.result c.stand_of.ensures
    (All-set (IsKept c.args.path.now c.args.places.now) stands other first (c.requires.kept one none c.if-one-stands.false) c.requires.kept)
