-- The pieces so far precede the rest.
use Rattle.std.proofs.Common.{◌≡◌, ◌++◌, take, flat_map}
use Rattle.line_text.specs.Pieces.{piece_text}
use Rattle.line_text.proofs.pieces.is_row.Given as goal

abbrev pub invariant-loop-piece : goal.invariant-loop-piece
invariant-loop-piece l = l.initial.rest ≡ flat_map piece_text (take l.piece-index l.pieces) ++ l.rest
