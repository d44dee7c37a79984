-- The pieces so far are in the room, in a row.
use Rattle.std.proofs.Common.{◌≡◌, ◌≤◌, length, take}
use Rattle.http_wire.specs.Request.{joined_pieces}
use Rattle.http_wire.proofs.request.gather.Given as goal

abbrev pub invariant-loop-piece : goal.invariant-loop-piece
invariant-loop-piece l = record {
  gathered : take l.end l.room ≡ joined_pieces (take l.piece-index l.pieces);
  fits : l.end ≤ length l.room;
}
