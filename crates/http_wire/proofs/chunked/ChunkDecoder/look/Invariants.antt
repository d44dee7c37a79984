-- The decoder's state agrees with the octets at each step, and each step moves on.
use Rattle.std.proofs.Common.{◌-◌, length}
use Rattle.http_wire.specs.Decoding.{KeepsBounds, Stands}
use Rattle.http_wire.proofs.chunked.ChunkDecoder.look.Given as goal

abbrev pub invariant-loop-look : goal.invariant-loop-look
invariant-loop-look l = record {
  stands : Stands l.self l.bytes;
  bounds : KeepsBounds l.fn.self l.self;
}

abbrev pub decreases-loop-look : goal.decreases-loop-look
decreases-loop-look l = length l.bytes - l.self.at
