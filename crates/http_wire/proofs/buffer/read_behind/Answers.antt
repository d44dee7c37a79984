-- What a read into the room leaves.
use Rattle.std.proofs.Common.{arith}
use Rattle.http_wire.proofs.Filling.{read_filled}
use Rattle.http_wire.proofs.buffer.read_behind.Goals as goal

pub returns-clause-ok : goal.returns-clause-ok
returns-clause-ok g c =
    read_filled c.read.result _ _ c.args.end c.args.room.now c.read.new.buffer _ (omega (arith, c.requires)) c.read.ensures.bound c.read.ensures.bytes
