-- The finder is after interim heads, each of which moves it on.
use Rattle.std.proofs.Common.{◌-◌}
use Rattle.http_wire.specs.Finding.{Passes}
use Rattle.http_wire.specs.Limits.{max_interim_heads}
use Rattle.http_wire.proofs.head.HeadFinder.find.Given as goal

abbrev pub invariant-loop-head : goal.invariant-loop-head
invariant-loop-head l = Passes l.self l.bytes

abbrev pub decreases-loop-head : goal.decreases-loop-head
decreases-loop-head l = max_interim_heads - l.self.passed
