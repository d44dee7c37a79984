-- The text so far, and then the octets of the rest.
use Rattle.std.proofs.Common.{◌≡◌, ◌++◌, length}
use Rattle.http_front.specs.ProxyStatus.{quoted}
use Rattle.http_front.proofs.proxy_status.push_quoted.Given as goal

abbrev pub invariant-loop-rest : goal.invariant-loop-rest
invariant-loop-rest l = l.text.items ++ quoted l.rest ≡ l.fn.text.items ++ quoted l.fn.octets

abbrev pub decreases-loop-rest : goal.decreases-loop-rest
decreases-loop-rest l = length l.rest
