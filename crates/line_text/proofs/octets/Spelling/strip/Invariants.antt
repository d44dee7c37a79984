-- The octets so far precede the rest.
use Rattle.std.proofs.Common.{◌≡◌, ◌++◌, take, flat_map}
use Rattle.line_text.specs.Escapes.{spelled_octet}
use Rattle.line_text.proofs.octets.Spelling.strip.Given as goal

abbrev pub invariant-loop-octet : goal.invariant-loop-octet
invariant-loop-octet l = l.initial.rest ≡ flat_map (spelled_octet l.fn.self) (take l.octet-index l.octets) ++ l.rest
