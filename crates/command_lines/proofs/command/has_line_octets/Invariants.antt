-- What is true of the octets so far.
use Rattle.std.proofs.Common.{◌≡◌, take}
use Rattle.std.specs.List.{list_all}
use Rattle.command_lines.specs.CallOf.{is_line_octet}
use Rattle.command_lines.proofs.command.has_line_octets.Given as goal

abbrev pub invariant-loop-octet : goal.invariant-loop-octet
invariant-loop-octet l = l.has ≡ list_all is_line_octet (take l.octet-index l.line)
