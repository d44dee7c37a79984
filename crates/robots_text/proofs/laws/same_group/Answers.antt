-- The law on the numbers of groups.
use Rattle.std.proofs.Common.{true, arith}
use Rattle.robots_text.specs.Records.{records_of}
use Rattle.robots_text.proofs.GroupLaws.{group_governs}
use Rattle.robots_text.proofs.laws.same_group.Goals as goal

pub returns : goal.returns
returns c = λ text head line. group_governs 0 true 1 (records_of text) (omega arith) head line
