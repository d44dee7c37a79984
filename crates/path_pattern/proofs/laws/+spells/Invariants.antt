-- The pattern or the path gets shorter.
use Rattle.std.proofs.Common.{◌+◌, length}
use Rattle.path_pattern.proofs.laws.+spells.Given as goal

abbrev pub decreases-spells : goal.decreases-spells
decreases-spells l = length l.pattern.now + length l.path.now
