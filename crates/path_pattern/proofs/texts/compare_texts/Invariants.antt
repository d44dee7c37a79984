-- The rests compare as the whole texts.
use Rattle.std.proofs.Common.{◌≡◌}
use Rattle.std.specs.Ordering.{nat_cmp}
use Rattle.std.specs.Cmp.Lexicographic.{slice_cmp}
use Rattle.path_pattern.specs.Texts.{AreOctets}
use Rattle.path_pattern.proofs.texts.compare_texts.Given as goal

abbrev pub invariant-loop : goal.invariant-loop
invariant-loop l = (slice_cmp nat_cmp l.left l.right ≡ slice_cmp nat_cmp l.one l.other) × AreOctets l.left × AreOctets l.right
