-- The remaining pattern matches the remaining path exactly if the whole matches.
use Rattle.std.proofs.Common.{◌≡◌, ◌↔◌, ◌≤◌, ◌∷◌, drop, length}
use Rattle.path_pattern.specs.Matches.{Spells}
use Rattle.path_pattern.proofs.pattern.fits_after_star.Given as goal
use Rattle.path_normal.specs.Octets.{star}

abbrev pub invariant-loop-literal : goal.invariant-loop-literal
invariant-loop-literal l =
    (l.path ≡ l.fn.path)
    × (l.place ≤ length l.fn.path)
    × (Spells (star ∷ l.left) l.anchored (drop l.place l.fn.path) ↔ Spells (star ∷ l.fn.pattern) l.anchored (drop l.from l.fn.path))

abbrev pub decreases-loop-literal : goal.decreases-loop-literal
decreases-loop-literal l = length l.left
