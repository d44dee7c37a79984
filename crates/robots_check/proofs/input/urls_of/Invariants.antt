-- The URLs so far, with those of the remaining lines, are all URLs.
use Rattle.std.proofs.Common.{◌++◌, ℕ, List, length, map}
use Rattle.robots_check.specs.Input.{AreUrlLines}
use Rattle.robots_check.proofs.input.urls_of.Given as goal

abbrev pub invariant-loop-left : goal.invariant-loop-left
invariant-loop-left l =
    (more : List (List ℕ)) → AreUrlLines l.left more → AreUrlLines l.initial.left (map (λ url. url.now) l.urls.items ++ more)

abbrev pub decreases-loop-left : goal.decreases-loop-left
decreases-loop-left l = length l.left
