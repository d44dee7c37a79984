-- At the end the URLs so far are those of all lines.
-- Used by `urls_of`.
use Rattle.std.proofs.Common.{map, [], append-nil, subst, arith}
use Rattle.std.proofs.lemmas.Bool.Decides.{nat_tests}
use Rattle.std.proofs.lemmas.List.{nil_from_length}
use Rattle.robots_check.specs.Input.{AreUrlLines}
use Rattle.robots_check.proofs.input.urls_of.Goals as goal

pub returns : goal.returns
returns c =
    let ended = c.loop-left-test.ensures {u = tt} in
    subst (AreUrlLines c.args.lines.now) (append-nil (map (λ url. url.now) c.loop-left.urls.items))
    (c.loop-left.invariant [] (nil_from_length c.loop-left.left.now (grind (arith, nat_tests, ended))))
