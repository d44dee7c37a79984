-- The test decides whether there is no `*`.
use Rattle.path_pattern.proofs.StarLemmas.{found_tells, is_test}
use Rattle.path_pattern.proofs.literals.has_no_star.Goals as goal

pub returns-clause-value : goal.returns-clause-value
returns-clause-value c =
    is_test c.is_none.result c.args.pattern.now
    (found_tells c.args.pattern.now c.star_place.result c.is_none.result c.star_place.ensures c.is_none.ensures)
