-- The suffix test, by what precedes it.
use Rattle.path_pattern.proofs.PlaceLemmas.{at_end, ended}
use Rattle.path_pattern.proofs.literals.ends_with.Goals as goal

pub returns : goal.returns
returns c = (
  λ is. let stands = c.is_suffix.ensures.0 is in ended c.args.path.now c.args.literal.now stands.0 stands.1,
  λ stands. c.is_suffix.ensures.1 (at_end c.args.path.now c.args.literal.now stands.0 stands.1),
)
