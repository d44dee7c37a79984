-- A row's weight is its rule line's.
use Rattle.robots_verdict.specs.Weights.{is_above}
use Rattle.robots_check.proofs.Choosing.{weighs_as}
use Rattle.robots_check.proofs.laws.rows_rank_as_weights.Goals as goal

pub returns : goal.returns
returns c path one other row beside is is' i = is_above (weighs_as path one row is i) (weighs_as path other beside is' i)
