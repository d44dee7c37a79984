-- The law on verdicts.
use Rattle.robots_verdict.proofs.OneVerdict.{one}
use Rattle.robots_verdict.proofs.laws.one_verdict.Goals as goal

pub returns : goal.returns
returns c = one
