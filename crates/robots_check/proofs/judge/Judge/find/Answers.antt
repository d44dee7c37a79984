-- The verdict says what is found.
use Rattle.robots_check.proofs.judge.Judge.find.Goals as goal

pub find_by-requires-clause-said : goal.find_by-requires-clause-said
find_by-requires-clause-said c = (c.args.path.now, c.verdict-verdict.ensures)

pub returns : goal.returns
returns c = c.find_by.ensures c.args.path.now c.verdict-verdict.ensures
