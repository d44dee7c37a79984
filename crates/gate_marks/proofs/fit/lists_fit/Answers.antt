-- The places of lists that fit ascend.
use Rattle.std.proofs.Common.{map, rules}
use Rattle.gate_marks.proofs.Merging.{fit_ascends}
use Rattle.gate_marks.proofs.fit.lists_fit.Goals as goal

pub each_once-requires : goal.each_once-requires
each_once-requires g c = fit_ascends c.args.sealed c.args.history.now (map g.T.MarkList.receipt c.args.all.now) (search rules)
