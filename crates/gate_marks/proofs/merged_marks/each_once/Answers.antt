-- The single places ascend, as all do.
use Rattle.std.proofs.Common.{map, sym, subst, rules}
use Rattle.gate_marks.specs.Places.{AllAscend}
use Rattle.gate_marks.proofs.Ranging.{kept_ascend}
use Rattle.gate_marks.proofs.merged_marks.each_once.Goals as goal

pub merge-requires : goal.merge-requires
merge-requires g c = subst AllAscend (sym (search rules)) (kept_ascend (map g.T.MarkList.receipt c.args.all.now) c.requires)
