-- The earlier groups come first.
use Rattle.std.proofs.Common.{rules, of_calls}
use Rattle.std.specs.Prelude.{nat_lt}
use Rattle.std.proofs.lemmas.Fn.{always_returns_same}
use Rattle.robots_verdict.proofs.OtherHits.{below_falls, group_cut_of}
use Rattle.robots_verdict.proofs.others.count_below.Goals as goal

pub returns : goal.returns
returns c =
    let groups = c.args.groups.now in
    group_cut_of groups c.args.group c.partition_point.result c.partition_point.ensures.bound
    (c.partition_point.ensures.partitioned (λ of. nat_lt of c.args.group) (always_returns_same _ _ _ (λ a r f k. search (rules, of_calls)))
    (below_falls groups c.args.group c.requires))
