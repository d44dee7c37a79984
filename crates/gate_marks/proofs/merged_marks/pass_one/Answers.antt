-- One list lost the place, or none begins with it.
use Rattle.std.proofs.Common.{◌+◌, ℕ, List, length, take, subst, rules, arith, sym, ap, ◌∙◌}
use Rattle.std.specs.Prelude.{slice_set}
use Rattle.gate_marks.specs.Places.{IsNextOfNone, Passes}
use Rattle.gate_marks.proofs.Merging.{none_more, passes_at, same_at}
use Rattle.gate_marks.proofs.merged_marks.pass_one.Goals as goal

pub returns-then-pass-clause-yes : goal.returns-then-pass-clause-yes
returns-then-pass-clause-yes c = λ _.
    subst (λ (lists : List (List ℕ)). Passes c.args.place lists (slice_set c.loop-index.left c.loop-index.index c.pass.new.self)) c.loop-index.invariant.0
    (passes_at c.loop-index.left c.loop-index.index c.index-left-index.result c.pass.new.self c.args.place c.loop-index-test.true (c.pass.ensures.yes (search rules)))

pub loop-index-preserved : goal.loop-index-preserved
loop-index-preserved c =
    let stays = c.pass.ensures.no (search rules) in
    let same = same_at c.loop-index.left c.loop-index.index c.index-left-index.result c.pass.new.self c.loop-index-test.true stays.0 in
    let less = c.loop-index-test.true in
    let count = ap length same in (
      same ∙ c.loop-index.invariant.0,
      omega (arith, less, count),
      subst (λ (lists : List (List ℕ)). IsNextOfNone c.args.place (take (c.loop-index.index + 1) lists)) (sym same)
          (none_more c.args.place c.loop-index.left c.loop-index.index c.index-left-index.result less stays.1 c.loop-index.invariant.2),
    )
