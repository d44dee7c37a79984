-- Keys of short patterns hold all of them.
use Rattle.std.proofs.Common.{◌∙◌, arith}
use Rattle.std.specs.Ordering.{nat_cmp}
use Rattle.std.specs.Cmp.Lexicographic.{slice_cmp}
use Rattle.robots_verdict.proofs.Keyed.{equal_long, equal_short, unequal_cuts}
use Rattle.robots_verdict.proofs.keys.compare_alike.Goals as goal

pub returns-then-one-other : goal.returns-then-one-other
returns-then-one-other c = c.cmp.ensures ∙ unequal_cuts c.args.rows.now.rows c.args.one.now c.args.other.now c.if-one-other.true

pub returns-then-one-gt16 : goal.returns-then-one-gt16
returns-then-one-gt16 c =
    c.compare_texts.ensures ∙ (λ i. slice_cmp nat_cmp (c.form.ensures i) (c.form-then-one-gt16.ensures i))
    ∙ equal_long c.args.rows.now.rows c.args.one.now c.args.other.now c.if-one-other.false c.if-one-gt16.true

pub returns-else-one-gt16 : goal.returns-else-one-gt16
returns-else-one-gt16 c =
    equal_short c.args.rows.now.rows c.args.one.now c.args.other.now c.if-one-other.false (omega (arith, c.if-one-gt16.false))
