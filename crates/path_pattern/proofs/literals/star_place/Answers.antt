-- The first wildcard is near, or the first of the rest.
use Rattle.std.proofs.Common.{arith, sym, subst}
use Rattle.std.proofs.lemmas.List.{take_rest}
use Rattle.memchr.specs.Find.{IsFirstByte, is_byte}
use Rattle.path_normal.specs.Octets.{star}
use Rattle.path_pattern.proofs.StarLemmas.{later_star, no_later_star}
use Rattle.path_pattern.proofs.literals.star_place.Goals as goal

pub returns-in_err-place : goal.returns-in_err-place
returns-in_err-place c =
    let pattern = c.args.pattern.now in
    subst (IsFirstByte (is_byte star) pattern) (sym c.from_residual.ensures)
    (no_later_star pattern _ c.min-near.result c.loop-index.index (take_rest pattern c.min-near.result) (omega (arith, c.min-near.ensures)) (omega (arith, c.loop-index-test.false)) c.loop-index.invariant c.in_err-place.ensures)

pub returns : goal.returns
returns c =
    let pattern = c.args.pattern.now in
    later_star pattern _ c.min-near.result c.loop-index.index (take_rest pattern c.min-near.result) (omega (arith, c.min-near.ensures)) (omega (arith, c.loop-index-test.false)) c.loop-index.invariant c.in_ok-place.place c.in_ok-place.ensures
