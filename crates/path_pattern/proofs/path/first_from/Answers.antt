-- The first occurrence in a suffix is the first from there on.
use Rattle.std.proofs.Common.{subst, sym}
use Rattle.std.specs.Prelude.{None, Some}
use Rattle.std.proofs.lemmas.List.{take_rest}
use Rattle.memchr.specs.Find.{FindsNeedle}
use Rattle.path_pattern.proofs.PlaceLemmas.{from_first, from_nowhere}
use Rattle.path_pattern.proofs.path.first_from.Goals as goal

pub returns-in_err-place : goal.returns-in_err-place
returns-in_err-place c =
    subst (FindsNeedle c.args.path.now c.args.literal.now c.args.from) (sym c.from_residual.ensures)
    (from_nowhere c.args.path.now c.args.literal.now c.args.from c.requires (subst (λ part. FindsNeedle part c.args.literal.now 0 None) (take_rest c.args.path.now c.args.from) c.in_err-place.ensures))

pub returns : goal.returns
returns c = from_first c.args.path.now c.args.literal.now c.args.from c.in_ok-place.place c.requires (subst (λ part. FindsNeedle part c.args.literal.now 0 (Some c.in_ok-place.place)) (take_rest c.args.path.now c.args.from) c.in_ok-place.ensures)
