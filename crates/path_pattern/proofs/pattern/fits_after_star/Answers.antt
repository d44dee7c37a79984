-- Each literal is taken at its first place.
use Rattle.std.proofs.Common.{◌∙◌, ◌≤◌, drop, length, refl, subst, sym}
use Rattle.std.proofs.lemmas.Bool.{true≢false}
use Rattle.path_pattern.specs.Literals.{IsAfterFirst, StandsNowhere}
use Rattle.path_pattern.proofs.SpellsLemmas.{off_first, off_nowhere, on_first}
use Rattle.path_pattern.proofs.pattern.fits_after_star.Goals as goal

pub loop-literal-init : goal.loop-literal-init
loop-literal-init c = (refl, c.requires, (λ spells. spells, λ spells. spells))

pub returns-in_default-after-clause-tells : goal.returns-in_default-after-clause-tells
returns-in_default-after-clause-tells c =
    let literal = c.in-Some.literal.now in
    let place = c.loop-literal.place in
    let nowhere = subst (λ path. StandsNowhere (drop place path) literal) c.loop-literal.invariant.0 c.in_default-after.ensures.found in (
      λ no. absurd (true≢false (sym no)),
      λ spells. absurd (off_nowhere c.loop-literal.left.now literal c.in-Some.after.now c.args.anchored (drop place c.args.path.now) c.in-Some.ensures nowhere (c.loop-literal.invariant.2.1 spells)),
    )

pub loop-literal-preserved : goal.loop-literal-preserved
loop-literal-preserved c =
    let literal = c.in-Some.literal.now in
    let after = c.in-Some.after.now in
    let place = c.loop-literal.place in
    let next = c.in-Some-after.next in
    let path = c.args.path.now in
    let split = c.in-Some.ensures in
    let found = subst (λ them. (next ≤ length them) × IsAfterFirst (drop place them) literal (drop next them)) c.loop-literal.invariant.0 c.in-Some-after.ensures.found in (
      c.after.ensures.stays ∙ c.loop-literal.invariant.0,
      found.0,
      (
        λ spells. c.loop-literal.invariant.2.0 (on_first c.loop-literal.left.now literal after c.args.anchored (drop place path) (drop next path) split found.1 spells),
        λ spells. off_first c.loop-literal.left.now literal after c.args.anchored (drop place path) (drop next path) split found.1 (c.loop-literal.invariant.2.1 spells),
      ),
    )
