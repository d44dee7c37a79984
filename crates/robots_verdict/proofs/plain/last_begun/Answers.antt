-- What the lengths say of the chain.
use Rattle.std.proofs.Common.{◌≡◌, ◌∷◌, ◌-◌, ◌<◌, ◌≤◌, ℕ, List, length, refl, sym, ap, ◌∙◌, subst, arith}
use Rattle.std.specs.Prelude.{Option, Some, None, slice_index}
use Rattle.robots_verdict.specs.Rows.{row_at}
use Rattle.robots_verdict.specs.Search.{common, IsLastBegun, key_at}
use Rattle.robots_verdict.proofs.Chains.{begun, falls_short, found, near_parent, near_top, none_near, none_of_group, reaches}
use Rattle.robots_verdict.proofs.plain.last_begun.Goals as goal

pub returns-then-group : goal.returns-then-group
returns-then-group c =
    none_of_group c.args.rows.now.rows c.args.places.now c.requires.rise c.args.count c.requires.fits c.args.group c.args.path.now c.requires.behind (omega (arith, c.if-count-eq0.false))
    (λ same. c.if-group.true (c.group.ensures ∙ same))

pub loop-last-init : goal.loop-last-init
loop-last-init c =
    near_top c.args.rows.now.rows c.args.places.now c.requires.rise c.args.count c.requires.fits (c.args.group ∷ c.args.path.now) c.requires.behind (omega (arith, c.if-count-eq0.false))

no_parent : (found : Option ℕ) → ((parent : ℕ) → found ≡ Some parent → ⊥) → found ≡ None
no_parent None never = refl
no_parent (Some parent) never = absurd (never parent refl)

pub returns-in_default : goal.returns-in_default
returns-in_default c =
    let rows = c.args.rows.now.rows in
    let places = c.args.places.now in
    let text = c.args.group ∷ c.args.path.now in
    let last = c.loop-last.last in
    let some : 0 < c.args.count = omega (arith, c.if-count-eq0.false) in
    let top = row_at rows (slice_index places (c.args.count - 1)) in
    let same : top.group ≡ c.args.group = sym c.group.ensures ∙ c.if-group.false in
    let is = c.common-common.ensures ∙ ap (λ (t : List ℕ). common t c.args.path.now) c.form.ensures in
    let form = (row_at rows (slice_index places last)).form in
    let short : c.common-common.result < length form = omega (arith, c.loop-last-test.true, ap length c.form-in-loop-last.ensures) in
    let not = begun rows places c.requires.rise c.args.count c.requires.fits text c.requires.behind some last c.loop-last.invariant
    ∙ falls_short top.group c.args.group (length form) c.common-common.result top.form c.args.path.now same is short in
    none_near rows places c.requires.rise c.args.count c.requires.fits text c.requires.behind some last c.loop-last.invariant not
    (subst (IsLastBegun rows places last (key_at rows places last)) (sym c.of.ensures ∙ no_parent _ c.in_default.not-Some) (c.requires.parents last c.loop-last.invariant.within))

pub loop-last-preserved : goal.loop-last-preserved
loop-last-preserved c =
    let rows = c.args.rows.now.rows in
    let places = c.args.places.now in
    let text = c.args.group ∷ c.args.path.now in
    let last = c.loop-last.last in
    let some : 0 < c.args.count = omega (arith, c.if-count-eq0.false) in
    let top = row_at rows (slice_index places (c.args.count - 1)) in
    let same : top.group ≡ c.args.group = sym c.group.ensures ∙ c.if-group.false in
    let is = c.common-common.ensures ∙ ap (λ (t : List ℕ). common t c.args.path.now) c.form.ensures in
    let form = (row_at rows (slice_index places last)).form in
    let short : c.common-common.result < length form = omega (arith, c.loop-last-test.true, ap length c.form-in-loop-last.ensures) in
    let not = begun rows places c.requires.rise c.args.count c.requires.fits text c.requires.behind some last c.loop-last.invariant
    ∙ falls_short top.group c.args.group (length form) c.common-common.result top.form c.args.path.now same is short in
    near_parent rows places c.requires.rise c.args.count c.requires.fits text c.requires.behind some last c.loop-last.invariant c.in-Some.parent not
    (subst (IsLastBegun rows places last (key_at rows places last)) (sym c.of.ensures ∙ c.in-Some.is) (c.requires.parents last c.loop-last.invariant.within))

pub returns : goal.returns
returns c =
    let rows = c.args.rows.now.rows in
    let places = c.args.places.now in
    let text = c.args.group ∷ c.args.path.now in
    let last = c.loop-last.last in
    let some : 0 < c.args.count = omega (arith, c.if-count-eq0.false) in
    let top = row_at rows (slice_index places (c.args.count - 1)) in
    let same : top.group ≡ c.args.group = sym c.group.ensures ∙ c.if-group.false in
    let is = c.common-common.ensures ∙ ap (λ (t : List ℕ). common t c.args.path.now) c.form.ensures in
    let form = (row_at rows (slice_index places last)).form in
    let len : length form ≤ c.common-common.result = omega (arith, c.loop-last-test.false, ap length c.form-in-loop-last.ensures) in
    found rows places c.requires.rise c.args.count c.requires.fits text c.requires.behind some last c.loop-last.invariant
    (begun rows places c.requires.rise c.args.count c.requires.fits text c.requires.behind some last c.loop-last.invariant
    ∙ reaches top.group c.args.group (length form) c.common-common.result top.form c.args.path.now same is len)
