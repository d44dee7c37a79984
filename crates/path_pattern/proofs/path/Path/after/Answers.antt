-- What follows the first place of the literal.
use Rattle.std.proofs.Common.{◌≡◌, ◌+◌, ◌-◌, ◌≤◌, ap, arith, drop, length, subst, sym}
use Rattle.std.specs.Prelude.{MatchOption}
use Rattle.path_pattern.specs.Literals.{IsAfterFirst, StandsNowhere}
use Rattle.path_pattern.proofs.PlaceLemmas.{after_from, nowhere_after}
use Rattle.path_pattern.proofs.path.Path.after.Goals as goal

pub returns-in_err-place-clause-found : goal.returns-in_err-place-clause-found
returns-in_err-place-clause-found c =
    let path = c.args.self.now in
    let literal = c.args.literal.now in
    subst (λ found. MatchOption found (StandsNowhere (drop c.args.from path) literal) (λ next. (next ≤ length path) × IsAfterFirst (drop c.args.from path) literal (drop next path))) (sym c.from_residual.ensures)
    (nowhere_after path literal c.args.from c.requires c.in_err-place.ensures.finds)

pub returns-clause-found : goal.returns-clause-found
returns-clause-found c =
    let path = c.args.self.now in
    let literal = c.args.literal.now in
    let place = c.in_ok-place.place in
    let count = length c.octets-count.result.now in
    let fits = c.in_ok-place.ensures.finds.1.fits in
    let is : count - (count - place - length literal) ≡ place + length literal = omega (arith, ap length c.octets-count.ensures, fits) in
    (omega (arith, is, fits), subst (λ next. IsAfterFirst (drop c.args.from path) literal (drop next path)) (sym is) (after_from path literal c.args.from place c.requires c.in_ok-place.ensures.finds))
