-- The permit at the spot is in the bag and has the number sought.
use Rattle.std.proofs.Common.{◌≡◌, ◌==◌, ◌&&◌, Bool, true, refl, sym, subst, IfSome}
use Rattle.std.specs.List.{list_any}
use Rattle.std.specs.Str.{bytes_eq}
use Rattle.std.proofs.lemmas.Bool.{and_parts}
use Rattle.std.proofs.lemmas.Slice.Eq.{bytes_eq-Decides}
use Rattle.gate_lock.specs.Desks.{Pass}
use Rattle.numbered_store.proofs.CallerLemmas.{kept_passes}
use Rattle.permit_bag.proofs.bag.Bag.url_of.Goals as goal

pub returns-in-Some-at : goal.returns-in-Some-at
returns-in-Some-at g c =
    let permit : Pass = c.in-Some-at.permit.now in
    let at = sym (c.in-Some-at.ensures {u = tt}) in
    let sought = subst (λ o. IfSome o (λ (p : Pass). ((p.number == c.number.result) && true) ≡ true)) at c.in-Some.ensures.some in
    let number = subst (λ n. (permit.number == n) ≡ true) c.number.ensures (and_parts (permit.number == c.number.result) true sought).0 in
    let url = (bytes_eq-Decides permit.url c.url.result.now).1 (sym c.url.ensures) in
    let test : Pass → Bool = λ p. (p.number == c.args.number) && bytes_eq p.url c.url.result.now in
    subst (λ b. list_any test b.permits ≡ true) c.self.view_is (kept_passes test c.self.inside.permits c.in-Some.spot permit at (rw (number, url) refl))
