-- The last literal matches anywhere, or at the end if anchored.
use Rattle.std.proofs.Common.{◌≡◌, ◌↔◌, ◌++◌, ◌∙◌, ℕ, List, IsTrue, ap, drop, subst, sym}
use Rattle.std.proofs.lemmas.List.{take_rest}
use Rattle.path_pattern.proofs.SpellsLemmas.{last_ended, last_from}
use Rattle.path_pattern.proofs.pattern.fits_last.Goals as goal

pub returns-then-anchored-clause-tells : goal.returns-then-anchored-clause-tells
returns-then-anchored-clause-tells c =
    let literal = c.args.literal.now in
    let from = c.args.from in
    last_ended literal c.args.anchored c.ends_with.result (drop from c.args.path.now) c.requires.plain c.if-anchored.true
    (subst (λ rest. IsTrue c.ends_with.result ↔ ((front : List ℕ) × (rest ≡ front ++ literal))) (take_rest c.octets.result.now from ∙ ap (drop from) c.octets.ensures) c.ends_with.ensures)

pub returns-else-anchored-clause-tells : goal.returns-else-anchored-clause-tells
returns-else-anchored-clause-tells c =
    let last = last_from c.args.literal.now c.args.anchored c.args.path.now c.args.from c.after.result c.requires.plain c.if-anchored.false c.after.ensures.found in
    (λ yes. last.0 (sym c.is_some.ensures ∙ yes), λ spells. c.is_some.ensures ∙ last.1 spells)
