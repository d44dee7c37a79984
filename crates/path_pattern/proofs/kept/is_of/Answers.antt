-- The octets at the first place are those of the literal.
use Rattle.std.proofs.Common.{◌∙◌, ap, drop, length, slice_index, subst, sym, take}
use Rattle.memchr.proofs.lemmas.MatchLemmas.{OccursAt-part}
use Rattle.path_pattern.specs.Kept.{IsRange}
use Rattle.path_pattern.proofs.kept.is_of.Goals as goal

pub returns-then-stand : goal.returns-then-stand
returns-then-stand c =
    let stand = c.args.stand.now in
    let literal = c.args.literal.now in
    let rest = drop (slice_index c.args.places.now stand.start) c.args.path.now in
    λ is. subst (λ its. IsRange c.args.path.now c.args.places.now its stand.start stand.end)
    (ap (λ count. take count rest) c.if-stand-literal.false ∙ ap (take (length literal)) (sym c.rest_at.ensures) ∙ OccursAt-part c.rest_at.result.now literal 0 (c.begins_with.ensures.0 is))
    (c.requires.kept c.if-stand.true)
