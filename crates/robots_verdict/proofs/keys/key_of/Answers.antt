-- The halves make the number that the first sixteen octets spell.
use Rattle.std.proofs.Common.{◌+◌, ◌*◌, ◌^◌, arith, sym, ap, ◌∙◌}
use Rattle.path_pattern.specs.Texts.{spelled_number}
use Rattle.path_pattern.proofs.CallerLemmas.{halves}
use Rattle.robots_verdict.proofs.keys.key_of.Goals as goal

pub returns-clause-spelled : goal.returns-clause-spelled
returns-clause-spelled c =
    (λ i. c.front.ensures i * 2 ^ 64 + (c.front-2.ensures ∙ ap (spelled_number 8 0) c.behind_eight.ensures) i)
    ∙ sym (halves c.args.form.now)

pub returns-clause-octets : goal.returns-clause-octets
returns-clause-octets c = λ i. omega (arith, c.type_inv.form i)
