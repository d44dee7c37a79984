-- A wildcard stands for no octet, or for the path's first octet and more.
use Rattle.std.proofs.Common.{rules, ◌≡◌, ◌∷◌, ◌∙◌, true, false, not, ap}
use Rattle.path_pattern.proofs.SpellsLemmas.{cuts_at_end, cuts_here, cuts_later, cuts_none_ended, cuts_none_open}
use Rattle.path_pattern.proofs.laws.+spells.Goals as goal

pub returns-then-not-anchored : goal.returns-then-not-anchored
returns-then-not-anchored t c =
    let free : c.args.anchored ≡ false = search rules in
    (λ _. cuts_none_open c.args.pattern.now c.args.anchored c.args.path.now c.in_default.ensures.cases free, λ _. ap not free)

pub returns-else-not-anchored : goal.returns-else-not-anchored
returns-else-not-anchored t c =
    let bound : c.args.anchored ≡ true = search rules in
    cuts_none_ended c.args.pattern.now c.args.anchored c.is_empty.result c.args.path.now c.in_default.ensures.cases bound c.is_empty.ensures

pub returns-then-octet-eq42 : goal.returns-then-octet-eq42
returns-then-octet-eq42 t c =
    let is = c.in-Some.ensures.cases.0 ∙ ap (λ octet. octet ∷ c.in-Some.after.now) c.if-octet-eq42.true in
    cuts_at_end c.args.pattern.now c.in-Some.after.now c.args.path.now c.args.anchored c.spells.result is c.in_default-split_first.ensures.cases c.spells.ensures

pub returns-then-spells : goal.returns-then-spells
returns-then-spells t c =
    let is = c.in-Some.ensures.cases.0 ∙ ap (λ octet. octet ∷ c.in-Some.after.now) c.if-octet-eq42-2.true in
    (λ _. cuts_here c.args.pattern.now c.in-Some.after.now c.args.path.now c.args.anchored c.spells-then-octet-eq42-2.result is c.spells-then-octet-eq42-2.ensures c.if-spells.true, λ _. c.if-spells.true)

pub returns-else-spells : goal.returns-else-spells
returns-else-spells t c =
    let is = c.in-Some.ensures.cases.0 ∙ ap (λ octet. octet ∷ c.in-Some.after.now) c.if-octet-eq42-2.true in
    cuts_later c.args.pattern.now c.in-Some.after.now c.args.path.now c.in-Some-split_first.rest.now c.in-Some-split_first.first.now c.args.anchored c.spells-then-octet-eq42-2.result c.spells-else-spells.result is c.in-Some-split_first.ensures.cases.0 c.spells-then-octet-eq42-2.ensures c.if-spells.false c.spells-else-spells.ensures
