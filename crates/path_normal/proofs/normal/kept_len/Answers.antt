-- All octets before the first changed one stay; if none changes, all do.
use Rattle.std.proofs.Common.{sym, ◌∙◌, length, arith}
use Rattle.std.proofs.lemmas.List.Quantifiers.{position-Some}
use Rattle.path_normal.specs.Normal.{is_changed}
use Rattle.path_normal.proofs.NormalLemmas.{kept_front, none_changed}
use Rattle.path_normal.proofs.normal.kept_len.Goals as goal

pub returns-in-Some-clause-normal : goal.returns-in-Some-clause-normal
returns-in-Some-clause-normal c =
    let text = c.args.text.now in
    let found = position-Some (is_changed c.args.role) text c.in-Some.place 0 (sym c.changed_place.ensures.place ∙ c.in-Some.is) in
    kept_front c.args.role c.in-Some.place text found.2 (omega (arith, found.0))

pub returns-in-None-clause-normal : goal.returns-in-None-clause-normal
returns-in-None-clause-normal c =
    let text = c.args.text.now in
    kept_front c.args.role (length text) text (none_changed c.args.role text (sym c.changed_place.ensures.place ∙ c.in-None.is)) (omega arith)
