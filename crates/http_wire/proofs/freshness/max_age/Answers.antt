-- The name, then its argument.
use Rattle.std.proofs.Common.{List, ℕ, ◌++◌, sym, ap, ◌∙◌, take-append-drop}
use Rattle.std.specs.Prelude.{codes}
use Rattle.std.proofs.lemmas.Bool.{true≢false}
use Rattle.robots_text.specs.Words.{is_same_word}
use Rattle.http_wire.proofs.MaxAges.{max_age_told, name_of}
use Rattle.http_wire.proofs.freshness.max_age.Goals as goal

pub returns-in-Some : goal.returns-in-Some
returns-in-Some c =
    let member = c.args.member.now in
    let name = c.in-Some.name.now in
    let argument = c.in-Some.argument.now in
    let split = c.in-Some.ensures.cases in
    let parts = sym (take-append-drop 8 member) ∙ (λ i. sym split.1 i ++ sym split.2 i) in
    max_age_told member name argument c.seconds_in.result parts split.2 (sym c.is_same_word.ensures ∙ c.if-is_same_word.true) c.seconds_in.ensures

pub returns-in_default : goal.returns-in_default
returns-in_default c seconds is =
    let same = name_of c.args.member.now seconds is ∙ sym c.in-Some.ensures.cases.1 in
    true≢false (sym is.name_is ∙ ap (λ (name : List ℕ). is_same_word name (codes "max-age=")) same ∙ sym c.is_same_word.ensures ∙ c.if-is_same_word.false)
