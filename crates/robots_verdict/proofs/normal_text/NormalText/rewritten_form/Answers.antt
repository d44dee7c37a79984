-- The lines of the forms rise, and without forms no line has one.
use Rattle.std.proofs.Common.{◌≡◌, List, ℕ, [], Contains, map, sym, ap, ◌∙◌, subst, arith}
use Rattle.std.specs.Prelude.{MatchOption}
use Rattle.std.specs.List.Sorted.{IsNonDecreasing}
use Rattle.robots_text.specs.Grouped.{grouped_records}
use Rattle.robots_verdict.specs.Rewritten.{FormOfLine, HasForm, HasNoForm, rewritten_in}
use Rattle.robots_verdict.proofs.Rewriting.{line_of, rises}
use Rattle.robots_verdict.proofs.normal_text.NormalText.rewritten_form.Goals as goal

-- the forms of a text
abbrev of_text : List ℕ → List FormOfLine
of_text text = rewritten_in (grouped_records text)

pub form_near-requires : goal.form_near-requires
form_near-requires c =
    let lines = of_text c.self.inside.text in
    let kept = subst (λ kept. MatchOption kept (lines ≡ []) (λ forms. forms.value.of_lines ≡ lines)) c.in-Some.is c.self.invariant in
    let same : c.deref.result.now.of_lines ≡ lines = ap (λ forms. forms.of_lines) c.deref.ensures ∙ kept in
    subst (λ (forms : List FormOfLine). IsNonDecreasing (map line_of forms)) (sym same) (rises c.self.inside.text)

pub returns-in-Some : goal.returns-in-Some
returns-in-Some c =
    let lines = of_text c.self.inside.text in
    let kept = subst (λ kept. MatchOption kept (lines ≡ []) (λ forms. forms.value.of_lines ≡ lines)) c.in-Some.is c.self.invariant in
    let same : c.deref.result.now.of_lines ≡ of_text c.args.self.now = ap (λ forms. forms.of_lines) c.deref.ensures ∙ kept ∙ ap of_text c.self.view_is in
    subst (λ (forms : List FormOfLine). MatchOption c.form_near.result (HasNoForm forms c.args.line) (λ octets. HasForm forms c.args.line octets.now)) same c.form_near.ensures

pub returns-in-None : goal.returns-in-None
returns-in-None c form stands line =
    let lines = of_text c.self.inside.text in
    let none = subst (λ kept. MatchOption kept (lines ≡ []) (λ forms. forms.value.of_lines ≡ lines)) c.in-None.is c.self.invariant in
    let at = subst (λ (forms : List FormOfLine). Contains forms form) (sym (ap of_text c.self.view_is) ∙ none) stands in
    omega (arith, at.1)
