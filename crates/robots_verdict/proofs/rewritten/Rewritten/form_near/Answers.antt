-- The search finds the line's form exactly if there is one.
use Rattle.std.proofs.Common.{rules, of_calls, map, ap, ◌∙◌, subst}
use Rattle.std.specs.Prelude.{Err, Ok}
use Rattle.std.specs.List.Sorted.{IsBinarySearchResult}
use Rattle.std.specs.Ordering.{nat_cmp}
use Rattle.std.proofs.lemmas.Fn.{always_returns_same}
use Rattle.std.proofs.lemmas.List.{get_or_default}
use Rattle.robots_verdict.specs.declared.rewritten.Form.{Form}
use Rattle.robots_verdict.specs.Rewritten.{form_at, form_seen, Forms, no_form}
use Rattle.robots_verdict.proofs.Forms.{found}
use Rattle.robots_verdict.proofs.rewritten.Rewritten.form_near.Goals as goal

pub returns-in-Ok : goal.returns-in-Ok
returns-in-Ok c =
    let seen = c.args.self.now.of_lines in
    let forms = c.self.inside.forms.items in
    let searches = c.binary_search_by_key.ensures.position (λ (form : Form). form.line) (always_returns_same _ _ _ (λ a r f k. search (rules, of_calls))) in
    let at = found c.self.inside.octets.items c.deref.result.now seen c.args.line (Ok c.in-Ok.place)
    (ap (map (form_seen c.self.inside.octets.items)) c.deref.ensures.value ∙ ap (λ (f : Forms). f.of_lines) c.self.view_is) c.requires
    c.in-Ok.ensures.bound
    (subst (λ r. IsBinarySearchResult (λ (form : Form). nat_cmp form.line c.args.line) c.deref.result.now r) c.in-Ok.is searches) in (
      form_at seen c.in-Ok.place,
      (c.in-Ok.place, at.0, get_or_default seen c.in-Ok.place (form_at seen c.in-Ok.place) no_form at.0),
      at.1,
      c.form-in-Ok.ensures,
    )

pub returns-in-Err : goal.returns-in-Err
returns-in-Err c =
    let seen = c.args.self.now.of_lines in
    let searches = c.binary_search_by_key.ensures.position (λ (form : Form). form.line) (always_returns_same _ _ _ (λ a r f k. search (rules, of_calls))) in
    found c.self.inside.octets.items c.deref.result.now seen c.args.line (Err c.in-Err.place)
    (ap (map (form_seen c.self.inside.octets.items)) c.deref.ensures.value ∙ ap (λ (f : Forms). f.of_lines) c.self.view_is) c.requires
    c.in-Err.ensures.bound
    (subst (λ r. IsBinarySearchResult (λ (form : Form). nat_cmp form.line c.args.line) c.deref.result.now r) c.in-Err.is searches)
