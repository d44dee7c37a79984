-- For `https`, the text before the stored end of the host is the authority.
use Rattle.std.proofs.Common.{◌∙◌, ap, sym}
use Rattle.std.specs.Prelude.{slice_range}
use Rattle.path_normal.specs.PageText.{authority_of, host_of, is_https, named}
use Rattle.path_normal.proofs.PageLemmas.{authority_at}
use Rattle.path_normal.proofs.page.Page.authority.Goals as goal

pub returns-then-is_https-clause-value : goal.returns-then-is_https-clause-value
returns-then-is_https-clause-value c =
    let https = ap is_https c.self.view_is ∙ sym c.is_https.ensures.value ∙ c.if-is_https.true in
    authority_at _ _ _ c.self.invariant.0.scheme (c.end.ensures ∙ c.self.invariant.2) https (c.range.ensures.value ∙ ap (λ text. slice_range text 0 c.end.result) c.as_str.ensures.value)
    ∙ ap authority_of c.self.view_is

pub returns-else-is_https-clause-value : goal.returns-else-is_https-clause-value
unfolding authority_of
returns-else-is_https-clause-value c =
    c.host.ensures.value ∙ sym (ap (λ https. named https (host_of c.args.self.now)) (sym c.is_https.ensures.value ∙ c.if-is_https.false))
