-- A text without a fault is a page with the URL's parts.
use Rattle.std.proofs.Common.{◌≡◌, ◌∙◌, sym, ap, subst, IsAscii}
use Rattle.path_normal.specs.declared.page.HostRange.{HostRange}
use Rattle.path_normal.specs.Normal.{normal_path}
use Rattle.path_normal.specs.PageText.{host_start}
use Rattle.path_normal.specs.PageUrl.{IsPage}
use Rattle.path_normal.specs.PagePlaces.{form_in}
use Rattle.path_normal.proofs.PageLemmas.{faultless_page, faultless_splits, host_end, Splits}
use Rattle.path_normal.proofs.page.Page.of_parsed.Goals as goal

pub invariant_of-result : goal.invariant_of-result
invariant_of-result c =
    let spelled = sym ((c.in_ok-from_str.ensures {u = tt}).ok ∙ c.page_in-2.ensures.value) in
    let splits = subst (λ page. Splits page c.args.url.now) spelled (faultless_splits c.args.schemes c.args.url.now c.in_default.ensures) in
    let ascii = subst IsAscii c.page_in.ensures.value c.page_in.ensures.ascii in
    let kept = c.in_ok-of.ensures {u = tt} in (
      subst IsPage spelled (faultless_page c.args.schemes c.args.url.now c.in_default.ensures ascii),
      ap (λ (host : HostRange). host.start) kept.host ∙ c.host_start-start.ensures ∙ ap host_start (c.page_in.ensures.value ∙ spelled),
      ap (λ (host : HostRange). host.end) kept.host
          ∙ host_end _ _ _ _ (c.page_in.ensures.value ∙ spelled) (c.from.ensures ∙ c.host_start-start.ensures) (c.host_in.ensures.value ∙ sym splits.parts.host),
      subst (λ target. form_in c.in_ok-of.field-0 target ≡ normal_path target) (c.as_bytes.ensures.value ∙ c.target_in.ensures ∙ sym splits.parts.target) kept.form,
    )

pub returns-clause-parts : goal.returns-clause-parts
returns-clause-parts c =
    let spelled = sym ((c.in_ok-from_str.ensures {u = tt}).ok ∙ c.page_in-2.ensures.value) in
    (subst (λ page. Splits page c.args.url.now) spelled (faultless_splits c.args.schemes c.args.url.now c.in_default.ensures)).parts
