-- The text is a page URL, whose target is in normal form.
use Rattle.std.proofs.Common.{◌∙◌, ◌-◌, length, sym, ap, subst}
use Rattle.path_normal.specs.Normal.{normal_path}
use Rattle.path_normal.specs.PageText.{authority_of, host_start}
use Rattle.path_normal.proofs.AuthorityLemmas.{robots_end, robots_page, IsRobotsPage}
use Rattle.path_normal.proofs.page.Page.of_robots.Goals as goal

pub invariant_of-result : goal.invariant_of-result
invariant_of-result c =
    let spelled = (c.in_ok-text.ensures {u = tt}).value in
    let page = subst (IsRobotsPage c.args.authority.now) (sym spelled) (robots_page c.args.authority.now c.robots_text.ensures.authority) in (
      page.is_page,
      c.host_start.ensures ∙ ap host_start c.as_str-page.ensures.value,
      ap (λ text. length text - 11) c.as_str-page.ensures.value ∙ robots_end _ _ page,
      page.target ∙ sym (ap normal_path page.target),
    )

pub returns-clause-authority : goal.returns-clause-authority
returns-clause-authority c =
    ap authority_of ((c.in_ok-text.ensures {u = tt}).value)
    ∙ (robots_page c.args.authority.now c.robots_text.ensures.authority).has_authority
