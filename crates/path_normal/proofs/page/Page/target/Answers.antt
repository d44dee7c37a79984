-- The text after the stored end of the host is the target.
use Rattle.std.proofs.Common.{◌∙◌, ap, drop}
use Rattle.path_normal.proofs.PageLemmas.{target_at}
use Rattle.path_normal.proofs.page.Page.target.Goals as goal

pub returns-clause-value : goal.returns-clause-value
returns-clause-value c =
    target_at _ _ _ _ c.self.view_is (c.end.ensures ∙ c.self.invariant.2) (c.range_from.ensures.value ∙ ap (drop c.end.result) c.as_str.ensures.value)
