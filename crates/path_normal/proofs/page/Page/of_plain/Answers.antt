-- A plain URL is a page, which splits at the end of its host.
use Rattle.std.proofs.Common.{◌≡◌, ◌+◌, ◌∙◌, List, ℕ, sym, ap, subst, length}
use Rattle.path_normal.specs.Normal.{normal_path}
use Rattle.path_normal.specs.PageText.{host_of, host_start, target_of}
use Rattle.path_normal.specs.PageUrl.{IsPage}
use Rattle.path_normal.proofs.PlainLemmas.{plain_ascii, plain_form, plain_page, plain_splits}
use Rattle.path_normal.proofs.page.Page.of_plain.Goals as goal

pub invariant_of-result : goal.invariant_of-result
invariant_of-result c =
    let text : List ℕ = c.args.text.now in
    let same = sym (c.in_ok-from_str.ensures {u = tt}).ok in
    let splits = plain_splits text c.args.end c.requires.plain c.requires.short in (
      subst IsPage same (plain_page text c.args.end c.requires.plain c.requires.short (plain_ascii text c.args.end c.requires.plain)),
      splits.0 ∙ ap host_start same,
      splits.1 ∙ ap (λ (t : List ℕ). host_start t + length (host_of t)) same,
      subst (λ (t : List ℕ). target_of t ≡ normal_path (target_of t)) same (plain_form text c.args.end c.requires.plain c.requires.short),
    )
