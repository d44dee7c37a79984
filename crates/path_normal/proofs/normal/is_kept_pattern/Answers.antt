-- A pattern that keeps its octets is in normal form.
use Rattle.std.proofs.Common.{ap, sym, ◌∙◌, not}
use Rattle.std.specs.List.{list_any}
use Rattle.path_normal.specs.declared.normal.Role.TheVariants.{Pattern}
use Rattle.path_normal.specs.Normal.{is_changed}
use Rattle.path_normal.proofs.NormalLemmas.{kept_pattern}
use Rattle.path_normal.proofs.normal.is_kept_pattern.Goals as goal

pub returns-clause-normal : goal.returns-clause-normal
returns-clause-normal c kept =
    let front = ap (λ text. not (list_any (is_changed Pattern) text)) c.split_anchor.ensures.pattern in
    kept_pattern c.args.pattern.now (sym (ap not c.has_changed.ensures ∙ front) ∙ kept)
