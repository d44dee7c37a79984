-- The copied octets and the rest's normal form make the normal form.
use Rattle.std.proofs.Common.{◌++◌, sym, ap, ◌∙◌}
use Rattle.std.proofs.lemmas.List.{append_assoc}
use Rattle.path_normal.specs.Normal.{normal}
use Rattle.path_normal.proofs.normal.push_kept.Goals as goal

pub returns-clause-value : goal.returns-clause-value
returns-clause-value c =
    let role = c.args.role in
    let form = c.args.form.now.items in
    ap (λ items. items ++ normal role c.split_at.result.1.now) c.in_ok-extend_from_slice.ensures.items
    ∙ append_assoc form c.split_at.result.0.now (normal role c.split_at.result.1.now)
    ∙ ap (λ later. form ++ later) ((λ i. c.split_at.ensures.front i ++ normal role (c.split_at.ensures.back i)) ∙ sym c.kept_len.ensures.normal)
