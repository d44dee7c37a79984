-- A path's normal form is its own normal form.
use Rattle.std.proofs.Common.{◌≡◌, rules, subst, sym, arith}
use Rattle.std.proofs.lemmas.List.Elements.{All-from_get_or}
use Rattle.path_normal.specs.declared.normal.Role.TheVariants.{Path}
use Rattle.path_normal.specs.Normal.{normal, normal_path}
use Rattle.path_normal.proofs.NormalLemmas.{IsOctet, normal_again}
use Rattle.path_normal.proofs.normal.normal_path.Goals as goal

pub returns-clause-again : goal.returns-clause-again
returns-clause-again c =
    let fits = All-from_get_or IsOctet c.args.path.now 0 (λ k inside. omega (arith, c.type_inv.path k)) in
    let is : c.push_normal.new.form.items ≡ normal Path c.args.path.now = search rules in
    subst (λ form. normal_path form ≡ form) (sym is) (normal_again Path c.args.path.now fits)
