-- A pattern's normal form is its own, with or without a last `$`.
use Rattle.std.proofs.Common.{◌≡◌, rules, refl, subst, sym, arith}
use Rattle.std.proofs.lemmas.List.Elements.{All-from_get_or}
use Rattle.path_normal.specs.Normal.{is_anchored, normal_pattern}
use Rattle.path_normal.proofs.NormalLemmas.{IsOctet, pattern_again}
use Rattle.path_normal.proofs.normal.normal_pattern.Goals as goal

pub returns-clause-again : goal.returns-clause-again
returns-clause-again c =
    let fits = All-from_get_or IsOctet c.args.pattern.now 0 (λ k inside. omega (arith, c.type_inv.pattern k)) in
    let is : c.push_normal_pattern.new.form.items ≡ normal_pattern c.args.pattern.now = search rules in
    subst (λ form. normal_pattern form ≡ form) (sym is) (pattern_again (is_anchored c.args.pattern.now) c.args.pattern.now refl fits)
