-- One more form, with its octets appended.
use Rattle.std.proofs.Common.{◌++◌, ◌∷◌, [], All, List, ℕ, sym, ap, ◌∙◌, subst, arith}
use Rattle.robots_verdict.specs.Rewritten.{Forms, HasOctets}
use Rattle.robots_verdict.proofs.Forms.{form_pushed}
use Rattle.robots_verdict.proofs.rewritten.Rewritten.push.Goals as goal

pub invariant_of-self : goal.invariant_of-self
invariant_of-self c =
    subst (λ (octets : List ℕ). All (HasOctets octets) c.self.inside.forms.items) (sym c.in_err-extend_from_slice.ensures.items) c.self.invariant

pub returns-clause-line : goal.returns-clause-line
returns-clause-line c =
    form_pushed c.self.inside.octets.items c.args.form.now c.extend_from_slice.new.self.items c.self.inside.forms.items c.push.new.self.items _
    c.self.invariant c.in_ok-extend_from_slice.ensures.items c.in_ok-push.ensures.items (omega (arith, c.len-start.ensures, c.self.inside.octets.ok.0)) (omega arith)
    ∙ ap (λ (f : Forms). f.of_lines ++ record { line = c.args.line; form = c.args.form.now } ∷ []) c.self.view_is
