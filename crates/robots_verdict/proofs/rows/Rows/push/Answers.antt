-- One more row, with its pattern's octets appended.
use Rattle.std.proofs.Common.{◌++◌, ◌∷◌, [], All, List, ℕ, sym, ap, ◌∙◌, subst, arith}
use Rattle.robots_verdict.specs.Placed.{Table}
use Rattle.robots_verdict.specs.Rows.{IsThere, rows_seen}
use Rattle.robots_verdict.proofs.RowLemmas.{row_pushed}
use Rattle.robots_verdict.proofs.rows.Rows.push.Goals as goal

pub invariant_of-self : goal.invariant_of-self
invariant_of-self c =
    subst (λ (octets : List ℕ). All (IsThere octets) c.self.inside.rows.items) (sym c.in_err-extend_from_slice.ensures.items) c.self.invariant

pub returns-clause-row : goal.returns-clause-row
returns-clause-row c =
    row_pushed c.self.inside.octets.items c.args.form.now c.extend_from_slice.new.self.items c.self.inside.rows.items c.push.new.self.items _
    c.self.invariant c.in_ok-extend_from_slice.ensures.items c.in_ok-push.ensures.items (omega (arith, c.of.ensures, c.len-start.ensures, c.self.inside.octets.ok.0)) (omega (arith, c.of-2.ensures))
    ∙ (λ i. rows_seen c.self.inside.octets.items c.self.inside.rows.items ++ record { group = c.of-4.ensures i; line = c.of-3.ensures i; kind = c.args.kind; form = c.args.form.now } ∷ [])
    ∙ ap (λ (t : Table). t.rows ++ record { group = c.args.group; line = c.args.line; kind = c.args.kind; form = c.args.form.now } ∷ []) c.self.view_is
