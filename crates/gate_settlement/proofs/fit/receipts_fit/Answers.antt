-- Receipts are the lists of marks that they have.
use Rattle.std.proofs.Common.{◌≡◌, List, [], ◌∷◌, map, refl, ap, subst}
use Rattle.std.specs.Prelude.{◌↔◌, IfOk, IsTrue}
use Rattle.gate_marks.specs.Fitting.{MarksFit}
use Rattle.gate_marks.specs.Marks.{Receipt}
use Rattle.gate_settlement.proofs.fit.receipts_fit.Goals as goal

own : (rs : List Receipt) → map (λ r. r) rs ≡ rs
own [] = refl
own (r ∷ rs) = ap (λ rest. r ∷ rest) (own rs)

pub returns : goal.returns
returns g c =
    subst (λ (rs : List Receipt). IfOk c.lists_fit.result (λ fit. IsTrue fit ↔ MarksFit c.args.sealed c.args.history.now rs))
    (own c.args.all.now) c.lists_fit.ensures
