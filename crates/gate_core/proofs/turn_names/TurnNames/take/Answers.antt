-- The name is given and gone, and the others are unchanged.
-- Used by `TurnNames::take`.
use Rattle.std.proofs.Common.{◌≡◌, ℕ, None, subst}
use Rattle.gate_core.specs.TurnNames.{KeepsName, names_by}
use Rattle.gate_core.proofs.turn_names.TurnNames.take.Goals as goal

pub returns-clause-name : goal.returns-clause-name
returns-clause-name c =
    subst (λ (turn : ℕ). c.swap_remove.result ≡ names_by c.args.self.now turn) c.number.ensures c.swap_remove.ensures.value

pub returns-clause-taken : goal.returns-clause-taken
returns-clause-taken c =
    subst (λ (turn : ℕ). KeepsName (names_by c.args.self.now) turn None (names_by (record { by_turn = c.swap_remove.new.self }))) c.number.ensures
    (λ other. c.swap_remove.ensures.updates.0 other)
