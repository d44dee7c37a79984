-- The turn has its name, and the others are unchanged.
-- Used by `TurnNames::put`.
use Rattle.std.proofs.Common.{ℕ, Some, subst}
use Rattle.gate_core.specs.TurnNames.{KeepsName, names_by}
use Rattle.gate_core.proofs.turn_names.TurnNames.put.Goals as goal

pub returns-in-Ok-clause-ok : goal.returns-in-Ok-clause-ok
returns-in-Ok-clause-ok c =
    subst (λ (turn : ℕ). KeepsName (names_by c.args.self.now) turn (Some c.args.name) (names_by (record { by_turn = c.insert.new.self }))) c.number.ensures
    (λ other. c.in-Ok.ensures.updates.0 other)
