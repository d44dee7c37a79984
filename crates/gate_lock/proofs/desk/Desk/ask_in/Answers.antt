-- The desk after an ask that was refused: it has a mark more if the ask was denied.
use Rattle.std.proofs.Common.{rules, arith}
use Rattle.gate_lock.proofs.Asking.{asked_desk}
use Rattle.gate_lock.proofs.desk.Desk.ask_in.Goals as goal

pub invariant_of-self-in-Err : goal.invariant_of-self-in-Err
invariant_of-self-in-Err g c =
    asked_desk c.self.invariant _ _ _ _ _ _ _ _ c.ask_round-result.ensures.asked
    (search rules) c.entry_count-self-inside.ensures (omega arith) (search rules)

pub invariant_of-self : goal.invariant_of-self
invariant_of-self g c =
    asked_desk c.self.invariant _ _ _ _ _ _ _ _ c.ask_round-result.ensures.asked
    (search rules) c.entry_count-self-inside.ensures (search rules) (search rules)
