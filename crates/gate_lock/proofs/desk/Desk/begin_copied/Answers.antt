-- The desk after the begin: it has a turn and a mark more, if one was begun.
use Rattle.std.proofs.Common.{rules, arith}
use Rattle.gate_lock.proofs.Beginning.{begun_desk}
use Rattle.gate_lock.proofs.desk.Desk.begin_copied.Goals as goal

pub invariant_of-self : goal.invariant_of-self
invariant_of-self g c =
    begun_desk c.self.invariant _ _ _ _ _ _ _ _ c.begin_round-result.ensures.begun
    (search rules) c.entry_count-self-inside.ensures (search rules) (search rules)

pub invariant_of-self-in-Err : goal.invariant_of-self-in-Err
invariant_of-self-in-Err g c =
    begun_desk c.self.invariant _ _ _ _ _ _ _ _ c.begin_round-result.ensures.begun
    (search rules) c.entry_count-self-inside.ensures (omega arith) (search rules)
