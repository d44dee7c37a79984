-- The desk has one mark more.
use Rattle.std.proofs.Common.{rules}
use Rattle.gate_history.specs.History.{entry_count}
use Rattle.gate_core.specs.Gate.{history}
use Rattle.gate_lock.proofs.Marking.{marked_desk}
use Rattle.gate_lock.proofs.desk.Desk.back_in.Goals as goal

pub invariant_of-self : goal.invariant_of-self
invariant_of-self g c =
    marked_desk c.self.invariant _ (entry_count (history c.args.held.now)) _ _ _ _ _ c.back.ensures.marks
    (search rules) (search rules) (search rules)
