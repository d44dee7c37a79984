-- The base and the entries since are counted.
-- By `entries_many` of `Keeping`.
use Rattle.std.proofs.Common.{ap, arith}
use Rattle.gate_history.specs.History.{entry_count}
use Rattle.gate_core.specs.Gate.{Gate, history}
use Rattle.gate_core.proofs.Keeping.{entries_many}
use Rattle.gate_core.proofs.book.Book.entry_count.Goals as goal

pub returns : goal.returns
returns c =
    let many = entries_many c.self.inside c.self.invariant in
    omega (arith, many, c.entries.ensures, c.len.ensures, ap (λ (g : Gate). entry_count (history g)) c.self.view_is)
