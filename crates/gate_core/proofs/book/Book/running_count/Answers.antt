-- The table counts what the history left open.
-- By the lemmas of `Keeping`.
use Rattle.std.proofs.Common.{◌∙◌, length, ap}
use Rattle.gate_history.specs.Outstanding.{running}
use Rattle.gate_core.specs.Gate.{Gate, history}
use Rattle.gate_core.proofs.Keeping.{running_many}
use Rattle.gate_core.proofs.book.Book.running_count.Goals as goal

pub returns : goal.returns
returns c =
    c.running_count.ensures.value ∙ running_many c.self.inside c.self.invariant
    ∙ ap (λ (g : Gate). length (running (history g))) c.self.view_is
