-- The book counts the started fetches.
-- Its invariant says so.
use Rattle.std.proofs.Common.{◌∙◌, ap}
use Rattle.gate_history.specs.History.{started_count}
use Rattle.gate_core.specs.Gate.{Gate, history}
use Rattle.gate_core.proofs.book.Book.started_count.Goals as goal

pub returns : goal.returns
returns c = c.self.invariant.starts ∙ ap (λ (g : Gate). started_count (history g)) c.self.view_is
