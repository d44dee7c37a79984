-- The table says what the history says.
-- By the lemmas of `Keeping`.
use Rattle.std.proofs.Common.{◌∙◌, ap}
use Rattle.gate_history.specs.Outstanding.{is_running}
use Rattle.gate_core.specs.Gate.{Gate, history}
use Rattle.gate_core.proofs.Keeping.{reads}
use Rattle.gate_core.proofs.book.Book.is_running.Goals as goal

pub returns : goal.returns
returns c =
    c.is_running.ensures ∙ (reads c.self.inside c.self.invariant c.self.inside.entries).running_numbers c.args.number
    ∙ ap (λ (g : Gate). is_running (history g) c.args.number) c.self.view_is
