-- The table counts what the history left open.
-- By the lemmas of `Keeping`.
use Rattle.std.proofs.Common.{◌∙◌, length, ap}
use Rattle.gate_history.specs.Outstanding.{unspent}
use Rattle.gate_core.specs.Gate.{Gate, history}
use Rattle.gate_core.proofs.Keeping.{unspent_many}
use Rattle.gate_core.proofs.book.Book.unspent_count.Goals as goal

pub returns : goal.returns
returns c =
    c.unspent_count.ensures.value ∙ unspent_many c.self.inside c.self.invariant
    ∙ ap (λ (g : Gate). length (unspent (history g))) c.self.view_is
