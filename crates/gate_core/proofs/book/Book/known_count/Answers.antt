-- The cache counts the authorities that are known.
-- By the lemmas of `Keeping`.
use Rattle.std.proofs.Common.{◌∙◌, ap}
use Rattle.gate_history.specs.Standing.{known_count}
use Rattle.gate_core.specs.Gate.{Gate, history}
use Rattle.gate_core.proofs.Keeping.{authorities_many}
use Rattle.gate_core.proofs.book.Book.known_count.Goals as goal

pub returns : goal.returns
returns c =
    c.known_count.ensures.value ∙ authorities_many c.self.inside c.self.invariant c.known_count.ensures.apart
    ∙ ap (λ (g : Gate). known_count (history g)) c.self.view_is
