-- The cache counts the turns in flight.
-- By the lemmas of `Keeping`.
use Rattle.std.proofs.Common.{◌∙◌, length, ap}
use Rattle.gate_history.specs.Standing.{in_flight}
use Rattle.gate_core.specs.Gate.{Gate, history}
use Rattle.gate_core.proofs.Keeping.{flights_many}
use Rattle.gate_core.proofs.book.Book.flight_count.Goals as goal

pub returns : goal.returns
returns c =
    c.flight_count.ensures.value ∙ flights_many c.self.inside c.self.invariant c.flight_count.ensures.apart
    ∙ ap (λ (g : Gate). length (in_flight (history g))) c.self.view_is
