-- The cache says what the history says.
-- By the lemmas of `Looking`.
use Rattle.std.proofs.Common.{◌∙◌, ap}
use Rattle.gate_history.specs.Standing.{is_fetching}
use Rattle.gate_core.specs.Gate.{Gate, history}
use Rattle.gate_core.proofs.Looking.{fetching_is}
use Rattle.gate_core.proofs.book.Book.is_fetching.Goals as goal

pub returns : goal.returns
returns c =
    c.in_flight.ensures ∙ fetching_is c.self.inside c.self.invariant c.args.authority.now
    ∙ ap (λ (g : Gate). is_fetching (history g) c.args.authority.now) c.self.view_is
