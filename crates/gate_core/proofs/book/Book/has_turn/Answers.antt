-- The cache says what the history says.
-- By the lemmas of `Looking`.
use Rattle.std.proofs.Common.{◌∙◌, ap}
use Rattle.gate_history.specs.Standing.{has_turn}
use Rattle.gate_core.specs.Gate.{Gate, history}
use Rattle.gate_core.proofs.Looking.{turn_is}
use Rattle.gate_core.proofs.book.Book.has_turn.Goals as goal

pub returns : goal.returns
returns c =
    c.has_turn.ensures ∙ turn_is c.self.inside c.self.invariant c.args.authority.now c.args.turn
    ∙ ap (λ (g : Gate). has_turn (history g) c.args.authority.now c.args.turn) c.self.view_is
