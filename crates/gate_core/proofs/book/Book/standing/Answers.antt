-- The cache has the answer that the history says.
-- By the lemmas of `Looking`.
use Rattle.std.proofs.Common.{◌∙◌, ap}
use Rattle.std.specs.Option.{option_map}
use Rattle.authority_cache.specs.Lists.{answer_for}
use Rattle.gate_history.specs.Standing.{standing_of}
use Rattle.gate_core.specs.Gate.{Gate, history}
use Rattle.gate_core.proofs.Looking.{standing_is}
use Rattle.gate_core.proofs.book.Book.standing.Goals as goal

pub returns : goal.returns
returns c =
    ap (option_map (answer_for c.args.authority.now)) c.standing.ensures
    ∙ (standing_is c.self.inside c.self.invariant c.args.authority.now
    ∙ ap (λ (g : Gate). standing_of (history g) c.args.authority.now) c.self.view_is)
