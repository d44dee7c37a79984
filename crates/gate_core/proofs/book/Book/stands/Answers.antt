-- The table says what the history says.
-- By the lemmas of `Calling`.
use Rattle.std.proofs.Common.{◌∙◌}
use Rattle.gate_core.proofs.Calling.{stands_as}
use Rattle.gate_core.proofs.book.Book.stands.Goals as goal

pub returns : goal.returns
returns c =
    c.stands.ensures ∙ stands_as c.self.inside c.self.invariant c.args.self.now c.self.view_is c.args.number c.args.token.now c.args.url.now
