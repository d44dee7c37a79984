-- A start that finds no permit is denied as spent.
-- By `start_spent` of `Calling`.
use Rattle.std.proofs.Common.{◌∙◌, sym}
use Rattle.gate_core.proofs.Calling.{start_spent}
use Rattle.gate_core.proofs.book.Book.start.Goals as goal

pub returns-then-not-stands : goal.returns-then-not-stands
returns-then-not-stands c =
    start_spent c.args.self.now c.args.number c.args.token.now c.args.url c.args.moment (sym c.stands.ensures ∙ c.if-not-stands.true)
