-- The table says what the history says.
-- By `Calling` and `Keeping`.
use Rattle.std.proofs.Common.{◌≡◌, false, sym, ap, ◌∙◌}
use Rattle.std.specs.Option.{option_copied}
use Rattle.gate_history.specs.Outstanding.{is_unspent}
use Rattle.gate_core.specs.Gate.{Gate, history}
use Rattle.gate_core.proofs.Calling.{permit_url_as}
use Rattle.gate_core.proofs.Keeping.{reads}
use Rattle.gate_core.proofs.book.Book.url_of.Goals as goal

pub returns-then-not-is_unspent : goal.returns-then-not-is_unspent
returns-then-not-is_unspent c =
    sym (ap (λ (g : Gate). is_unspent (history g) c.args.number) c.self.view_is)
    ∙ sym ((reads c.self.inside c.self.invariant c.self.inside.entries).unspent_numbers c.args.number) ∙ sym c.is_unspent.ensures ∙ c.if-not-is_unspent.true

pub returns : goal.returns
returns c =
    permit_url_as c.self.inside c.self.invariant c.args.self.now c.self.view_is c.args.number (sym c.is_unspent.ensures ∙ c.if-not-is_unspent.false) (option_copied c.url_of.result) c.url_of.ensures
