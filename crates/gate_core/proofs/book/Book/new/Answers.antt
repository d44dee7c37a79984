-- An empty history has nothing open.
-- By `kept_new`.
use Rattle.gate_core.proofs.Keeping.{kept_new}
use Rattle.gate_core.proofs.book.Book.new.Goals as goal

pub invariant_of-result : goal.invariant_of-result
invariant_of-result c =
    kept_new c.args.config.limits c.empty.result c.new.result c.new-2.result c.in_ok-permits.permits c.new-3.result c.new-4.result c.requires c.empty.ensures.value c.empty.ensures.base
    c.new.ensures.items c.new-2.ensures.limit c.new-2.ensures.empty c.in_ok-permits.ensures.slots c.in_ok-permits.ensures.first c.new-4.ensures
