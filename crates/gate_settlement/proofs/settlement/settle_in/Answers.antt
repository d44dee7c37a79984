-- The places of a history fit its count.
use Rattle.std.proofs.Common.{ap, arith, length, sym, ◌∙◌}
use Rattle.gate_history.specs.Base.{Base}
use Rattle.gate_history.specs.History.{entry_count, from}
use Rattle.gate_history.proofs.Following.{followed_count}
use Rattle.gate_core.specs.Gate.{Gate, history}
use Rattle.gate_settlement.proofs.settlement.settle_in.Goals as goal

pub receipts_fit-requires : goal.receipts_fit-requires
receipts_fit-requires g c =
    let book = c.book-book.result.now in
    let n = followed_count (from book.base) book.entries in
    let events = c.in-Some.ensures.rests.events_are ∙ ap (λ (g : Gate). entry_count (history g)) (sym c.book-book.ensures.value) in
    omega (arith, n, events, c.in-Some.ensures.bound, c.entries-sealed.ensures, ap (λ (base : Base). base.entries) c.base.ensures, ap length c.history.ensures.entries)
