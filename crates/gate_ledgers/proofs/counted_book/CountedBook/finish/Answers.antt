-- The entry ends what the share counted.
use Rattle.std.proofs.Common.{ap}
use Rattle.gate_history.specs.declared.entry.Entry.TheVariants.{Finished}
use Rattle.gate_core.specs.Gate.{history}
use Rattle.gate_ledgers.specs.Balance.{Balance}
use Rattle.gate_ledgers.proofs.Counting.{ended, stays_handed}
use Rattle.gate_ledgers.proofs.counted_book.CountedBook.finish.Goals as goal

pub invariant_of-self : goal.invariant_of-self
invariant_of-self g c =
    let e = (Finished c.args.number) in
    let adds = c.in-Ok.ensures.1 in (
      ended c.no_later_entry_closes.ensures.one_more c.self.inside.book c.finish.new.self e 0 1 0 adds
          (c.each_entry_counts.ensures (history c.self.inside.book) e c.history-legal.ensures.legal adds.fit)
          c.self.inside.tally c.enter.new.tally c.finish-2.new.self c.self.invariant.0 c.enter.ensures.total c.finish-2.ensures,
      stays_handed c.self.inside.book c.finish.new.self e c.self.inside.tally c.enter.new.tally c.finish-2.new.self adds c.self.invariant.1
          (ap (λ (b : Balance). b.handed) c.enter.ensures.total) c.finish-2.ensures.handed_are,
    )
