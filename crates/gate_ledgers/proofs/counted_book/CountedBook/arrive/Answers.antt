-- The entry ends what the share counted.
use Rattle.std.proofs.Common.{ap}
use Rattle.gate_history.specs.declared.entry.Entry.TheVariants.{Arrived}
use Rattle.gate_core.specs.Replies.{moment_at}
use Rattle.gate_core.specs.Gate.{history}
use Rattle.gate_ledgers.specs.Balance.{Balance}
use Rattle.gate_ledgers.proofs.Counting.{ended, stays_handed}
use Rattle.gate_ledgers.proofs.counted_book.CountedBook.arrive.Goals as goal

pub invariant_of-self : goal.invariant_of-self
invariant_of-self g c =
    let e = Arrived c.twin-twin.new.self.life (moment_at c.self.inside.book c.args.moment) c.args.authority c.args.turn c.twin-twin.new.self.says in
    let adds = c.in-Ok.ensures.1 in (
      ended c.no_later_entry_closes.ensures.one_more c.self.inside.book c.arrive.new.self e 0 0 1 adds
          (c.each_entry_counts.ensures (history c.self.inside.book) e c.history-legal.ensures.legal adds.fit)
          c.self.inside.tally c.enter.new.tally c.arrive-2.new.self c.self.invariant.0 c.enter.ensures.total c.arrive-2.ensures,
      stays_handed c.self.inside.book c.arrive.new.self e c.self.inside.tally c.enter.new.tally c.arrive-2.new.self adds c.self.invariant.1
          (ap (λ (b : Balance). b.handed) c.enter.ensures.total) c.arrive-2.ensures.handed_are,
    )
