-- A grant is an entry and an unspent permit more, a denial an entry more.
use Rattle.std.proofs.Common.{ap, refl}
use Rattle.gate_history.specs.declared.entry.Entry.TheVariants.{AskDenied, Granted}
use Rattle.gate_core.specs.Gate.{history}
use Rattle.gate_core.specs.Replies.{moment_at}
use Rattle.gate_ledgers.specs.Balance.{Balance}
use Rattle.gate_ledgers.proofs.Counting.{granted, noted, stays_handed}
use Rattle.gate_ledgers.proofs.counted_book.CountedBook.ask.Goals as goal

pub invariant_of-self : goal.invariant_of-self
invariant_of-self g c =
    let old = c.self.inside.book in
    let new = c.ask_judged.new.self in
    let e = Granted (moment_at old c.args.moment) c.in-Ok.number (record { token = c.args.judged.token; url = c.args.judged.url }) in
    let adds = c.in-Ok.ensures.4 in (
      granted c.no_later_entry_closes.ensures.one_more old new e adds
          (c.each_entry_counts.ensures (history old) e c.history-legal.ensures.legal adds.fit)
          c.self.inside.tally c.enter.new.tally c.grant.new.self c.self.invariant.0 c.enter.ensures.total c.grant.ensures,
      stays_handed old new e c.self.inside.tally c.enter.new.tally c.grant.new.self adds c.self.invariant.1
          (ap (λ (b : Balance). b.handed) c.enter.ensures.total) (ap (λ (b : Balance). b.handed) c.grant.ensures),
    )

pub invariant_of-self-in-Err-Denied : goal.invariant_of-self-in-Err-Denied
invariant_of-self-in-Err-Denied g c =
    let old = c.self.inside.book in
    let new = c.ask_judged.new.self in
    let e = AskDenied (moment_at old c.args.moment) (record { token = c.args.judged.token; url = c.args.judged.url }) c.in-Err-Denied.denial.cause in
    let adds = (rw c.in-Err-Denied.field-0-is at c.in-Err-Denied.ensures).3 in
    let left = c.enter-in-Err-Denied.new.tally in
    let total = c.enter-in-Err-Denied.ensures.total in (
      noted c.no_later_entry_closes.ensures.one_more old new e adds
          (c.each_entry_counts.ensures (history old) e c.history-legal.ensures.legal adds.fit)
          c.self.inside.tally left c.self.invariant.0 total,
      stays_handed old new e c.self.inside.tally left left adds c.self.invariant.1 (ap (λ (b : Balance). b.handed) total) refl,
    )
