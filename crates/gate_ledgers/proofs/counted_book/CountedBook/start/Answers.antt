-- The start is an entry, and moves the permit or ends it.
use Rattle.std.proofs.Common.{◌≡◌, true, sym, ap, subst, ◌∙◌}
use Rattle.gate_history.specs.declared.entry.Entry.TheVariants.{StartDenied, Started}
use Rattle.gate_history.specs.Outstanding.{stands}
use Rattle.gate_core.specs.Gate.{Gate, history}
use Rattle.gate_core.specs.Replies.{moment_at}
use Rattle.gate_ledgers.specs.Balance.{Balance}
use Rattle.gate_ledgers.proofs.Counting.{begun, ended, stays_handed}
use Rattle.gate_ledgers.proofs.Denying.{denied}
use Rattle.gate_ledgers.proofs.counted_book.CountedBook.start.Goals as goal

pub invariant_of-self : goal.invariant_of-self
invariant_of-self g c =
    let e = Started (moment_at c.self.inside.book c.args.moment) c.args.permit.0 c.in-Ok.started.reason in
    let adds = c.in-Ok.ensures.4 in (
      begun c.no_later_entry_closes.ensures.one_more c.self.inside.book c.start_standing-result.new.self e adds
          (c.each_entry_counts.ensures (history c.self.inside.book) e c.history-legal.ensures.legal adds.fit)
          c.self.inside.tally c.start-running.new.tally c.spend.new.self c.self.invariant.0 c.start-running.ensures.total c.spend.ensures,
      stays_handed c.self.inside.book c.start_standing-result.new.self e c.self.inside.tally c.start-running.new.tally c.spend.new.self adds c.self.invariant.1
          (ap (λ (b : Balance). b.handed) c.start-running.ensures.total) c.spend.ensures.handed_are,
    )

pub invariant_of-self-in-Err : goal.invariant_of-self-in-Err
invariant_of-self-in-Err g c =
    let old = c.self.inside.book in
    let e = StartDenied (moment_at old c.args.moment) c.args.permit.0 c.in-Err.refused.cause in
    let out = subst (λ (g : Gate). stands (history g) c.args.permit.0 c.args.token.now c.args.url ≡ true) (sym c.self.view_is) c.requires.stands in
    let adds = denied old c.start_standing-result.new.self c.args.permit.0 c.args.token.now c.args.url c.args.moment c.in-Err.refused out c.in-Err.ensures in (
      ended c.no_later_entry_closes.ensures.one_more old c.start_standing-result.new.self e 1 0 0 adds
          (c.each_entry_counts.ensures (history old) e c.history-legal.ensures.legal adds.fit)
          c.self.inside.tally c.enter.new.tally c.spend-in-Err.new.self c.self.invariant.0 c.enter.ensures.total c.spend-in-Err.ensures,
      stays_handed old c.start_standing-result.new.self e c.self.inside.tally c.enter.new.tally c.spend-in-Err.new.self adds c.self.invariant.1
          (ap (λ (b : Balance). b.handed) c.enter.ensures.total) c.spend-in-Err.ensures.handed_are,
    )
