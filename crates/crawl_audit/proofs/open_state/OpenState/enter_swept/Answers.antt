-- A sweep is legal if it is in time and counts what it ends.
use Rattle.std.proofs.Common.{sym, ◌∙◌}
use Rattle.gate_history.specs.History.{now}
use Rattle.crawl_audit.proofs.Following.{late, swept_count, swept_follows}
use Rattle.crawl_audit.proofs.open_state.OpenState.enter_swept.Goals as goal
use Rattle.crawl_audit.proofs.open_state.OpenState.enter_swept.Goals.{then-moment-self-via-then-moment-self, then-moment-self-via-else-moment-self+then-sweep-count}

pub returns-then-moment-self-clause-tells : goal.returns-then-moment-self-clause-tells
returns-then-moment-self-clause-tells c = λ h t may.
    elim c.then-moment-self.branch [
      | then-moment-self-via-then-moment-self w ↦ late c.args.self.now.clock c.args.moment (now h) t.clock_is w.if-moment-self.true may.fit.0
      | then-moment-self-via-else-moment-self+then-sweep-count w ↦
          w.if-sweep-count.true (swept_count c.args.self.now h t c.args.moment w.sweep.result w.sweep.new.self w.sweep.ensures.swept w.sweep.ensures.apart ∙ sym may.fit.1)
    ]

pub returns-clause-tells : goal.returns-clause-tells
returns-clause-tells c = λ h t.
    swept_follows c.args.self.now h t c.args.moment c.args.count c.sweep.result c.sweep.new.self c.if-moment-self.false c.if-sweep-count.false c.sweep.ensures.swept c.sweep.ensures.apart
