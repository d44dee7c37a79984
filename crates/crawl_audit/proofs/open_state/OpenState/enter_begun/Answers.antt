-- A begin is legal if it is in time, the next, and no turn is in flight.
use Rattle.std.proofs.Common.{◌+◌, ap, sym, ◌∙◌}
use Rattle.std.proofs.lemmas.Bool.{true≢false}
use Rattle.gate_history.specs.History.{now}
use Rattle.crawl_audit.proofs.Following.{begins_fine, begun_follows, fetching, late}
use Rattle.crawl_audit.proofs.open_state.OpenState.enter_begun.Goals as goal
use Rattle.std.proofs.Common.{true}
use Rattle.crawl_audit.proofs.open_state.OpenState.enter_begun.Goals.{then-moment-self-via-then-moment-self, then-moment-self-via-else-moment-self+then-in_flight, then-moment-self-via-else-moment-self+else-in_flight+then-not-is_next}

pub returns-then-moment-self-clause-tells : goal.returns-then-moment-self-clause-tells
returns-then-moment-self-clause-tells c = λ h t may.
    let l = c.args.self.now in
    elim c.then-moment-self.branch [
      | then-moment-self-via-then-moment-self w ↦ late l.clock c.args.moment (now h) t.clock_is w.if-moment-self.true may.fit.0
      | then-moment-self-via-else-moment-self+then-in_flight w ↦
          true≢false (sym (fetching l h t w.text.result.now c.args.authority.now w.text.ensures.value true (sym w.if-in_flight.true ∙ w.in_flight.ensures)) ∙ may.fit.1)
      | then-moment-self-via-else-moment-self+else-in_flight+then-not-is_next w ↦
          true≢false (sym (w.is_next.ensures.1 (may.fit.2 ∙ ap (λ n. n + 1) (sym t.begins_are))) ∙ w.if-not-is_next.true)
    ]

pub returns-clause-tells : goal.returns-clause-tells
returns-clause-tells c = λ h t.
    let fine = begins_fine c.begin.result (sym c.is_err.ensures.value ∙ c.if-is_err.false) c.begin.ensures.reply in
    begun_follows c.args.self.now h t c.args.moment c.args.turn c.number-self.result c.text.result.now c.args.authority.now c.begin.new.self c.text.ensures.value
    c.if-moment-self.false (sym c.if-in_flight.false ∙ c.in_flight.ensures) (c.is_next.ensures.0 c.if-not-is_next.false) c.number-self.ensures fine.0 fine.1
