-- A grant is legal if it is in time, its number is new, and its fetch is allowed.
use Rattle.std.proofs.Common.{sym, ◌∙◌}
use Rattle.gate_history.specs.History.{now}
use Rattle.gate_history.specs.Standing.{in_flight, standing}
use Rattle.crawl_audit.proofs.Following.{allowed_by, granted_follows, late, not_allowed, told}
use Rattle.crawl_audit.proofs.Numbering.{old_refused}
use Rattle.crawl_audit.proofs.open_state.OpenState.enter_granted.Goals as goal
use Rattle.crawl_audit.proofs.open_state.OpenState.enter_granted.Goals.{then-moment-self-via-then-moment-self, then-moment-self-via-else-moment-self+then-not-is_new}

pub returns-then-moment-self-clause-tells : goal.returns-then-moment-self-clause-tells
returns-then-moment-self-clause-tells c = λ h t may.
    let l = c.args.self.now in
    elim c.then-moment-self.branch [
      | then-moment-self-via-then-moment-self w ↦ late l.clock c.args.moment (now h) t.clock_is w.if-moment-self.true may.fit.0
      | then-moment-self-via-else-moment-self+then-not-is_new w ↦
          old_refused l.numbers l.numbers h c.args.number t.numbers_tell (sym w.is_new.ensures ∙ w.if-not-is_new.true) may.fit.1 may.rises
    ]

pub returns-then-is_err-clause-tells : goal.returns-then-is_err-clause-tells
returns-then-is_err-clause-tells c = λ h t' may.
    let open_state = record c.args.self.now { cache = c.make_index.new.self } in
    let t = told c.args.self.now c.make_index.new.self h c.make_index.ensures t' in
    not_allowed open_state h t c.args.fetch.token c.args.fetch.url c.args.moment c.decide.result (c.decide.ensures (standing h) (in_flight h) t.cache_tells) (sym c.is_err.ensures.value ∙ c.if-is_err.true) may.fit.2

pub returns-clause-tells : goal.returns-clause-tells
returns-clause-tells c = λ h t'.
    let open_state = record c.args.self.now { cache = c.make_index.new.self } in
    let t = told c.args.self.now c.make_index.new.self h c.make_index.ensures t' in
    let allowed = allowed_by h c.args.fetch.token c.args.fetch.url c.args.moment c.decide.result (sym c.is_err.ensures.value ∙ c.if-is_err.false) (c.decide.ensures (standing h) (in_flight h) t.cache_tells) in
    granted_follows open_state h t c.args.moment c.args.number c.args.fetch allowed.0 c.grant.new.self c.if-moment-self.false (sym c.is_new.ensures ∙ c.if-not-is_new.false) allowed.1 c.in_ok-grant.ensures
