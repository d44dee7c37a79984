-- A denied ask is legal if it is in time, with the answer's cause.
use Rattle.std.proofs.Common.{sym, subst, ◌∙◌}
use Rattle.authority_cache.specs.Lists.{TellsCache}
use Rattle.authority_cache.specs.Sites.{Known}
use Rattle.std.proofs.lemmas.Bool.{true≢false}
use Rattle.gate_history.specs.Cause.{Decides}
use Rattle.gate_history.specs.History.{now}
use Rattle.gate_history.specs.Standing.{in_flight, standing}
use Rattle.crawl_audit.proofs.Following.{ask_denied_follows, late, not_so, told}
use Rattle.crawl_audit.proofs.open_state.OpenState.enter_ask_denied.Goals as goal
use Rattle.std.proofs.Common.{Err}
use Rattle.crawl_audit.proofs.open_state.OpenState.enter_ask_denied.Goals.{then-moment-self-via-then-moment-self, then-moment-self-via-else-moment-self+then-not-is_same}

pub returns-then-moment-self-clause-tells : goal.returns-then-moment-self-clause-tells
returns-then-moment-self-clause-tells c = λ h t may.
    elim c.then-moment-self.branch [
      | then-moment-self-via-then-moment-self w ↦ late c.args.self.now.clock c.args.moment (now h) t.clock_is w.if-moment-self.true may.fit.0
      | then-moment-self-via-else-moment-self+then-not-is_same w ↦
          not_so c.args.self.now h t c.args.fetch.now.token c.args.fetch.now.url c.args.moment c.decide-decided.result (Err c.args.cause) (c.decide-decided.ensures (standing h) (in_flight h) (subst (λ (known : Known). TellsCache known (standing h) (in_flight h)) (sym c.make_index.ensures) t.cache_tells))
          (λ e. true≢false (sym (w.is_same.ensures.1 e) ∙ w.if-not-is_same.true)) may.fit.1
    ]

pub returns-clause-tells : goal.returns-clause-tells
returns-clause-tells c = λ h t'.
    let open_state = record c.args.self.now { cache = c.make_index.new.self } in
    let t = told c.args.self.now c.make_index.new.self h c.make_index.ensures t' in
    ask_denied_follows open_state h t c.args.moment c.args.fetch.now c.args.cause c.if-moment-self.false
    (subst (Decides h c.args.fetch.now.token c.args.fetch.now.url c.args.moment) (c.is_same.ensures.0 c.if-not-is_same.false) (c.decide-decided.ensures (standing h) (in_flight h) t.cache_tells))
