-- An arrival is legal if it is in time for the turn in flight.
-- By `Following`, of the answer made from what was read.
use Rattle.std.proofs.Common.{ℕ, sym, subst, ◌∙◌}
use Rattle.std.proofs.lemmas.Bool.{true≢false}
use Rattle.authority_cache.specs.Calls.{Arrives, Changes}
use Rattle.authority_cache.specs.Lives.{Timed, timed}
use Rattle.authority_cache.specs.Sites.{arrived, site_of}
use Rattle.robots_verdict.specs.Answer.{said}
use Rattle.crawl_audit.proofs.Following.{arrived_follows, arrives_fine, arrives_stale, flying_turn}
use Rattle.crawl_audit.proofs.open_state.OpenState.enter_arrived.Goals as goal

pub returns-then-is_err-clause-tells : goal.returns-then-is_err-clause-tells
returns-then-is_err-clause-tells c = λ h legal t may.
    let stale = arrives_stale c.args.self.now.cache c.arrive.new.self c.args.authority.now c.args.turn c.new-brought.result c.arrive.result (sym c.is_err.ensures.value ∙ c.if-is_err.true) c.arrive.ensures in
    true≢false (sym may.fit.1 ∙ flying_turn c.args.self.now h t c.args.authority.now c.args.turn ∙ stale)

pub returns-clause-tells : goal.returns-clause-tells
returns-clause-tells c = λ h legal t.
    let cache = c.args.self.now.cache in
    let authority = c.args.authority.now in
    let says = said c.args.answer in
    let arrives = subst (λ (a : Timed). Arrives cache authority c.args.turn a c.arrive.result c.arrive.new.self) c.new-brought.ensures c.arrive.ensures in
    let fine = arrives_fine cache c.arrive.new.self authority c.args.turn (timed c.args.answer c.args.life) c.arrive.result (sym c.is_err.ensures.value ∙ c.if-is_err.false) arrives in
    arrived_follows c.args.self.now h t legal c.args.moment c.args.turn c.args.life authority says c.arrive.new.self c.if-moment-self.false c.requires fine.0
    (subst (λ (life : ℕ). Changes cache authority (arrived c.args.turn says life (site_of cache authority)) c.arrive.new.self) c.requires fine.1)
