-- The fetch is that of the permit, so its entries are.
use Rattle.std.proofs.Common.{ℕ, List, ap, ◌∙◌, ◌≡◌, subst}
use Rattle.path_normal.specs.declared.schemes.Schemes.{Schemes}
use Rattle.gate_history.specs.declared.outcome.Reason.{Reason}
use Rattle.gate_lock.specs.Desks.{Pass}
use Rattle.gate_lock.specs.Steps.{DeskFinishes, Somewhere}
use Rattle.page_worker.specs.WaysOn.{GoesOn}
use Rattle.page_worker.specs.World.{world_of}
use Rattle.page_worker.proofs.Hops.{fetched_once, start_denied}
use Rattle.page_worker.proofs.worker.Worker.fetch_granted.Goals as goal

pub returns-in-Err-clause-tells : goal.returns-in-Err-clause-tells
returns-in-Err-clause-tells g c =
    start_denied (world_of (g.F.Fetcher.gives c.args.self.now.fetcher.now) (g.F.Fetcher.follows c.args.self.now.fetcher.now) (g.C.Clock.reads c.args.self.now.clock.now)) c.args.permit c.now.result c.args.followed c.in-Err.denial
    c.new.result.items c.args.desk.now c.start.new.self c.now.ensures c.new.ensures.items c.in-Err.ensures.step

pub returns-clause-tells : goal.returns-clause-tells
returns-clause-tells g c =
    let world = world_of (g.F.Fetcher.gives c.args.self.now.fetcher.now) (g.F.Fetcher.follows c.args.self.now.fetcher.now) (g.C.Clock.reads c.args.self.now.clock.now) in
    let permit = c.args.permit in
    let run = c.in-Ok.running in
    let given = c.fetch_page-fetched.result.1 in
    let way = c.way_on-way.result in
    let pass : run.pass ≡ permit = c.in-Ok.ensures.ok.0 in
    let spent : c.fetch_page-fetched.result.0 ≡ permit = c.fetch_page-fetched.ensures.spent ∙ pass in
    let number : c.number-number.result ≡ permit.number = c.number-number.ensures ∙ ap (λ (p : Pass). p.number) pass in
    let url : c.url.result.now ≡ permit.url = c.url.ensures ∙ ap (λ (p : Pass). p.url) spent in
    let P : ℕ → Type 0 = λ n. GoesOn c.schemes-schemes.result n c.reason-reason.result c.args.followed c.url.result.now given way in
    let Q : Reason → Type 0 = λ reason. GoesOn c.schemes-schemes.result permit.number reason c.args.followed c.url.result.now given way in
    let R : List ℕ → Type 0 = λ u. GoesOn c.schemes-schemes.result permit.number run.reason c.args.followed u given way in
    let V : Schemes → Type 0 = λ schemes. GoesOn schemes permit.number run.reason c.args.followed permit.url given way in
    let S : Pass → Type 0 = λ p. Somewhere c.start.new.self (λ g1 g2. DeskFinishes c.start.new.self g1 p.number g2 c.finish.new.self) in
    let T : Pass → Type 0 = λ p. world.gives world.page_limit p.url given in
    fetched_once world permit c.now.result c.args.followed run given way c.args.desk.now c.start.new.self c.finish.new.self
    c.now.ensures c.in-Ok.ensures.step (subst T pass c.fetch_page-fetched.ensures.given)
    (subst V c.schemes-schemes.ensures (subst R url (subst Q c.reason-reason.ensures (subst P number c.way_on-way.ensures))))
    (subst S spent c.finish.ensures.step)
