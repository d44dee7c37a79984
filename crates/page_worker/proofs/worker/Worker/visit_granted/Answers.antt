-- The fetch is that of the permit, which is spent on it.
use Rattle.std.proofs.Common.{◌≡◌, ◌∙◌, ℕ, ap, inl, inr, subst}
use Rattle.gate_history.specs.declared.outcome.Reason.{Reason}
use Rattle.gate_lock.specs.Desks.{Pass}
use Rattle.gate_lock.specs.Steps.{DeskFinishes, Somewhere}
use Rattle.page_worker.specs.Visits.{visit_of}
use Rattle.page_worker.proofs.worker.Worker.visit_granted.Goals as goal

pub returns-in-Err-clause-spends : goal.returns-in-Err-clause-spends
returns-in-Err-clause-spends g c =
    inl (record {
      denial = c.in-Err.denial;
      moment = c.now.result;
      read = c.now.ensures;
      starts = c.in-Err.ensures.step;
      tells = c.without.ensures;
    })

pub returns-clause-spends : goal.returns-clause-spends
returns-clause-spends g c =
    let permit = c.args.permit in
    let run = c.in-Ok.running in
    let given = c.fetch_page-fetched.result.1 in
    let failure = c.fetch_page-fetched.new.failure in
    let pass : run.pass ≡ permit = c.in-Ok.ensures.ok.0 in
    let spent : c.fetch_page-fetched.result.0 ≡ permit = c.fetch_page-fetched.ensures.spent ∙ pass in
    let number : c.number-number.result ≡ permit.number = c.number-number.ensures ∙ ap (λ (p : Pass). p.number) pass in
    let P : ℕ → Type 0 = λ n. c.of.result ≡ visit_of n c.reason-reason.result given failure in
    let Q : Reason → Type 0 = λ reason. c.of.result ≡ visit_of permit.number reason given failure in
    let S : Pass → Type 0 = λ p. Somewhere c.start.new.self (λ before behind. DeskFinishes c.start.new.self before p.number behind c.finish.new.self) in
    let T : Pass → Type 0 = λ p. (g.F.Fetcher.gives c.args.self.now.fetcher.now).holds (g.F.Fetcher.gives c.args.self.now.fetcher.now).page_limit p.url given in
    inr (record {
      run = run;
      moment = c.now.result;
      read = c.now.ensures;
      between = c.start.new.self;
      starts = c.in-Ok.ensures.step;
      given = given;
      is_given = subst T pass c.fetch_page-fetched.ensures.given;
      failure = failure;
      finishes = subst S spent c.finish.ensures.step;
      tells = subst Q c.reason-reason.ensures (subst P number c.of.ensures);
    })
