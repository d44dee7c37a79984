-- The copied job is the numbered one.
-- Used by `Crew::do_job`.
use Rattle.std.proofs.Common.{◌≡◌, refl, subst}
use Rattle.crawl_job.specs.declared.job.Job.{Job}
use Rattle.page_worker.specs.Outcomes.{IsOutcome}
use Rattle.page_worker.specs.World.{world_of}
use Rattle.crawl_workers.proofs.crew.Crew.do_job.Goals as goal

pub returns-clause-ok : goal.returns-clause-ok
returns-clause-ok g c =
    let job = c.args.job.now in
    let outcome = c.in_ok-outcome.outcome in
    let works = c.in_ok-outcome.ensures.ok in
    let same : c.in_ok-copy.field-0 ≡ job = λ i. record { token = c.in_ok-copy.ensures.token i; url = c.in_ok-copy.ensures.url i } in (
      works.0,
      (
        works.1.0,
        record {
          job = job;
          outcome = outcome;
          job_is = c.requires;
          hops_are = refl;
          told = subst (λ (j : Job). IsOutcome (world_of (g.F.Fetcher.gives c.args.self.now.fetcher.now) (g.F.Fetcher.follows c.args.self.now.fetcher.now) (g.C.Clock.reads c.args.self.now.clock.now)) j outcome works.0) same works.1.1;
        },
      ),
    )
