-- A visit stands behind what was done for the authority's answer; a refused turn ends it.
use Rattle.std.proofs.Common.{inl, inr, subst}
use Rattle.std.specs.Prelude.{Ok}
use Rattle.path_normal.specs.PageText.{authority_of}
use Rattle.page_worker.specs.Finding.{FindsAnswer}
use Rattle.page_worker.specs.World.{world_of}
use Rattle.page_worker.specs.declared.worker.AnswerSeen.{AnswerSeen}
use Rattle.page_worker.proofs.worker.Worker.visit_at.Goals as goal

pub returns-in-Ok-Answered-clause-visits : goal.returns-in-Ok-Answered-clause-visits
returns-in-Ok-Answered-clause-visits g c =
    let P : AnswerSeen → Type 0 = λ seen. FindsAnswer (world_of (g.F.Fetcher.gives c.args.self.now.fetcher.now) (g.F.Fetcher.follows c.args.self.now.fetcher.now) (g.C.Clock.reads c.args.self.now.clock.now)) (authority_of c.args.job.url) c.args.newcomers.now (Ok seen)
    c.find_answer.new.newcomers c.args.desk.now c.find_answer.new.desk in
    inr (record {
      between = c.find_answer.new.desk;
      sees = subst P c.in-Ok-Answered.field-0-is c.in-Ok-Answered.ensures.finds;
      asks = c.visit_asked.ensures.asks;
    })

pub returns-in-Err-clause-visits : goal.returns-in-Err-clause-visits
returns-in-Err-clause-visits g c = inl (record { refusal = c.in-Err.refusal; refused = c.in-Err.ensures.finds; tells = c.without.ensures })
