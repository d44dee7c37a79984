-- The ask is granted, or its refusal is the visit's.
use Rattle.std.proofs.Common.{◌∙◌, ap, inl, inr}
use Rattle.page_worker.specs.Visits.{visit_without}
use Rattle.page_worker.proofs.worker.Worker.visit_asked.Goals as goal

pub returns-in-Ok-clause-asks : goal.returns-in-Ok-clause-asks
returns-in-Ok-clause-asks g c =
    inr (record {
      permit = c.in-Ok.permit;
      moment = c.now.result;
      read = c.now.ensures;
      between = c.ask.new.self;
      asks = c.in-Ok.ensures.step;
      spends = c.visit_granted.ensures.spends;
    })

pub returns-in-Err-clause-asks : goal.returns-in-Err-clause-asks
returns-in-Err-clause-asks g c =
    inl (record {
      refusal = c.in-Err.refusal;
      moment = c.now.result;
      read = c.now.ensures;
      asks = c.in-Err.ensures.step;
      tells = c.without.ensures ∙ ap visit_without c.ask_hop.ensures;
    })
