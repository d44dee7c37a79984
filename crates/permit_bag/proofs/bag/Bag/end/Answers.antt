-- Between the permits and the fetches the desk is as the first part leaves it.
use Rattle.std.proofs.Common.{subst}
use Rattle.permit_bag.specs.Bags.{FinishesEach, ReturnsEach}
use Rattle.permit_bag.proofs.bag.Bag.end.Goals as goal

pub returns-clause-step : goal.returns-clause-step
returns-clause-step g c = (
  c.return_each.new.desk,
  subst (λ b. ReturnsEach c.args.desk.now b.permits c.return_each.new.desk) c.self.view_is c.return_each.ensures.step,
  subst (λ b. FinishesEach c.return_each.new.desk b.runs c.finish_each.new.desk) c.self.view_is c.finish_each.ensures.step,
)
