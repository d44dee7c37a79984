-- Lists in one order with the same elements are equal.
use Rattle.crawl_audit.proofs.OneOrder.{one_next_base}
use Rattle.crawl_audit.proofs.laws.each_history_leads_to_one_base.Goals as goal

pub returns : goal.returns
returns c = one_next_base
