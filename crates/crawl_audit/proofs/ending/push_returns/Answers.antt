-- One more end was added.
use Rattle.std.proofs.Common.{ap}
use Rattle.crawl_audit.specs.Ending.{give_back}
use Rattle.crawl_audit.proofs.EndingLines.{ends_more}
use Rattle.crawl_audit.proofs.ending.push_returns.Goals as goal

pub loop-permit-preserved : goal.loop-permit-preserved
loop-permit-preserved c =
    ends_more give_back c.args.permits.now c.loop-permit.permit-index c.permit-item.result c.loop-permit-test.true _ _ _ _ c.in_ok-push.ensures.items (ap give_back c.permit-item.is) c.loop-permit.invariant
