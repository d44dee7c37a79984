-- The ends so far were added.
use Rattle.std.proofs.Common.{◌≡◌, ◌++◌, map, take}
use Rattle.crawl_audit.specs.Ending.{give_back}
use Rattle.crawl_audit.specs.Records.{entry_of}
use Rattle.crawl_audit.proofs.ending.push_returns.Given as goal

abbrev pub invariant-loop-permit : goal.invariant-loop-permit
invariant-loop-permit l = map entry_of l.ends.items ≡ map entry_of l.initial.ends.items ++ map give_back (take l.permit-index l.permits)
