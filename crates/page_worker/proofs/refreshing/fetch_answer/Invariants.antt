-- The walk has followed redirects, each given for the URL then asked.
use Rattle.std.proofs.Common.{◌-◌}
use Rattle.robots_fetch.specs.Redirects.{most_redirects}
use Rattle.fetchers.specs.Limits.{robots_limit}
use Rattle.page_worker.proofs.Fetching.{IsUnderWay}
use Rattle.page_worker.proofs.refreshing.fetch_answer.Given as goal

abbrev pub invariant-loop-next : goal.invariant-loop-next
invariant-loop-next g l = IsUnderWay (g.F.Fetcher.follows l.fetcher) ((g.F.Fetcher.gives l.fetcher).holds robots_limit) l.turn.authority l.walk

abbrev pub decreases-loop-next : goal.decreases-loop-next
decreases-loop-next g l = most_redirects - l.walk.followed
