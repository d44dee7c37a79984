-- Each call has a hop less.
-- Used by `starts_in`.
use Rattle.std.proofs.Common.{length}
use Rattle.crawl_shift.proofs.sums.+starts_in.Given as goal

abbrev pub decreases-starts_in : goal.decreases-starts_in
decreases-starts_in l = length l.hops.now
