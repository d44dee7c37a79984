-- All outcomes are counted.
-- Used by `hop_count`.
use Rattle.std.proofs.Common.{arith}
use Rattle.crawl_shift.proofs.Reporting.{all_counted}
use Rattle.crawl_shift.proofs.report_lines.hop_count.Goals as goal

pub returns : goal.returns
returns c =
    all_counted c.args.outcomes.now c.loop-crawled.crawled-index c.loop-crawled.hops
    (omega (arith, c.loop-crawled.auto.crawled-index-end)) c.loop-crawled.invariant.within c.loop-crawled.invariant.left
