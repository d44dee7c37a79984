-- The hops so far, and those that are left.
-- Used by `hop_count`.
use Rattle.std.proofs.Common.{◌≡◌, ◌+◌, ◌-◌, ◌^◌, ◌≤◌, drop}
use Rattle.std.specs.Prelude.{min}
use Rattle.crawl_shift.specs.ReportText.{hop_count}
use Rattle.crawl_shift.proofs.report_lines.hop_count.Given as goal

abbrev pub invariant-loop-crawled : goal.invariant-loop-crawled
invariant-loop-crawled l = record {
  left : min (l.hops + hop_count (drop l.crawled-index l.outcomes)) (2 ^ 64 - 1) ≡ min (hop_count l.outcomes) (2 ^ 64 - 1);
  within : l.hops ≤ 2 ^ 64 - 1;
}
