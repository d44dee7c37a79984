-- A report has a text for each job, and the last line.
-- Used by `WholeReport::count`.
use Rattle.std.proofs.Common.{length, sym}
use Rattle.crawl_shift.specs.ShiftText.{sums_text}
use Rattle.crawl_shift.proofs.Reporting.{length-report_texts}
use Rattle.crawl_shift.proofs.report_lines.WholeReportTexts.count.Goals as goal

pub returns : goal.returns
returns c =
    let report = c.args.self.now in
    sym (length-report_texts 1 report.outcomes.now (sums_text (length report.outcomes.now) report.hops report.starts))
