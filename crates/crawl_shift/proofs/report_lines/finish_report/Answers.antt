-- The texts of the report are those of a whole one.
-- Used by `finish_report`.
use Rattle.std.proofs.Common.{length, subst}
use Rattle.std.specs.Prelude.{OnOk}
use Rattle.crawl_shift.specs.ReportText.{report_texts}
use Rattle.crawl_shift.specs.ShiftText.{sums_text}
use Rattle.texts_in_order.specs.Order.{FinishesWith}
use Rattle.crawl_shift.proofs.report_lines.finish_report.Goals as goal

pub returns : goal.returns
returns g c =
    subst (λ hops. OnOk c.finish.result (FinishesWith (report_texts 1 c.args.outcomes.now (sums_text (length c.args.outcomes.now) hops c.args.starts))
    (g.W.Sink.written c.args.sink.now) (g.W.Sink.written c.finish.new.sink) c.args.texts.now)) c.hop_count.ensures c.finish.ensures
