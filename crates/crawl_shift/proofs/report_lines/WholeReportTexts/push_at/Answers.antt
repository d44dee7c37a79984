-- The text of a job is its lines, and that behind them the last line.
-- Used by `WholeReport::push_at`.
use Rattle.std.proofs.Common.{◌≡◌, ◌+◌, ◌∙◌, List, ℕ, [], Some, ap, arith, length, subst, sym}
use Rattle.std.specs.Prelude.{decimal}
use Rattle.std.specs.List.{slice_get}
use Rattle.std.proofs.lemmas.Bool.{ltb-false, ltb-true}
use Rattle.std.proofs.lemmas.Option.{get_or_from_slice_get, slice_get-get_or}
use Rattle.counted_io.specs.Output.{Pushes}
use Rattle.line_text.specs.Pieces.{pieces_text}
use Rattle.command_lines.specs.HopText.{hops_text}
use Rattle.crawl_job.specs.declared.hop.Hop.{Hop}
use Rattle.crawl_shift.specs.ReportText.{job_text, report_texts}
use Rattle.crawl_shift.specs.ShiftText.{sums_text}
use Rattle.crawl_shift.proofs.Reporting.{job_at, last_at, past_jobs}
use Rattle.texts_in_order.specs.Order.{text_at}
use Rattle.crawl_shift.proofs.report_lines.WholeReportTexts.push_at.Goals as goal

pub returns-in-Some : goal.returns-in-Some
returns-in-Some g c =
    let report = c.args.self.now in
    let last = sums_text (length report.outcomes.now) report.hops report.starts in
    let texts = report_texts 1 report.outcomes.now last in
    let crawled = c.in-Some.crawled.now in
    let number = c.args.number in
    let found = (c.in-Some.ensures {u = tt}).lookup in
    let is : slice_get report.outcomes.now number ≡ Some crawled = slice_get-get_or report.outcomes.now number crawled (ltb-true number (length report.outcomes.now) (sym found.0)) ∙ ap Some (sym found.1) in
    let counted : number + 1 ≡ 1 + number = omega arith in
    let same : hops_text (decimal (number + 1)) 1 c.as_slice.result.now ≡ text_at texts number =
    ap (λ (hops : List Hop). hops_text (decimal (number + 1)) 1 hops) c.as_slice.ensures.value
    ∙ ap (λ n. job_text n crawled.hops.items) counted
    ∙ sym (get_or_from_slice_get texts number (job_text (1 + number) crawled.hops.items) [] (job_at 1 number report.outcomes.now last crawled is)) in
    subst (λ text. Pushes (g.W.Sink.written c.args.sink.now) (g.W.Sink.written c.push_hops.new.sink) (g.W.Sink.failures c.args.sink.now) (g.W.Sink.failures c.push_hops.new.sink) c.args.output.now c.push_hops.new.output text c.push_hops.result)
    same c.push_hops.ensures

pub returns-in-None : goal.returns-in-None
returns-in-None g c =
    let report = c.args.self.now in
    let last = sums_text (length report.outcomes.now) report.hops report.starts in
    let texts = report_texts 1 report.outcomes.now last in
    let number = c.args.number in
    let ended = past_jobs 1 number report.outcomes.now last c.requires (ltb-false number (length report.outcomes.now) (sym (c.in-None.ensures {u = tt}).lookup.0)) in
    let is : slice_get texts number ≡ Some last = subst (λ n. slice_get texts n ≡ Some last) (sym ended) (last_at 1 report.outcomes.now last) in
    let same : pieces_text c.sums.result ≡ text_at texts number = c.sums.ensures ∙ sym (get_or_from_slice_get texts number last [] is) in
    subst (λ text. Pushes (g.W.Sink.written c.args.sink.now) (g.W.Sink.written c.push.new.sink) (g.W.Sink.failures c.args.sink.now) (g.W.Sink.failures c.push.new.sink) c.args.output.now c.push.new.output text c.push.result)
    same c.push.ensures
