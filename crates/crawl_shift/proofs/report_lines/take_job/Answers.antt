-- The lines of a job are its text.
-- Used by `take_job`.
use Rattle.std.proofs.Common.{subst}
use Rattle.std.specs.Prelude.{OnOk}
use Rattle.crawl_shift.specs.ReportText.{job_text}
use Rattle.texts_in_order.specs.Order.{TakesText}
use Rattle.texts_in_order.proofs.CallerLemmas.{order_prefix}
use Rattle.crawl_shift.proofs.report_lines.take_job.Goals as goal

pub returns-in_default-clause-prefix : goal.returns-in_default-clause-prefix
returns-in_default-clause-prefix g c texts start is p = order_prefix texts start (g.W.Sink.written c.args.sink.now) c.args.texts.now p

pub returns-clause-ok : goal.returns-clause-ok
returns-clause-ok g c =
    subst (λ n. OnOk c.take.result (TakesText c.args.number (job_text n c.args.hops.now) (g.W.Sink.written c.args.sink.now) (g.W.Sink.written c.take.new.sink) c.args.texts.now c.take.new.self))
    (c.in-Some.ensures {u = tt}).1 c.take.ensures.ok
