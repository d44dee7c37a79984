-- The loop ends at the end or at a fault, after the lines of a chain.
use Rattle.std.proofs.Common.{◌+◌, Bool, Ok, ap, ◌∙◌, subst}
use Rattle.std.specs.Io.KnownBytes.{prepend_known}
use Rattle.crawl_audit.specs.Audit.{TakesStep}
use Rattle.crawl_audit.proofs.Auditing.{all_audited}
use Rattle.crawl_audit.proofs.audit_text.audit_among.Goals as goal

pub returns-then-not-more-clause-ok : goal.returns-then-not-more-clause-ok
returns-then-not-more-clause-ok g c =
    let input = g.R.Source.left c.args.reader.now in
    let behind = prepend_known c.take.new.self.reader (g.R.Source.left c.take.new.reader) in
    let all = subst (λ (b : Bool). TakesStep c.args.schemes input c.loop-taken.auditor (Ok b) c.take.new.self behind) c.if-not-more.true (c.in-Ok.ensures.steps c.args.schemes input c.loop-taken.invariant.heard) in
    λ text is. all_audited c.args.schemes c.take.new.self input behind all _ (ap (λ a. a.events) c.into_audited.ensures) (ap (λ a. a.starts) c.into_audited.ensures) text is

pub returns-in-Err-clause-fault : goal.returns-in-Err-clause-fault
returns-in-Err-clause-fault g c = c.in-Err.ensures.steps c.args.schemes (g.R.Source.left c.args.reader.now) c.loop-taken.invariant.heard

pub loop-taken-preserved : goal.loop-taken-preserved
loop-taken-preserved g c =
    let input = g.R.Source.left c.args.reader.now in
    let behind = prepend_known c.take.new.self.reader (g.R.Source.left c.take.new.reader) in
    let steps = subst (λ (b : Bool). TakesStep c.args.schemes input c.loop-taken.auditor (Ok b) c.take.new.self behind) c.if-not-more.false (c.in-Ok.ensures.steps c.args.schemes input c.loop-taken.invariant.heard) in
    record {
      heard = steps.0;
      lines = steps.1 ∙ ap (λ n. n + 1) c.loop-taken.invariant.lines;
      reads = c.in-Ok.ensures.reads ∙ c.loop-taken.invariant.reads;
    }
