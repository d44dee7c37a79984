-- The line is the entry's, and leads to the place after it.
use Rattle.std.proofs.Common.{List, ℕ, Err, Ok, ap, refl, subst, ◌∙◌}
use Rattle.crawl_audit.specs.declared.fault.AuditFault.TheVariants.{BadLine}
use Rattle.crawl_audit.specs.Audit.{AddsLine}
use Rattle.crawl_audit.specs.Records.{entry_of}
use Rattle.history_text.specs.Spell.{entry_line}
use Rattle.crawl_audit.specs.Steps.{among}
use Rattle.crawl_audit.proofs.Auditing.{moved}
use Rattle.crawl_audit.proofs.EndingLines.{refused_one, took_one}
use Rattle.crawl_audit.proofs.auditor.Auditor.end_one.Goals as goal

pub returns-in-Ok-clause-ends : goal.returns-in-Ok-clause-ends
returns-in-Ok-clause-ends c = λ schemes lines version rising h count holds is.
    let a = c.args.self.now in
    let e = entry_of c.args.end.now in
    let place = among version rising h count in
    let stands = holds.stands in
    let entries = stands.1 in
    let line = c.in_ok-self.ensures.line ∙ ap (λ v. entry_line v e) entries.version_is in
    let adds = c.in-Ok.ensures.line schemes lines place (moved schemes a _ lines place refl refl refl refl refl refl refl refl holds) in
    took_one schemes lines version rising h count a c.take_line.new.self e holds is c.spelled.ensures.fields
    (subst (λ (l : List ℕ). AddsLine schemes lines place l (Ok tt) c.take_line.new.self) line adds)

pub returns-in-Err-BadLine-clause-ends : goal.returns-in-Err-BadLine-clause-ends
returns-in-Err-BadLine-clause-ends c = λ schemes lines version rising h count holds is.
    let a = c.args.self.now in
    let e = entry_of c.args.end.now in
    let place = among version rising h count in
    let stands = holds.stands in
    let entries = stands.1 in
    let line = c.in_ok-self.ensures.line ∙ ap (λ v. entry_line v e) entries.version_is in
    let faulty = rw c.in-Err-BadLine.field-0-is at c.in-Err-BadLine.ensures.line in
    let adds = faulty schemes lines place (moved schemes a _ lines place refl refl refl refl refl refl refl refl holds) in
    refused_one schemes lines version rising h count a c.take_line.new.self e holds is c.spelled.ensures.fields c.in-Err-BadLine.number
    (subst (λ (l : List ℕ). AddsLine schemes lines place l (Err (BadLine c.in-Err-BadLine.number)) c.take_line.new.self) line adds)
