-- Each exit is a whole line, the end of these, or a fault.
use Rattle.std.proofs.Common.{◌≡◌, ℕ, ◌+◌, List, arith, length, refl, subst, sym}
use Rattle.std.specs.Io.KnownBytes.{prepend_known}
use Rattle.crawl_audit.specs.declared.whole_lines.WholeLines.{WholeLines}
use Rattle.crawl_audit.specs.Recovering.{HeardWhole}
use Rattle.crawl_audit.proofs.Auditing.{few_heard, moved}
use Rattle.crawl_audit.proofs.WholeTexts.{fault_line, fault_long, few_octets, no_line, torn_line, whole_line}
use Rattle.crawl_audit.proofs.whole_lines.WholeLines.take.Goals as goal

pub returns-in-Ok-clause-steps : goal.returns-in-Ok-clause-steps
returns-in-Ok-clause-steps g c = λ schemes input whole.
    let w = c.args.self.now in
    let a = w.auditor in
    let heard = whole.heard in
    let behind = prepend_known a.reader (g.R.Source.left c.args.reader.now) in
    let takes = rw c.in-Ok-Line.field-0-is at c.in-Ok-Line.ensures.takes in
    let line = c.next_line_to.new.line.items in
    let more : WholeLines = record { auditor = c.take_line.new.self; octets = c.saturating_add-self.result } in
    let few = few_octets schemes w input behind whole in
    let counted : c.saturating_add-self.result ≡ w.octets + length line + 1 = omega (arith, c.saturating_add-self.ensures, c.saturating_add.ensures, c.len-octets.ensures, few, takes.fits) in
    subst (λ (pending : List ℕ). HeardWhole schemes more input (prepend_known pending (g.R.Source.left c.next_line_to.new.source)) × (c.take_line.new.self.lines ≡ a.lines + 1)) (sym c.in-Ok.ensures.reader)
    (whole_line schemes w input behind whole line _ more takes (c.in-Ok.ensures.line schemes heard.lines heard.place (moved schemes a _ heard.lines heard.place refl refl refl refl refl refl refl refl heard.holds)) counted)

pub returns-in-Err-clause-steps : goal.returns-in-Err-clause-steps
returns-in-Err-clause-steps g c = λ schemes input whole.
    let w = c.args.self.now in
    let a = w.auditor in
    let heard = whole.heard in
    let behind = prepend_known a.reader (g.R.Source.left c.args.reader.now) in
    let takes = rw c.in-Ok-Line.field-0-is at c.in-Ok-Line.ensures.takes in
    fault_line schemes w input behind whole c.next_line_to.new.line.items _ c.in-Err.fault _ takes
    (c.in-Err.ensures.line schemes heard.lines heard.place (moved schemes a _ heard.lines heard.place refl refl refl refl refl refl refl refl heard.holds))

pub returns-in-Ok-Last-clause-steps : goal.returns-in-Ok-Last-clause-steps
returns-in-Ok-Last-clause-steps g c = λ schemes input whole.
    let w = c.args.self.now in
    let a = w.auditor in
    let heard = whole.heard in
    let behind = prepend_known a.reader (g.R.Source.left c.args.reader.now) in
    let takes = rw c.in-Ok-Last.field-0-is at c.in-Ok-Last.ensures.takes in
    torn_line schemes w input behind whole _ (moved schemes a _ heard.lines heard.place refl refl refl refl refl refl refl refl heard.holds) refl
    c.next_line_to.new.line.items c.next_line_to.new.self (g.R.Source.left c.next_line_to.new.source) takes

pub returns-in-Ok-End-clause-steps : goal.returns-in-Ok-End-clause-steps
returns-in-Ok-End-clause-steps g c = λ schemes input whole.
    let w = c.args.self.now in
    let a = w.auditor in
    let heard = whole.heard in
    let behind = prepend_known a.reader (g.R.Source.left c.args.reader.now) in
    let takes = rw c.in-Ok-End.field-0-is at c.in-Ok-End.ensures.takes in
    no_line schemes w input behind whole _ (moved schemes a _ heard.lines heard.place refl refl refl refl refl refl refl refl heard.holds) refl
    c.next_line_to.new.line.items c.next_line_to.new.self (g.R.Source.left c.next_line_to.new.source) takes

pub returns-in-Ok-TooLong-clause-steps : goal.returns-in-Ok-TooLong-clause-steps
returns-in-Ok-TooLong-clause-steps g c = λ schemes input whole.
    let w = c.args.self.now in
    let a = w.auditor in
    let behind = prepend_known a.reader (g.R.Source.left c.args.reader.now) in
    let few = few_heard schemes a input behind whole.heard in
    let takes = rw c.in-Ok-TooLong.field-0-is at c.in-Ok-TooLong.ensures.takes in
    fault_long schemes w input behind whole c.next_line_to.new.self (g.R.Source.left c.next_line_to.new.source) c.saturating_add-number.result (omega (arith, c.saturating_add-number.ensures)) takes
