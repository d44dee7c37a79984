-- Each exit is a line, the end, or a fault.
use Rattle.std.proofs.Common.{◌≡◌, ℕ, ◌+◌, List, refl, sym, subst, ◌∙◌, true≢false, arith}
use Rattle.std.specs.Io.KnownBytes.{prepend_known}
use Rattle.crawl_audit.specs.Audit.{Heard}
use Rattle.crawl_audit.proofs.Auditing.{end_fault, end_heard, few_heard, last_fault, line_fault, line_heard, long_fault, moved}
use Rattle.crawl_audit.proofs.auditor.Auditor.take.Goals as goal

pub returns-in-Ok-clause-steps : goal.returns-in-Ok-clause-steps
returns-in-Ok-clause-steps g c = λ schemes input heard.
    let a = c.args.self.now in
    let behind = prepend_known a.reader (g.R.Source.left c.args.reader.now) in
    let takes = rw c.in-Ok-Line.field-0-is at c.in-Ok-Line.ensures.takes in
    subst (λ (pending : List ℕ). Heard schemes c.take_line.new.self input (prepend_known pending (g.R.Source.left c.next_line_to.new.source)) × (c.take_line.new.self.lines ≡ a.lines + 1)) (sym c.in-Ok.ensures.reader)
    (line_heard schemes a input behind heard c.next_line_to.new.line.items _ _ takes (c.in-Ok.ensures.line schemes heard.lines heard.place (moved schemes a _ heard.lines heard.place refl refl refl refl refl refl refl refl heard.holds)))

pub returns-in-Err-clause-steps : goal.returns-in-Err-clause-steps
returns-in-Err-clause-steps g c = λ schemes input heard.
    let a = c.args.self.now in
    let behind = prepend_known a.reader (g.R.Source.left c.args.reader.now) in
    let takes = rw c.in-Ok-Line.field-0-is at c.in-Ok-Line.ensures.takes in
    line_fault schemes a input behind heard c.next_line_to.new.line.items _ c.in-Err.fault _ takes (c.in-Err.ensures.line schemes heard.lines heard.place (moved schemes a _ heard.lines heard.place refl refl refl refl refl refl refl refl heard.holds))

pub returns-in-Ok-Last-clause-steps : goal.returns-in-Ok-Last-clause-steps
returns-in-Ok-Last-clause-steps g c = λ schemes input heard.
    let a = c.args.self.now in
    let behind = prepend_known a.reader (g.R.Source.left c.args.reader.now) in
    let few = few_heard schemes a input behind heard in
    let takes = rw c.in-Ok-Last.field-0-is at c.in-Ok-Last.ensures.takes in
    last_fault schemes a input behind heard c.next_line_to.new.line.items c.next_line_to.new.self (g.R.Source.left c.next_line_to.new.source) c.saturating_add-number.result (omega (arith, c.saturating_add-number.ensures)) takes

pub returns-in-Ok-TooLong-clause-steps : goal.returns-in-Ok-TooLong-clause-steps
returns-in-Ok-TooLong-clause-steps g c = λ schemes input heard.
    let a = c.args.self.now in
    let behind = prepend_known a.reader (g.R.Source.left c.args.reader.now) in
    let few = few_heard schemes a input behind heard in
    let takes = rw c.in-Ok-TooLong.field-0-is at c.in-Ok-TooLong.ensures.takes in
    long_fault schemes a input behind heard c.next_line_to.new.self (g.R.Source.left c.next_line_to.new.source) c.saturating_add-number.result (omega (arith, c.saturating_add-number.ensures)) takes

pub returns-then-may_end-clause-steps : goal.returns-then-may_end-clause-steps
returns-then-may_end-clause-steps g c = λ schemes input heard.
    let a = c.args.self.now in
    let behind = prepend_known a.reader (g.R.Source.left c.args.reader.now) in
    let takes = rw c.in-Ok-End.field-0-is at c.in-Ok-End.ensures.takes in
    let holds = moved schemes a _ heard.lines heard.place refl refl refl refl refl refl refl refl heard.holds in
    end_heard schemes a input behind heard c.next_line_to.new.line.items c.next_line_to.new.self (g.R.Source.left c.next_line_to.new.source) _ holds takes ((c.may_end.ensures heard.place holds.stands).0 c.if-may_end.true)

pub returns-else-may_end-clause-steps : goal.returns-else-may_end-clause-steps
returns-else-may_end-clause-steps g c = λ schemes input heard.
    let a = c.args.self.now in
    let behind = prepend_known a.reader (g.R.Source.left c.args.reader.now) in
    let few = few_heard schemes a input behind heard in
    let takes = rw c.in-Ok-End.field-0-is at c.in-Ok-End.ensures.takes in
    let holds = moved schemes a _ heard.lines heard.place refl refl refl refl refl refl refl refl heard.holds in
    end_fault schemes a input behind heard c.next_line_to.new.line.items c.next_line_to.new.self (g.R.Source.left c.next_line_to.new.source) c.saturating_add-number.result (omega (arith, c.saturating_add-number.ensures)) takes
    (λ ends. true≢false (sym ((c.may_end.ensures heard.place holds.stands).1 ends) ∙ c.if-may_end.false))
