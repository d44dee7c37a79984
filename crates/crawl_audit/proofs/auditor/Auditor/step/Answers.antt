-- The auditor's place says what the line may be.
use Rattle.std.proofs.Common.{ℕ, Bool, true, false, List, Ok, Err, refl, sym, ap, subst, ◌∙◌}
use Rattle.crawl_audit.specs.declared.open_state.OpenState.{OpenState}
use Rattle.crawl_audit.specs.declared.next_base.BaseLine.TheVariants.{Last, Taken}
use Rattle.crawl_audit.specs.FirstBase.{TakesBaseLine}
use Rattle.crawl_audit.specs.Loading.{with_numbers}
use Rattle.crawl_audit.specs.NextBase.{TakesNextLine}
use Rattle.crawl_audit.proofs.AuditSteps.{first_ends, first_goes_on, first_stops, further_ends, further_goes_on, step_entries}
use Rattle.crawl_audit.proofs.auditor.Auditor.step.Goals as goal

pub returns-in-Entries-clause-moves : goal.returns-in-Entries-clause-moves
returns-in-Entries-clause-moves c =
    step_entries c.args.self.now _ c.args.self.now.line.items _ c.in-Entries.is c.step_among_entries.ensures.moves

pub returns-in-Ok-false-clause-moves : goal.returns-in-Ok-false-clause-moves
returns-in-Ok-false-clause-moves c =
    first_goes_on c.args.self.now c.in-First.first c.in-First.is _ c.args.self.now.line.items c.take.new.self refl refl refl
    (λ lines reads. subst (λ (l : List ℕ). TakesBaseLine lines l (Ok false) c.take.new.self c.take.new.open_state) c.as_slice.ensures.value
    (subst (λ (b : Bool). TakesBaseLine lines c.as_slice.result.now (Ok b) c.take.new.self c.take.new.open_state) c.in-Ok-false.field-0-test (c.in-Ok-false.ensures lines reads)))

pub returns-in-Ok-true-clause-moves : goal.returns-in-Ok-true-clause-moves
returns-in-Ok-true-clause-moves c =
    let begins = c.begin_entries.ensures in
    first_ends c.args.self.now c.in-First.first c.in-First.is c.begin_entries.new.self c.args.self.now.line.items c.take.new.self begins.stage begins.version begins.count begins.events begins.starts
    (λ lines reads. subst (λ (l : OpenState). TakesBaseLine lines c.args.self.now.line.items (Ok true) c.take.new.self l) (sym begins.open_state)
    (subst (λ (l : List ℕ). TakesBaseLine lines l (Ok true) c.take.new.self c.take.new.open_state) c.as_slice.ensures.value
    (subst (λ (b : Bool). TakesBaseLine lines c.as_slice.result.now (Ok b) c.take.new.self c.take.new.open_state) c.in-Ok-true.field-0-test (c.in-Ok-true.ensures lines reads))))

pub returns-in-Err-clause-moves : goal.returns-in-Err-clause-moves
returns-in-Err-clause-moves c =
    first_stops c.args.self.now c.in-First.first c.in-First.is _ c.args.self.now.line.items c.take.new.self c.take.new.open_state c.in-Err.unread
    (λ lines reads. subst (λ (l : List ℕ). TakesBaseLine lines l (Err c.in-Err.unread) c.take.new.self c.take.new.open_state) c.as_slice.ensures.value (c.in-Err.ensures lines reads))

pub returns-in-Taken-clause-moves : goal.returns-in-Taken-clause-moves
returns-in-Taken-clause-moves c =
    further_goes_on c.args.self.now c.in-Further.next c.in-Further.is _ c.args.self.now.line.items c.take-in-Further.new.self refl refl refl refl
    (λ h lines expects. subst (λ (l : List ℕ). TakesNextLine h lines l Taken c.take-in-Further.new.self) c.as_slice-in-Further.ensures.value (c.in-Taken.ensures h lines expects))

pub returns-in-Last-clause-moves : goal.returns-in-Last-clause-moves
returns-in-Last-clause-moves c =
    let begins = c.begin_entries-in-Last.ensures in
    further_ends c.args.self.now c.in-Further.next c.in-Further.is c.begin_entries-in-Last.new.self c.args.self.now.line.items c.take-in-Further.new.self begins.stage
    (begins.open_state ∙ ap (with_numbers c.args.self.now.open_state) c.rise.ensures) begins.version begins.count begins.events begins.starts
    (λ h lines expects. subst (λ (l : List ℕ). TakesNextLine h lines l Last c.take-in-Further.new.self) c.as_slice-in-Further.ensures.value (c.in-Last.ensures h lines expects))
