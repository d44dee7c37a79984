-- The line may be the head of a further text.
use Rattle.std.proofs.Common.{◌≢◌, codes, refl, sym, ◌∙◌, true≢false}
use Rattle.std.proofs.lemmas.Slice.Eq.{bytes_eq-Decides}
use Rattle.crawl_audit.proofs.AuditSteps.{moves_among, takes_further}
use Rattle.crawl_audit.proofs.auditor.Auditor.step_among_entries.Goals as goal

pub returns-then-eq-clause-moves : goal.returns-then-eq-clause-moves
returns-then-eq-clause-moves c = λ version rising h count are.
    let a = c.args.self.now in
    let same = (bytes_eq-Decides c.as_slice.result.now c.as_bytes.result.now).0 (sym c.eq.ensures ∙ c.if-eq.true) in
    takes_further a _ a.line.items refl refl refl version rising h count _ are (sym c.as_slice.ensures.value ∙ same ∙ c.as_bytes.ensures.value) refl (c.in_ok-next_base.ensures h are.legal are.tells)

three : (c : goal.After-take_entry) → c.args.self.now.line.items ≢ codes "V 3"
three c is =
    let same = (bytes_eq-Decides c.as_slice.result.now c.as_bytes.result.now).1 (c.as_slice.ensures.value ∙ is ∙ sym c.as_bytes.ensures.value) in
    true≢false (sym (c.eq.ensures ∙ same) ∙ c.if-eq.false)

pub returns-clause-moves : goal.returns-clause-moves
returns-clause-moves c = λ version rising h count are.
    moves_among version rising h count c.args.self.now c.take_entry.new.self c.args.self.now.line.items c.take_entry.result (three c) (c.take_entry.ensures.line version rising h count are)
