-- The first line may be a head.
use Rattle.std.proofs.Common.{◌≢◌, codes, refl, sym, ◌∙◌, true≢false}
use Rattle.std.proofs.lemmas.Slice.Eq.{bytes_eq-Decides}
use Rattle.crawl_audit.proofs.AuditSteps.{moves_start, takes_three, takes_two}
use Rattle.crawl_audit.proofs.auditor.Auditor.step_from_start.Goals as goal

pub returns-then-eq-clause-moves : goal.returns-then-eq-clause-moves
returns-then-eq-clause-moves c = λ stands.
    let a = c.args.self.now in
    let same = (bytes_eq-Decides c.as_slice.result.now c.as_bytes.result.now).0 (sym c.eq.ensures ∙ c.if-eq.true) in
    takes_two a _ a.line.items refl refl refl stands.1 (sym c.as_slice.ensures.value ∙ same ∙ c.as_bytes.ensures.value) refl refl refl

pub returns-then-eq-2-clause-moves : goal.returns-then-eq-2-clause-moves
returns-then-eq-2-clause-moves c = λ stands.
    let a = c.args.self.now in
    let are = stands.1 in
    let same = (bytes_eq-Decides c.as_slice-2.result.now c.as_bytes-2.result.now).0 (sym c.eq-2.ensures ∙ c.if-eq-2.true) in
    takes_three a _ a.line.items refl refl refl c.new.result (sym c.as_slice-2.ensures.value ∙ same ∙ c.as_bytes-2.ensures.value) refl (c.new.ensures a.open_state are.tells)

two : (c : goal.After-take_entry) → c.args.self.now.line.items ≢ codes "V 2"
two c is =
    let same = (bytes_eq-Decides c.as_slice.result.now c.as_bytes.result.now).1 (c.as_slice.ensures.value ∙ is ∙ sym c.as_bytes.ensures.value) in
    true≢false (sym (c.eq.ensures ∙ same) ∙ c.if-eq.false)

three : (c : goal.After-take_entry) → c.args.self.now.line.items ≢ codes "V 3"
three c is =
    let same = (bytes_eq-Decides c.as_slice-2.result.now c.as_bytes-2.result.now).1 (c.as_slice-2.ensures.value ∙ is ∙ sym c.as_bytes-2.ensures.value) in
    true≢false (sym (c.eq-2.ensures ∙ same) ∙ c.if-eq-2.false)

pub returns-clause-moves : goal.returns-clause-moves
returns-clause-moves c = λ stands.
    let are = stands.1 in
    moves_start c.args.self.now c.take_entry.new.self c.args.self.now.line.items c.take_entry.result (two c) (three c) (c.take_entry.ensures.line _ _ _ _ are)
