-- The book continues from a base that says what its history did.
-- By the lemmas of `SealedBook`.
use Rattle.std.proofs.Common.{◌≡◌, ◌≤◌, ◌<◌, [], Vec, Global, length, refl, sym, ap, subst, ◌∙◌, arith}
use Rattle.std.specs.Prelude.{vec_capacity, vec_len}
use Rattle.std.proofs.lemmas.Bool.{eqb-false}
use Rattle.gate_history.specs.declared.entry.Entry.{Entry}
use Rattle.gate_history.specs.Base.{Base, IsBase}
use Rattle.gate_history.specs.History.{from}
use Rattle.gate_history.specs.Seal.{SaysAs}
use Rattle.gate_history.proofs.CallerLemmas.{says_base}
use Rattle.gate_core.specs.Gate.{Gate, history, promised}
use Rattle.gate_core.specs.Kept.{gate_of}
use Rattle.gate_core.specs.Sealing.{HandsOut}
use Rattle.gate_core.proofs.Keeping.{told}
use Rattle.gate_core.proofs.SealedBook.{behind, handed, sealed_kept}
use Rattle.gate_core.proofs.book.Book.seal.Goals as goal

says : (c : goal.After-of) → SaysAs (from c.replace-base.new.dest) (told c.self.inside)
says c =
    subst (λ (base : Base). SaysAs (from base) (told c.self.inside)) (sym c.replace-base.ensures.after)
    (subst (λ (g : Gate). SaysAs (from c.in_ok-next.next) (history g)) (sym c.self.view_is) c.in_ok-next.ensures)

is_base : (c : goal.After-of) → IsBase c.replace-base.new.dest
is_base c = says_base c.replace-base.new.dest (told c.self.inside) c.self.invariant.legal (says c)

empty : (c : goal.After-of) → c.replace-entries.new.dest.items ≡ []
empty c = ap (λ (v : Vec Entry Global). v.items) c.replace-entries.ensures.after ∙ c.in_ok-room.ensures.items

fits : (c : goal.After-of) → promised (told c.self.inside) ≤ vec_capacity c.replace-entries.new.dest
fits c =
    subst (λ (v : Vec Entry Global). promised (told c.self.inside) ≤ vec_capacity v) (sym c.replace-entries.ensures.after)
    (omega (arith, c.promised.ensures.value ∙ ap (λ (g : Gate). promised (history g)) (sym c.self.view_is), c.in_ok-room.ensures.capacity))

pub invariant_of-self : goal.invariant_of-self
invariant_of-self c = sealed_kept c.self.inside c.self.invariant c.replace-base.new.dest c.replace-entries.new.dest (is_base c) (says c) (empty c) (fits c)

pub returns : goal.returns
returns c =
    let b = c.self.inside in
    let some : 0 < length b.entries.items = omega (arith, eqb-false (vec_len b.entries) 0 (sym c.is_empty.ensures ∙ c.if-is_empty.false), b.entries.ok) in
    let new = gate_of (behind b c.self.invariant c.replace-base.new.dest c.replace-entries.new.dest (is_base c) (says c) (empty c)) in
    subst (λ (g : Gate). HandsOut g.entries g c.of.result new) c.self.view_is
    (handed b.entries.items (gate_of b) new c.of.result some
    (c.of.ensures ∙ (λ i. record { base = c.replace-base.ensures.value i; entries = (c.replace-entries.ensures.value i).items }))
    (record { limits = refl; entries = empty c; says = says c }))
