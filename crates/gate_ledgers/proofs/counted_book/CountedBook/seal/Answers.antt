-- A seal changes nothing that is counted except what is handed out, which is all that was sealed.
use Rattle.std.proofs.Common.{◌+◌, ℕ, length, sym, ap, ◌∙◌, subst, arith}
use Rattle.std.specs.Prelude.{Ok}
use Rattle.gate_core.specs.Gate.{history}
use Rattle.gate_ledgers.specs.Balance.{Balance, IsHandedOut}
use Rattle.gate_ledgers.proofs.Counting.{handed_few, hands_more, sealed, seals_out}
use Rattle.gate_ledgers.proofs.counted_book.CountedBook.seal.Goals as goal

pub invariant_of-self : goal.invariant_of-self
invariant_of-self g c =
    let old = c.self.inside.book in
    let new = c.seal.new.self in
    let tally = c.self.inside.tally in
    let count = ap length c.entries.ensures.value in
    let total = c.hand.ensures.total in (
      hands_more (history new) tally c.hand.new.tally _ total (sealed old new (Ok c.in-Ok.segment) tally c.in-Ok.ensures c.self.invariant.0),
      subst (λ (n : ℕ). IsHandedOut new.base n) (sym (ap (λ (b : Balance). b.handed) total ∙ ap (λ (n : ℕ). tally.handed + n) count))
          (seals_out old new (Ok c.in-Ok.segment) tally c.in-Ok.ensures c.self.invariant.1),
    )

pub hand-requires : goal.hand-requires
hand-requires g c =
    let few = handed_few c.self.inside.book c.seal.new.self (Ok c.in-Ok.segment) c.self.inside.tally c.in-Ok.ensures c.self.invariant.1 in
    let count = ap length c.entries.ensures.value in
    omega (arith, few, count, c.entry_count-count.ensures, c.entry_count-count.type_inv)
