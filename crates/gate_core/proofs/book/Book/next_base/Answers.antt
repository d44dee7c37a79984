-- The tables list what the history left open, in any order.
-- By the lemmas of `NextBase`.
use Rattle.std.proofs.Common.{refl, ap, subst, sym, ◌∙◌}
use Rattle.gate_history.specs.Base.{Base, IsBase}
use Rattle.gate_history.specs.History.{entry_count, from}
use Rattle.gate_history.specs.Seal.{SaysAs}
use Rattle.gate_history.proofs.CallerLemmas.{reordering_says, says_base, says_on}
use Rattle.gate_core.specs.Gate.{Gate, history}
use Rattle.gate_core.proofs.Keeping.{told}
use Rattle.gate_core.proofs.NextBase.{given_says, grants_fit}
use Rattle.gate_core.proofs.book.Book.next_base.Goals as goal

abbrev given : goal.After-entry_count → Base
given c = record {
  standing = c.in_ok-standing_answers.field-0.items;
  in_flight = c.in_ok-turns.field-0.items;
  unspent = c.in_ok-unspent_permits.field-0.items;
  running = c.in_ok-running_permits.field-0.items;
  grants = c.in_ok-grants_in.field-0.items;
  begins = c.self.inside.begins;
  moment = c.self.inside.clock;
  entries = c.entry_count.result;
  started = c.self.inside.starts;
}

says : (c : goal.After-entry_count) → SaysAs (from (given c)) (told c.self.inside)
says c =
    given_says c.self.inside c.self.invariant (given c) c.in_ok-standing_answers.ensures c.in_ok-turns.ensures c.in_ok-unspent_permits.ensures
    c.in_ok-running_permits.ensures c.in_ok-grants_in.ensures refl refl
    (c.entry_count.ensures ∙ ap (λ (g : Gate). entry_count (history g)) (sym c.self.view_is)) refl

is_base : (c : goal.After-entry_count) → IsBase (given c)
is_base c = says_base (given c) (told c.self.inside) c.self.invariant.legal (says c)

pub of-requires : goal.of-requires
of-requires c = record { base = is_base c; grants = grants_fit c.self.inside c.self.invariant (given c) (says c) }

pub returns : goal.returns
returns c =
    let b = c.before in
    subst (λ (g : Gate). SaysAs (from c.of.result) (history g)) c.self.view_is
    (says_on (from c.of.result) (from (given c.before)) (told c.self.inside) (reordering_says (given c.before) c.of.result (is_base c.before) c.of.ensures.same) (says c.before))
