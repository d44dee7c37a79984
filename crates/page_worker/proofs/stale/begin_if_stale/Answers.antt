-- Whether a turn is due of the gate that is lent and of the page's authority.
-- By the lemmas `none_due` and `some_due`.
use Rattle.std.proofs.Common.{rules}
use Rattle.path_normal.specs.PageText.{authority_of}
use Rattle.page_worker.proofs.InForce.{none_due, some_due}
use Rattle.page_worker.proofs.stale.begin_if_stale.Goals as goal

pub returns-then-not-is_due-clause-begins : goal.returns-then-not-is_due-clause-begins
returns-then-not-is_due-clause-begins g c = (
  none_due c.args.closed_for c.args.held.now c.state_in-state.new.held c.book.result.now (authority_of c.args.url.now)
      c.authority-2.result.now c.args.moment c.is_due.result c.is_due.ensures c.if-not-is_due.true c.book.ensures.value
      c.state_in-state.ensures.1 c.authority-2.ensures.value,
  search rules,
  search rules,
)

pub returns-then-state-clause-begins : goal.returns-then-state-clause-begins
returns-then-state-clause-begins g c =
    let due = some_due c.args.closed_for c.args.held.now c.state_in-state.new.held c.book.result.now (authority_of c.args.url.now)
    c.authority-2.result.now c.args.moment c.is_due.result c.is_due.ensures c.if-not-is_due.false c.book.ensures.value
    c.state_in-state.ensures.1 c.authority-2.ensures.value in
    (due, search rules, search rules)

pub returns-in_default-clause-begins : goal.returns-in_default-clause-begins
returns-in_default-clause-begins g c =
    let due = some_due c.args.closed_for c.args.held.now c.state_in-state.new.held c.book.result.now (authority_of c.args.url.now)
    c.authority-2.result.now c.args.moment c.is_due.result c.is_due.ensures c.if-not-is_due.false c.book.ensures.value
    c.state_in-state.ensures.1 c.authority-2.ensures.value in
    (due, search rules, search rules)

pub returns-in_err-begin_within-clause-begins : goal.returns-in_err-begin_within-clause-begins
returns-in_err-begin_within-clause-begins g c =
    let due = some_due c.args.closed_for c.args.held.now c.state_in-state.new.held c.book.result.now (authority_of c.args.url.now)
    c.authority-2.result.now c.args.moment c.is_due.result c.is_due.ensures c.if-not-is_due.false c.book.ensures.value
    c.state_in-state.ensures.1 c.authority-2.ensures.value in
    search (rules, due)

pub returns-clause-begins : goal.returns-clause-begins
returns-clause-begins g c =
    let due = some_due c.args.closed_for c.args.held.now c.state_in-state.new.held c.book.result.now (authority_of c.args.url.now)
    c.authority-2.result.now c.args.moment c.is_due.result c.is_due.ensures c.if-not-is_due.false c.book.ensures.value
    c.state_in-state.ensures.1 c.authority-2.ensures.value in
    (due, search rules)
