-- A start is what the permit and the answer say.
-- By the lemmas of `Calling`.
use Rattle.std.proofs.Common.{ℕ, Err, Ok, refl, subst}
use Rattle.gate_history.specs.declared.entry.Entry.TheVariants.{StartDenied, Started}
use Rattle.gate_history.specs.Cause.{Decides}
use Rattle.gate_core.specs.Gate.{Adds, history}
use Rattle.gate_core.proofs.Calling.{start_denied}
use Rattle.gate_core.proofs.book.Book.start_standing.Goals as goal

pub enter_start-requires-clause-spends : goal.enter_start-requires-clause-spends
enter_start-requires-clause-spends c = (
  c.args.token.now,
  (
    c.args.url,
    (
      c.requires.stands,
      subst (Decides (history c.args.self.now) c.args.token.now c.args.url c.moment_of_call-moment.result) c.in-Ok.is c.decide.ensures,
    ),
  ),
)

pub enter_denial-requires-clause-spends : goal.enter_denial-requires-clause-spends
enter_denial-requires-clause-spends c = (
  c.args.token.now,
  (
    c.args.url,
    (
      c.requires.stands,
      subst (Decides (history c.args.self.now) c.args.token.now c.args.url c.moment_of_call-moment.result) c.in-Err.is c.decide.ensures,
    ),
  ),
)

pub returns-in-Ok : goal.returns-in-Ok
returns-in-Ok c = (
  c.requires.stands,
  refl,
  refl,
  subst (λ (t : ℕ). Decides (history c.args.self.now) c.args.token.now c.args.url t (Ok c.in-Ok.reason)) c.moment_of_call-moment.ensures
      (subst (Decides (history c.args.self.now) c.args.token.now c.args.url c.moment_of_call-moment.result) c.in-Ok.is c.decide.ensures),
  subst (λ (t : ℕ). Adds c.args.self.now (Started t c.args.number c.in-Ok.reason) c.enter_start.new.self) c.moment_of_call-moment.ensures c.enter_start.ensures,
)

pub returns-in-Err : goal.returns-in-Err
returns-in-Err c =
    start_denied c.args.self.now c.enter_denial.new.self c.args.number c.args.token.now c.args.url c.args.moment c.in-Err.cause
    c.requires.stands
    (subst (λ (t : ℕ). Decides (history c.args.self.now) c.args.token.now c.args.url t (Err c.in-Err.cause)) c.moment_of_call-moment.ensures
    (subst (Decides (history c.args.self.now) c.args.token.now c.args.url c.moment_of_call-moment.result) c.in-Err.is c.decide.ensures))
    (subst (λ (t : ℕ). Adds c.args.self.now (StartDenied t c.args.number c.in-Err.cause) c.enter_denial.new.self) c.moment_of_call-moment.ensures c.enter_denial.ensures)
