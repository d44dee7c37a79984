-- A finish is legal if it names a running fetch.
use Rattle.std.proofs.Common.{sym, ◌∙◌}
use Rattle.std.proofs.lemmas.Bool.{true≢false}
use Rattle.crawl_audit.proofs.Following.{finished_follows, running_of}
use Rattle.crawl_audit.proofs.open_state.OpenState.enter_finished.Goals as goal

pub returns-then-not-is_running-clause-tells : goal.returns-then-not-is_running-clause-tells
returns-then-not-is_running-clause-tells c = λ h t may.
    true≢false (sym may.fit ∙ running_of c.args.self.now h t c.args.number ∙ sym c.is_running.ensures ∙ c.if-not-is_running.true)

pub returns-clause-tells : goal.returns-clause-tells
returns-clause-tells c = λ h t.
    finished_follows c.args.self.now h t c.args.number c.end.new.self (sym c.is_running.ensures ∙ c.if-not-is_running.false) c.end.ensures
