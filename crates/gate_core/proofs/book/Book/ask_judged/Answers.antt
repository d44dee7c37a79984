-- An ask is what the answer in force, the places and the grant say.
-- By `asks_by` of `Calling`.
use Rattle.std.proofs.Common.{ℕ, Err, Ok, subst, sym}
use Rattle.gate_history.specs.Cause.{Decides}
use Rattle.gate_core.specs.Gate.{Gate, history}
use Rattle.gate_core.specs.Opened.{Grants}
use Rattle.permit_book.specs.declared.out.Fetch.{Fetch}
use Rattle.gate_core.specs.Replies.{Asks}
use Rattle.gate_core.proofs.Calling.{asks_by}
use Rattle.gate_core.proofs.book.Book.ask_judged.Goals as goal

pub deny-requires-clause-decided : goal.deny-requires-clause-decided
deny-requires-clause-decided c =
    let fetch = c.judged.inside.fetch in
    let moment = c.moment_of_call-moment.result in
    subst (λ (g : Gate). Decides (history g) fetch.token fetch.url moment (Err c.in-Err.cause)) (sym c.take_index.ensures)
    (subst (Decides (history c.args.self.now) fetch.token fetch.url moment) c.in-Err.is c.decide-decided.ensures)

pub returns-in-Ok : goal.returns-in-Ok
returns-in-Ok c =
    let token = c.judged.inside.fetch.token in
    let url = c.judged.inside.fetch.url in
    let allowed = subst (λ (t : ℕ). Decides (history c.args.self.now) token url t (Ok c.in-Ok.field-0)) c.moment_of_call-moment.ensures
    (subst (Decides (history c.args.self.now) token url c.moment_of_call-moment.result) c.in-Ok.is c.decide-decided.ensures) in
    subst (λ (f : Fetch). Asks c.args.self.now f.token f.url c.args.moment c.grant.result c.grant.new.self) c.judged.view_is
    (asks_by c.args.self.now token url c.args.moment c.moment_of_call-moment.result c.moment_of_call-moment.ensures
    (c.has_room.ensures.0 c.if-not-has_room.false) (c.in-Ok.field-0, allowed)
    c.grant.result c.grant.new.self (subst (λ (g : Gate). Grants g token url c.moment_of_call-moment.result c.grant.result c.grant.new.self) c.take_index.ensures c.grant.ensures))
