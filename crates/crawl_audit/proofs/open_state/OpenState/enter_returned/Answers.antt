-- A return is legal if it names an unspent permit.
use Rattle.std.proofs.Common.{ap, not, sym, ◌∙◌}
use Rattle.std.proofs.lemmas.Bool.{true≢false}
use Rattle.crawl_audit.specs.Tables.{phases_of}
use Rattle.crawl_audit.proofs.Following.{none_given, returned_follows, some_given, unspent_of}
use Rattle.crawl_audit.proofs.open_state.OpenState.enter_returned.Goals as goal

pub returns-then-is_none-clause-tells : goal.returns-then-is_none-clause-tells
returns-then-is_none-clause-tells c = λ h t may.
    let none = none_given (phases_of c.args.self.now.numbers c.args.number) c.unspent.result c.unspent.ensures (c.is_none.ensures ∙ ap not c.if-is_none.true) in
    true≢false (sym may.fit ∙ unspent_of c.args.self.now h t c.args.number ∙ none)

pub returns-clause-tells : goal.returns-clause-tells
returns-clause-tells c = λ h t.
    let given = some_given (phases_of c.args.self.now.numbers c.args.number) c.unspent.result c.unspent.ensures (c.is_none.ensures ∙ ap not c.if-is_none.false) in
    returned_follows c.args.self.now h t c.args.number given.0 c.end.new.self given.1 c.end.ensures
