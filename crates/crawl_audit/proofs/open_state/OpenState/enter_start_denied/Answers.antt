-- A denied start is legal if it spends a permit with its cause.
use Rattle.crawl_audit.proofs.Following.{start_denied_follows}
use Rattle.crawl_audit.proofs.open_state.OpenState.enter_start_denied.Goals as goal

pub returns-clause-tells : goal.returns-clause-tells
returns-clause-tells c = λ h t.
    start_denied_follows c.args.self.now h t c.args.moment c.args.number c.args.cause c.end.new.self c.if-moment-self.false ((c.decides.ensures h t).0 c.if-not-decides.false) c.end.ensures
