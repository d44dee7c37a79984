-- A start is legal if it spends a permit with its reason.
use Rattle.crawl_audit.proofs.Following.{started_follows}
use Rattle.crawl_audit.proofs.open_state.OpenState.enter_started.Goals as goal

pub returns-clause-tells : goal.returns-clause-tells
returns-clause-tells c = λ h t.
    started_follows c.args.self.now h t c.args.moment c.args.number c.args.reason c.start.new.self c.if-moment-self.false ((c.decides.ensures h t).0 c.if-not-decides.false) c.in_ok-start.ensures
