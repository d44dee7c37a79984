-- A slot's possible greatest generation was loaded.
use Rattle.std.proofs.Common.{refl}
use Rattle.crawl_audit.proofs.LoadedPermits.{grant_loaded}
use Rattle.crawl_audit.proofs.first_base.FirstBase.load_grant.Goals as goal

pub returns : goal.returns
returns c = λ b says fields may.
    grant_loaded c.args.self.now _ c.args.open_state.now c.load_grant.new.self b says c.args.grant c.in_ok-load_grant.ensures fields may refl (λ turn. refl)
