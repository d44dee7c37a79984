-- A possible outstanding permit was loaded.
use Rattle.std.proofs.Common.{Some, ap, refl}
use Rattle.crawl_audit.proofs.LoadedPermits.{permit_loaded}
use Rattle.crawl_audit.proofs.first_base.FirstBase.load_permit.Goals as goal

pub returns : goal.returns
returns c = λ b says fields may.
    permit_loaded c.args.self.now _ c.args.open_state.now c.put.new.self b says c.args.number c.args.phase c.in_ok-put.ensures (ap Some c.of_permit-last.ensures) (λ turn. refl) fields may
