-- A good permit is not denied as spent.
use Rattle.gate_lock.proofs.Denying.{not_spent}
use Rattle.gate_lock.proofs.desk.Desk.start.Goals as goal

pub returns-clause-cause : goal.returns-clause-cause
returns-clause-cause g c =
    not_spent c.args.self.now c.lend_permit-held-2.result c.args.permit c.args.moment c.start_in-2.result c.start_in-2.new.held c.start_in-2.new.self
    c.start_in-2.ensures
