-- The input by a fault of the reading.
use Rattle.std.proofs.Common.{List, ℕ, [], subst}
use Rattle.http_wire.specs.Finding.{Fails, Faults}
use Rattle.http_wire.specs.Parts.{Breaks}
use Rattle.http_wire.proofs.Faults.{fault_passed}
use Rattle.http_wire.proofs.HeadReads.{fails_to_read}
use Rattle.http_wire.proofs.response.read_final.Goals as goal

pub returns-in_err-head-clause-fails : goal.returns-in_err-head-clause-fails
returns-in_err-head-clause-fails g c =
    let left = g.S.Source.left c.args.source.now in
    let fault = c.in_err-head.field-0.0 in
    fault_passed (Fails left []) c.from_residual.result fault c.from_residual.ensures.1
    (fails_to_read left fault (subst (λ (old : List ℕ). Breaks Faults left old fault) c.requires c.in_err-head.ensures.err))
