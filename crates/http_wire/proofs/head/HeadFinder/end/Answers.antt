-- What the end of the input makes of an unfinished head.
use Rattle.std.proofs.Common.{◌∙◌, List, ℕ, [], append-nil, subst, ap, arith, refl}
use Rattle.std.proofs.lemmas.List.{take_rest}
use Rattle.http_wire.specs.Heads.{line_ends}
use Rattle.http_wire.specs.Response.{Cause}
use Rattle.http_wire.proofs.Faults.{fault_passed}
use Rattle.http_wire.proofs.HeadFacts.{ends_long}
use Rattle.http_wire.proofs.head.HeadFinder.end.Goals as goal

pub returns-in-None-clause-faults : goal.returns-in-None-clause-faults
returns-in-None-clause-faults c limit =
    let finds = rw c.in-None.is at c.in_ok-head.ensures.finds in
    let lines = c.count_line_ends.ensures ∙ ap line_ends (take_rest c.args.bytes.now c.find.new.self.at) in
    ends_long c.find.new.self c.args.bytes.now finds.0 (finds.2 refl) (omega (arith, c.if-count_line_ends-gt-MAX_HEADER_LINES.true, lines))

pub returns-in_err-head-clause-faults : goal.returns-in_err-head-clause-faults
returns-in_err-head-clause-faults c =
    fault_passed (λ fault. (limit : ℕ) → Cause fault c.args.bytes.now limit) c.from_residual.result c.in_err-head.field-0.0 c.from_residual.ensures.1
    (λ limit. subst (λ (t : List ℕ). Cause c.in_err-head.field-0.0 t limit) (append-nil c.args.bytes.now) (c.in_err-head.ensures.faults [] limit))
