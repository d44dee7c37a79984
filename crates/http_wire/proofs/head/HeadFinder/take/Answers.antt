-- The class of a head's status.
use Rattle.std.proofs.Common.{◌+◌, List, ℕ, take, map, refl, subst, arith}
use Rattle.httparse.specs.Spans.{header_bytes}
use Rattle.http_wire.specs.Finding.{IsHeadAt, IsPlan, HasNoPlan, Faults}
use Rattle.http_wire.proofs.Faults.{fault_passed}
use Rattle.http_wire.proofs.HeadFacts.{passes_next, too_many, strange, planned, unplanned}
use Rattle.http_wire.proofs.head.HeadFinder.take.Goals.{In-Interim, In-Final, In-Strange}
use Rattle.http_wire.proofs.head.HeadFinder.take.Goals as goal

pub returns-in-Interim-clause-sees : goal.returns-in-Interim-clause-sees
returns-in-Interim-clause-sees c last =
    let found = subst (λ (t : List ℕ). IsHeadAt t c.args.headers.now c.args.spans c.requires.at.0) c.requires.looks.prefix c.requires.at.1 in (
      passes_next c.args.self.now _ c.args.bytes.now c.args.headers.now c.args.spans c.requires.at.0 c.requires.looks.passes found
          c.in-Interim.ensures (omega arith) refl refl,
      refl,
    )

pub returns-in-Interim-2-clause-faults : goal.returns-in-Interim-2-clause-faults
returns-in-Interim-2-clause-faults c more limit =
    let found = subst (λ (t : List ℕ). IsHeadAt t c.args.headers.now c.args.spans c.requires.at.0) c.requires.looks.prefix c.requires.at.1 in
    too_many c.args.self.now c.args.bytes.now more c.args.headers.now c.args.spans c.requires.at.0 c.requires.looks.passes found
    c.in-Interim-2.ensures (omega arith)

pub returns-in_ok-plan-in-Final-clause-sees : goal.returns-in_ok-plan-in-Final-clause-sees
returns-in_ok-plan-in-Final-clause-sees c last =
    let found = subst (λ (t : List ℕ). IsHeadAt t c.args.headers.now c.args.spans c.requires.at.0) c.requires.looks.prefix c.requires.at.1 in
    let plan = subst (λ (t : List ℕ). IsPlan c.args.spans.code c.args.spans.version (map (header_bytes t) (take c.args.spans.headers c.args.headers.now)) (take c.args.spans.len t) (c.args.self.now.at + c.args.spans.len) c.in_ok-plan-in-Final.field-0) c.requires.looks.prefix c.in_ok-plan-in-Final.ensures.ok in
    planned c.args.self.now c.args.bytes.now c.args.headers.now c.args.spans c.requires.at.0 c.in_ok-plan-in-Final.field-0 c.requires.looks.passes found
    c.in-Final.ensures plan

pub returns-in_err-plan-in-Final-clause-faults : goal.returns-in_err-plan-in-Final-clause-faults
returns-in_err-plan-in-Final-clause-faults c =
    let found = subst (λ (t : List ℕ). IsHeadAt t c.args.headers.now c.args.spans c.requires.at.0) c.requires.looks.prefix c.requires.at.1 in
    let none = subst (λ (t : List ℕ). HasNoPlan c.args.spans.code (map (header_bytes t) (take c.args.spans.headers c.args.headers.now)) c.in_err-plan-in-Final.field-0.0) c.requires.looks.prefix c.in_err-plan-in-Final.ensures.err in
    fault_passed (Faults c.args.bytes.now) c.from_residual.result c.in_err-plan-in-Final.field-0.0 c.from_residual.ensures.1
    (unplanned c.args.self.now c.args.bytes.now c.args.headers.now c.args.spans c.requires.at.0 c.in_err-plan-in-Final.field-0.0 c.requires.looks.passes found
    c.in-Final.ensures none)

pub returns-in-Strange-clause-faults : goal.returns-in-Strange-clause-faults
returns-in-Strange-clause-faults c more limit =
    let found = subst (λ (t : List ℕ). IsHeadAt t c.args.headers.now c.args.spans c.requires.at.0) c.requires.looks.prefix c.requires.at.1 in
    strange c.args.self.now c.args.bytes.now more c.args.headers.now c.args.spans c.requires.at.0 c.requires.looks.passes found c.in-Strange.ensures
