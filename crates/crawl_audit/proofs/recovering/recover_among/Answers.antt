-- The loop ends at the end of the whole lines, and continues from there, or at a fault.
use Rattle.std.proofs.Common.{◌≡◌, ◌+◌, ℕ, Bool, List, Option, Some, Result, Ok, Err, ap, refl, sym, subst, ◌∙◌}
use Rattle.std.specs.Prelude.{IfOk, IfErr}
use Rattle.std.specs.Io.KnownBytes.{prepend_known}
use Rattle.path_normal.specs.declared.schemes.Schemes.{Schemes}
use Rattle.crawl_audit.specs.Audit.{failures_after_audit}
use Rattle.crawl_audit.specs.Recovering.{IsRecoverFault, IsRecovered, IsWholeFault, Recovers, TakesWhole, failures_after_recovery, fault_read}
use Rattle.crawl_audit.specs.declared.fault.AuditFault.{AuditFault}
use Rattle.crawl_audit.specs.declared.fault.AuditFault.TheVariants as audit_faults
use Rattle.crawl_audit.specs.declared.recover_fault.RecoverFault.{RecoverFault}
use Rattle.crawl_audit.specs.declared.recover_fault.RecoverFault.TheVariants as faults
use Rattle.crawl_audit.specs.declared.recovering.Recovered.{Recovered}
use Rattle.crawl_audit.proofs.recovering.recover_among.Goals as goal

-- the result for the whole lines is what the clauses say
module _ (schemes : Schemes) (input : Option (List ℕ)) where
  when_ok : (result : Result Recovered RecoverFault) → Recovers schemes input result → IfOk result (λ found. (text : List ℕ) → input ≡ Some text → IsRecovered schemes text found)
  when_ok (Ok found) recovers = recovers
  when_ok (Err fault) recovers = tt

  when_fault : (result : Result Recovered RecoverFault) → Recovers schemes input result → IfErr result (λ fault. (text : List ℕ) → input ≡ Some text → IsRecoverFault schemes text fault)
  when_fault (Ok found) recovers = tt
  when_fault (Err (faults.BadLine line)) recovers = recovers
  when_fault (Err (faults.NoEntries line)) recovers = recovers
  when_fault (Err (faults.NoRoom line)) recovers = recovers
  when_fault (Err faults.Read) recovers = absurd recovers
  when_fault (Err faults.NoMemory) recovers = recovers

  when_read : (failures : ℕ) (result : Result Recovered RecoverFault) → Recovers schemes input result → failures_after_recovery failures result ≡ failures
  when_read failures (Ok found) recovers = refl
  when_read failures (Err (faults.BadLine line)) recovers = refl
  when_read failures (Err (faults.NoEntries line)) recovers = refl
  when_read failures (Err (faults.NoRoom line)) recovers = refl
  when_read failures (Err faults.Read) recovers = absurd recovers
  when_read failures (Err faults.NoMemory) recovers = refl

  of_fault : (fault : AuditFault) → ((text : List ℕ) → input ≡ Some text → IsWholeFault schemes text fault) → (text : List ℕ) → input ≡ Some text → IsRecoverFault schemes text (fault_read fault)
  of_fault (audit_faults.BadLine line) told = told
  of_fault audit_faults.Read told = λ text is. tt
  of_fault audit_faults.NoMemory told = λ text is. tt

of_read : (failures : ℕ) (fault : AuditFault) → failures_after_audit {T = Bool} failures (Err fault) ≡ failures_after_recovery {T = Recovered} failures (Err (fault_read fault))
of_read failures (audit_faults.BadLine line) = refl
of_read failures audit_faults.Read = refl
of_read failures audit_faults.NoMemory = refl

pub loop-taken-init : goal.loop-taken-init
loop-taken-init g c = record {
  heard = c.in_ok-whole.ensures.heard (g.R.Source.left c.args.reader.now);
  lines = c.in_ok-whole.ensures.lines;
  reads = refl;
}

pub go_on_from-requires : goal.go_on_from-requires
go_on_from-requires g c =
    let input = g.R.Source.left c.args.reader.now in
    let behind = prepend_known c.take.new.self.auditor.reader (g.R.Source.left c.take.new.reader) in (
      c.args.schemes,
      (input, subst (λ (b : Bool). TakesWhole c.args.schemes input c.loop-taken.whole (Ok b) c.take.new.self behind) c.if-not-more.true (c.in-Ok.ensures.steps c.args.schemes input c.loop-taken.invariant.heard)),
    )

pub returns-then-not-more-clause-ok : goal.returns-then-not-more-clause-ok
returns-then-not-more-clause-ok g c =
    let input = g.R.Source.left c.args.reader.now in
    let behind = prepend_known c.take.new.self.auditor.reader (g.R.Source.left c.take.new.reader) in
    let cut = subst (λ (b : Bool). TakesWhole c.args.schemes input c.loop-taken.whole (Ok b) c.take.new.self behind) c.if-not-more.true (c.in-Ok.ensures.steps c.args.schemes input c.loop-taken.invariant.heard) in
    when_ok c.args.schemes input c.go_on_from.result (c.go_on_from.ensures.recovers c.args.schemes input cut)

pub returns-then-not-more-clause-fault : goal.returns-then-not-more-clause-fault
returns-then-not-more-clause-fault g c =
    let input = g.R.Source.left c.args.reader.now in
    let behind = prepend_known c.take.new.self.auditor.reader (g.R.Source.left c.take.new.reader) in
    let cut = subst (λ (b : Bool). TakesWhole c.args.schemes input c.loop-taken.whole (Ok b) c.take.new.self behind) c.if-not-more.true (c.in-Ok.ensures.steps c.args.schemes input c.loop-taken.invariant.heard) in
    when_fault c.args.schemes input c.go_on_from.result (c.go_on_from.ensures.recovers c.args.schemes input cut)

pub returns-then-not-more-clause-reads : goal.returns-then-not-more-clause-reads
returns-then-not-more-clause-reads g c =
    let input = g.R.Source.left c.args.reader.now in
    let behind = prepend_known c.take.new.self.auditor.reader (g.R.Source.left c.take.new.reader) in
    let cut = subst (λ (b : Bool). TakesWhole c.args.schemes input c.loop-taken.whole (Ok b) c.take.new.self behind) c.if-not-more.true (c.in-Ok.ensures.steps c.args.schemes input c.loop-taken.invariant.heard) in
    c.in-Ok.ensures.reads ∙ c.loop-taken.invariant.reads
    ∙ sym (when_read c.args.schemes input (g.R.Source.failures c.args.reader.now) c.go_on_from.result (c.go_on_from.ensures.recovers c.args.schemes input cut))

pub returns-in-Err-clause-fault : goal.returns-in-Err-clause-fault
returns-in-Err-clause-fault g c =
    let input = g.R.Source.left c.args.reader.now in
    subst (λ (f : RecoverFault). (text : List ℕ) → input ≡ Some text → IsRecoverFault c.args.schemes text f) (sym c.from.ensures)
    (of_fault c.args.schemes input c.in-Err.fault (c.in-Err.ensures.steps c.args.schemes input c.loop-taken.invariant.heard))

pub returns-in-Err-clause-reads : goal.returns-in-Err-clause-reads
returns-in-Err-clause-reads g c =
    c.in-Err.ensures.reads ∙ of_read (g.R.Source.failures c.loop-taken.reader) c.in-Err.fault
    ∙ ap (λ (n : ℕ). failures_after_recovery {T = Recovered} n (Err (fault_read c.in-Err.fault))) c.loop-taken.invariant.reads
    ∙ ap (λ (f : RecoverFault). failures_after_recovery {T = Recovered} (g.R.Source.failures c.args.reader.now) (Err f)) (sym c.from.ensures)

pub loop-taken-preserved : goal.loop-taken-preserved
loop-taken-preserved g c =
    let input = g.R.Source.left c.args.reader.now in
    let behind = prepend_known c.take.new.self.auditor.reader (g.R.Source.left c.take.new.reader) in
    let steps = subst (λ (b : Bool). TakesWhole c.args.schemes input c.loop-taken.whole (Ok b) c.take.new.self behind) c.if-not-more.false (c.in-Ok.ensures.steps c.args.schemes input c.loop-taken.invariant.heard) in
    record {
      heard = steps.0;
      lines = steps.1 ∙ ap (λ n. n + 1) c.loop-taken.invariant.lines;
      reads = c.in-Ok.ensures.reads ∙ c.loop-taken.invariant.reads;
    }
