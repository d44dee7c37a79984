-- An entry that may come is counted, and another leads nowhere.
use Rattle.std.proofs.Common.{◌≡◌, ◌+◌, Err, cond, ap, sym, ◌∙◌, refl, arith, rules}
use Rattle.crawl_audit.specs.Records.{entry_of}
use Rattle.crawl_audit.proofs.AuditSteps.{enters_one, refused_entry}
use Rattle.crawl_audit.proofs.auditor.Auditor.take_entry.Goals as goal

pub returns-in_err-is_start-clause-line : goal.returns-in_err-is_start-clause-line
returns-in_err-is_start-clause-line c = λ version rising h count are.
    let a = c.args.self.now in
    let same : c.from_residual-in_err-is_start.result ≡ Err c.in_err-is_start.field-0.0 = search rules in
    refused_entry a version rising h count a.line.items (entry_of c.in_ok-found.found) are c.in_ok-found.ensures.entry (sym c.as_slice.ensures.value ∙ c.in_ok-found.ensures.spelled)
    _ c.in_err-is_start.field-0.0 same _ _ (c.in_err-is_start.ensures.enters h are.legal are.tells)

pub returns-then-is_start-clause-line : goal.returns-then-is_start-clause-line
returns-then-is_start-clause-line c = λ version rising h count are.
    let a = c.args.self.now in
    let e = entry_of c.in_ok-found.found in
    let follows = c.in_ok-is_start.ensures.enters h are.legal are.tells in
    enters_one a _ version rising h count a.line.items e are c.in_ok-found.ensures.entry (sym c.as_slice.ensures.value ∙ c.in_ok-found.ensures.spelled) follows.0 follows.1
    (omega (arith, c.if-self-ge-MAX_LOG.false)) (omega (arith, c.if-self.false)) refl refl refl
    (λ few. omega (arith, c.saturating_add-self.ensures))
    (λ few. (let more : c.saturating_add-self-then-is_start.result ≡ a.starts + 1 = omega (arith, c.saturating_add-self-then-is_start.ensures) in more)
    ∙ ap (λ b. cond b (a.starts + 1) a.starts) (sym c.if-is_start.true ∙ c.in_ok-is_start.ensures.start))

pub returns-else-is_start-clause-line : goal.returns-else-is_start-clause-line
returns-else-is_start-clause-line c = λ version rising h count are.
    let a = c.args.self.now in
    let e = entry_of c.in_ok-found.found in
    let follows = c.in_ok-is_start.ensures.enters h are.legal are.tells in
    enters_one a _ version rising h count a.line.items e are c.in_ok-found.ensures.entry (sym c.as_slice.ensures.value ∙ c.in_ok-found.ensures.spelled) follows.0 follows.1
    (omega (arith, c.if-self-ge-MAX_LOG.false)) (omega (arith, c.if-self.false)) refl refl refl
    (λ few. omega (arith, c.saturating_add-self.ensures))
    (λ few. ap (λ b. cond b (a.starts + 1) a.starts) (sym c.if-is_start.false ∙ c.in_ok-is_start.ensures.start))
