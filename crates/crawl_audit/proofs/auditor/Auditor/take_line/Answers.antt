-- A line that leads to a place was taken.
use Rattle.std.proofs.Common.{◌≡◌, ◌+◌, ◌<◌, ◌∙◌, sym, subst, length, refl, arith, true≢false}
use Rattle.path_normal.specs.declared.schemes.Schemes.{Schemes}
use Rattle.crawl_audit.specs.ChainAudit.{IsAmong}
use Rattle.crawl_audit.specs.Chains.{most_lines}
use Rattle.crawl_audit.proofs.Auditing.{holds_more}
use Rattle.crawl_audit.proofs.auditor.Auditor.take_line.Goals as goal

pub returns-clause-line : goal.returns-clause-line
returns-clause-line c = λ schemes lines place holds.
    let a = c.args.self.now in
    let goes = c.in-Ok.ensures.moves place holds.stands in
    let room : length lines < most_lines = omega (arith, c.if-self-ge-MAX_LINES.false, holds.lines_are) in
    let among = subst (λ (s : Schemes). IsAmong s a.line.items) holds.schemes_are (c.is_among.ensures.0 c.if-not-is_among.false) in
    let more : c.saturating_add-number.result ≡ a.lines + 1 = omega (arith, c.saturating_add-number.ensures, c.if-self-ge-MAX_LINES.false) in
    (goes.next, holds_more schemes a c.step.new.self _ lines place a.line.items holds goes room among c.step.ensures.schemes refl refl refl refl refl refl more)

pub returns-in-Err-NotOne-clause-line : goal.returns-in-Err-NotOne-clause-line
returns-in-Err-NotOne-clause-line c = λ schemes lines place holds.
    let moves = rw c.in-Err-NotOne.field-0-is at (c.in-Err-NotOne.ensures.moves place holds.stands) in
    (omega (arith, c.saturating_add-number.ensures, c.if-self-ge-MAX_LINES.false, holds.lines_are), λ room among next steps. moves next steps)

pub returns-then-not-is_among-clause-line : goal.returns-then-not-is_among-clause-line
returns-then-not-is_among-clause-line c = λ schemes lines place holds. (
  omega (arith, c.saturating_add-number.ensures, c.if-self-ge-MAX_LINES.false, holds.lines_are),
  λ room among next steps.
      true≢false (sym (c.is_among.ensures.1 (subst (λ (s : Schemes). IsAmong s c.args.self.now.line.items) (sym holds.schemes_are) among)) ∙ c.if-not-is_among.true),
)
