-- A line is the next one of the base, or another.
use Rattle.std.proofs.Common.{inl, inr, refl, sym, true≢false}
use Rattle.crawl_audit.proofs.NextTaking.{Stops, awaited, last_line, more_line, other_line}
use Rattle.crawl_audit.proofs.next_base.NextBase.take.Goals as goal
use Rattle.crawl_audit.proofs.next_base.NextBase.take.Goals.{then-self-eq0-via-then-self-eq0, then-self-eq0-via-else-self-eq0+then-self, then-self-eq0-via-else-self-eq0+else-self+then-not-is_line_at}

pub returns-then-self-eq0 : goal.returns-then-self-eq0
returns-then-self-eq0 c = λ h lines expects.
    let next = c.args.self.now in
    let line = c.args.line.now in
    let stops : Stops next line = elim c.then-self-eq0.branch [
      | then-self-eq0-via-then-self-eq0 w ↦ inl w.if-self-eq0.true
      | then-self-eq0-via-else-self-eq0+then-self w ↦ inr (inl w.if-self.true)
      | then-self-eq0-via-else-self-eq0+else-self+then-not-is_line_at w ↦ inr (inr (λ is. true≢false (sym (w.if-not-is_line_at.ensures.1 is))))
    ] in
    other_line next h lines line expects stops

pub returns-then-self-2 : goal.returns-then-self-2
returns-then-self-2 c = λ h lines expects.
    let next = c.args.self.now in
    last_line next h lines c.args.line.now (awaited next h lines expects c.if-self-eq0.false) (c.if-not-is_line_at.ensures.0 refl) c.if-self-2.true

pub returns-else-self-2 : goal.returns-else-self-2
returns-else-self-2 c = λ h lines expects.
    let next = c.args.self.now in
    more_line next h lines c.args.line.now (awaited next h lines expects c.if-self-eq0.false) (c.if-not-is_line_at.ensures.0 refl) c.if-self-2.false
