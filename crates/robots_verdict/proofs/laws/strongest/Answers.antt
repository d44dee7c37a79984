-- Each rule is skipped or weighed.
use Rattle.std.proofs.Common.{◌≡◌, length, sym, ap, ◌∙◌, subst}
use Rattle.std.specs.Prelude.{Some}
use Rattle.std.proofs.lemmas.Bool.{true≢false}
use Rattle.path_pattern.specs.Matches.{Matches}
use Rattle.robots_text.specs.Walk.{rule_seen, rules_left}
use Rattle.robots_verdict.specs.Strongest.{stronger}
use Rattle.robots_verdict.specs.Weights.{weight_of}
use Rattle.robots_verdict.proofs.Walking.{IsWalked, pass_over, walked_all, weigh}
use Rattle.robots_verdict.proofs.laws.strongest.Goals as goal
use Rattle.robots_verdict.proofs.laws.strongest.Goals.{then-matches, else-matches}

pub loop-rule-preserved : goal.loop-rule-preserved
loop-rule-preserved c =
    let path = c.args.path.now in
    let all = rules_left c.rules_for-rules.result in
    let left = rules_left c.next.new.self in
    let best = c.loop-rule.best in
    let first = rule_seen c.in-Some.rule in
    let form = c.in_ok-pattern.ensures in
    let walked = subst (λ rules. IsWalked path all rules best) c.in-Some.ensures.steps c.loop-rule.invariant in
    elim c.if-matches.branch [
      | then-matches w ↦ (
          let hits = subst (λ p. Matches p path) form (c.matches.ensures.0 w.if-matches.true) in
          let octets = w.octets.ensures ∙ ap length form in
          let weight : record { octets = w.octets.result; kind = first.kind; line = first.line } ≡ weight_of first =
          λ i. record { octets = octets i; kind = first.kind; line = first.line } in
          subst (IsWalked path all left) (sym (w.best-is ∙ ap (λ v. Some v) (w.stronger.ensures ∙ ap (stronger best) weight))) (weigh path all left best first hits walked)
          )
      | else-matches w ↦ subst (IsWalked path all left) (sym w.best-is)
          (pass_over path all left best first (λ hits. true≢false (sym (c.matches.ensures.1 (subst (λ p. Matches p path) (sym form) hits)) ∙ w.if-matches.false)) walked)
    ]

pub returns : goal.returns
returns c =
    let path = c.args.path.now in
    let all = rules_left c.rules_for-rules.result in
    walked_all _ c.args.token.now path all c.loop-rule.best c.rules_for-rules.ensures
    (subst (λ rules. IsWalked path all rules c.loop-rule.best) c.in_default.ensures.steps.0 c.loop-rule.invariant)
