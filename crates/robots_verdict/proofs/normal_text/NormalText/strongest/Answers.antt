-- Each rule is skipped or weighed.
use Rattle.std.proofs.Common.{◌≡◌, List, ℕ, Contains, length, sym, ap, ◌∙◌, subst}
use Rattle.std.specs.Prelude.{Some}
use Rattle.std.proofs.lemmas.Bool.{true≢false}
use Rattle.std.proofs.lemmas.List.Elements.{All-contains}
use Rattle.path_pattern.specs.Matches.{Matches}
use Rattle.robots_text.specs.Groups.{IsRuleFor, record_ruled, Ruled}
use Rattle.robots_text.specs.Records.{numbered_records}
use Rattle.robots_text.specs.Walk.{rule_seen, rules_left}
use Rattle.robots_text.proofs.CallerLemmas.{first_of}
use Rattle.robots_verdict.specs.Strongest.{IsBest, stronger}
use Rattle.robots_verdict.specs.Weights.{weight_of}
use Rattle.robots_verdict.proofs.Walking.{IsWalked, pass_over, walked_all, weigh}
use Rattle.robots_verdict.proofs.normal_text.NormalText.strongest.Goals as goal

pub form-form-requires : goal.form-form-requires
form-form-requires c =
    let first = rule_seen c.in-Some.rule in
    let rest = rules_left c.next.new.self in
    let stands = c.loop-rule.invariant.1.rest first (subst (λ (rules : List Ruled). Contains rules first) (sym c.in-Some.ensures.steps) (first_of first rest)) in
    let is = All-contains (IsRuleFor (numbered_records c.self.inside.text) c.args.token.now) (rules_left c.rules_for-rules.result) first c.rules_for-rules.ensures.each stands in
    subst (λ (text : List ℕ). Contains (numbered_records text) (record_ruled first)) c.self.view_is is.governs.line_stands

pub loop-rule-preserved-then-matches : goal.loop-rule-preserved-then-matches
loop-rule-preserved-then-matches c =
    let path = c.args.path.now in
    let all = rules_left c.rules_for-rules.result in
    let left = rules_left c.next.new.self in
    let best = c.loop-rule.best in
    let first = rule_seen c.in-Some.rule in
    let form = c.form-form.ensures in
    let walked = subst (λ rules. IsWalked path all rules best) c.in-Some.ensures.steps c.loop-rule.invariant.1 in
    let hits = subst (λ p. Matches p path) form (subst (Matches c.form-form.result.now) c.loop-rule.invariant.0 (c.matches.ensures.tells.0 c.if-matches.true)) in
    let weight : record { octets = length c.form-form.result.now; kind = first.kind; line = first.line } ≡ weight_of first =
    λ i. record { octets = length (form i); kind = first.kind; line = first.line } in
    (c.matches.ensures.stays ∙ c.loop-rule.invariant.0, subst (IsWalked path all left) (sym (ap (λ v. Some v) (c.stronger.ensures ∙ ap (stronger best) weight))) (weigh path all left best first hits walked))

pub loop-rule-preserved : goal.loop-rule-preserved
loop-rule-preserved c =
    let path = c.args.path.now in
    let all = rules_left c.rules_for-rules.result in
    let left = rules_left c.next.new.self in
    let best = c.loop-rule.best in
    let first = rule_seen c.in-Some.rule in
    let walked = subst (λ rules. IsWalked path all rules best) c.in-Some.ensures.steps c.loop-rule.invariant.1 in (
      c.matches.ensures.stays ∙ c.loop-rule.invariant.0,
      pass_over path all left best first
          (λ hits. true≢false (sym (c.matches.ensures.tells.1 (subst (Matches c.form-form.result.now) (sym c.loop-rule.invariant.0) (subst (λ p. Matches p path) (sym c.form-form.ensures) hits))) ∙ c.if-matches.false)) walked,
    )

pub returns : goal.returns
returns c =
    let path = c.args.path.now in
    let all = rules_left c.rules_for-rules.result in
    let best = c.loop-rule.best in
    let walked = subst (λ rules. IsWalked path all rules best) c.in_default.ensures.steps.0 c.loop-rule.invariant.1 in
    subst (λ (text : List ℕ). IsBest (numbered_records text) c.args.token.now path best) c.self.view_is
    (walked_all (numbered_records c.self.inside.text) c.args.token.now path all best c.rules_for-rules.ensures walked)
