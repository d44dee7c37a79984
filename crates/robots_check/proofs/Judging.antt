-- The winning rule line is among those for the token, and its octets are those of the strongest that matches.
-- Used by `Judge`, and by what explains.
use Rattle.std.proofs.Common.{◌≡◌, ◌<◌, ℕ, List, Contains, length, map, slice_index_or, refl, sym, ap, ◌∙◌, subst, arith}
use Rattle.std.specs.Prelude.{Option, Some, None}
use Rattle.std.proofs.lemmas.List.{get_or_default, get_or-map, length-map}
use Rattle.path_normal.specs.Normal.{normal_pattern}
use Rattle.robots_text.specs.declared.record.RuleKind.{RuleKind}
use Rattle.robots_text.specs.declared.record.RuleKind.TheVariants as kinds
use Rattle.robots_text.specs.Groups.{AreRulesFor, Ruled}
use Rattle.robots_text.specs.Records.{Numbered}
use Rattle.robots_verdict.proofs.CallerLemmas.{one_weight}
use Rattle.robots_verdict.specs.declared.decision.Allowed.TheVariants.{Line}
use Rattle.robots_verdict.specs.declared.decision.Verdict.{Verdict}
use Rattle.robots_verdict.specs.declared.decision.Verdict.TheVariants.{Allow, Deny}
use Rattle.robots_verdict.specs.declared.weight.Weight.{Weight}
use Rattle.robots_verdict.specs.Strongest.{IsBest}
use Rattle.robots_verdict.specs.Verdict.{Decides, IsStrongest, IsVerdict}
use Rattle.robots_check.specs.Answers.{Answer, allowed_by, allowed_unruled, allowed_robots, denied_by, unread, GivenBy, IsAnswer, IsAnswerOn}
use Rattle.robots_check.specs.Explained.{because_by, because_text, octets_of, winner_octets}
use Rattle.robots_check.specs.Forms.{formed_rule}
use Rattle.robots_check.specs.Rules.{IsRuleAt, no_rule, rule_at}
use Rattle.robots_check.specs.Targets.{HasPath}
use Rattle.robots_check.specs.declared.rules.Formed.{Formed}
use Rattle.robots_check.proofs.Placing.{one_place}

entry_at : (rules : List Ruled) (ruled : Ruled) → (there : Contains rules ruled) → rule_at rules there.0 ≡ ruled
entry_at rules ruled there = get_or_default rules there.0 no_rule ruled there.1 ∙ there.2

pub place_there : (lines : List Numbered) (word path : List ℕ) (rules : List Ruled) (line : ℕ) (kind : RuleKind) → AreRulesFor lines word rules → Decides lines word path line kind →
    (place : ℕ) × IsRuleAt rules line place
place_there lines word path rules line kind are decides =
    let there = are.every decides.ruled decides.strongest.applies.for_token in
    (there.0, (there.1, ap (λ ruled. ruled.line) (entry_at rules decides.ruled there) ∙ decides.is_line))

strongest_at : (lines : List Numbered) (word path : List ℕ) (rules : List Ruled) (line : ℕ) (kind : RuleKind) (place : ℕ) → AreRulesFor lines word rules → Decides lines word path line kind → IsRuleAt rules line place →
    IsStrongest lines word path (rule_at rules place)
unfolding place_there
strongest_at lines word path rules line kind place are decides at =
    let there = are.every decides.ruled decides.strongest.applies.for_token in
    let found = place_there lines word path rules line kind are decides in
    let same : there.0 ≡ place = one_place rules are.ordered line there.0 place found.1 at in
    subst (IsStrongest lines word path) (sym (entry_at rules decides.ruled there) ∙ ap (rule_at rules) same) decides.strongest

pub given_allow : (lines : List Numbered) (word path : List ℕ) (rules : List Ruled) (line place : ℕ) (ruled : Ruled) → AreRulesFor lines word rules → Decides lines word path line kinds.Allow → IsRuleAt rules line place →
    ruled ≡ rule_at rules place → GivenBy lines word path (Allow (Line ruled.line)) ruled
given_allow lines word path rules line place ruled are decides at is = record {
  verdict = subst (λ l. IsVerdict lines word path (Allow (Line l))) (sym (ap (λ r. r.line) is ∙ at.1)) decides;
  strongest = subst (IsStrongest lines word path) (sym is) (strongest_at lines word path rules line kinds.Allow place are decides at);
}

pub given_deny : (lines : List Numbered) (word path : List ℕ) (rules : List Ruled) (line place : ℕ) (ruled : Ruled) → AreRulesFor lines word rules → Decides lines word path line kinds.Disallow → IsRuleAt rules line place →
    ruled ≡ rule_at rules place → GivenBy lines word path (Deny ruled.line) ruled
given_deny lines word path rules line place ruled are decides at is = record {
  verdict = subst (λ l. IsVerdict lines word path (Deny l)) (sym (ap (λ r. r.line) is ∙ at.1)) decides;
  strongest = subst (IsStrongest lines word path) (sym is) (strongest_at lines word path rules line kinds.Disallow place are decides at);
}

pub on_path : (lines : List Numbered) (word url path : List ℕ) (answer : Answer) → HasPath url path → IsAnswerOn lines word path answer → IsAnswer lines word url answer
on_path lines word url path (allowed_by ruled) has says = (path, has, says)
on_path lines word url path allowed_unruled has says = (path, has, says)
on_path lines word url path allowed_robots has says = (path, has, says)
on_path lines word url path (denied_by ruled) has says = (path, has, says)
on_path lines word url path (unread fault) has says = absurd says

pub seen_at : (rules : List Formed) (i : ℕ) (d : Formed) → i < length (map formed_rule rules) → formed_rule (slice_index_or rules i d) ≡ rule_at (map formed_rule rules) i
seen_at rules i d within = sym (get_or-map formed_rule rules i d no_rule (omega (arith, within, length-map rules formed_rule)))

-- ---- the strongest of the rule lines that match

pub judged : (lines : List Numbered) (word octets path : List ℕ) (best : Option Weight) (said : Verdict) → octets ≡ path → IsBest lines word path best →
    ((lines' : List Numbered) (word' : List ℕ) → IsBest lines' word' octets best → IsVerdict lines' word' octets said) → IsVerdict lines word path said
judged lines word octets path best said same is on =
    subst (λ p. IsVerdict lines word p said) same (on lines word (subst (λ p. IsBest lines word p best) (sym same) is))

octets_by : (lines : List Numbered) (word path : List ℕ) (best : Option Weight) (ruled : Ruled) → IsBest lines word path best → IsStrongest lines word path ruled → octets_of best ≡ length (normal_pattern ruled.pattern)
octets_by lines word path None ruled none strongest = absurd (none ruled strongest.applies)
octets_by lines word path (Some best) ruled is strongest = ap (λ w. w.octets) (sym is.2 ∙ one_weight lines word path is.0 ruled is.1 strongest)

pub says_because : (lines : List Numbered) (word path : List ℕ) (best second : Option Weight) (answer : Answer) → IsBest lines word path best → IsAnswerOn lines word path answer →
    because_text (octets_of best) answer second ≡ because_text (winner_octets answer) answer second
says_because lines word path best second (allowed_by ruled) is says = ap (λ n. because_by n ruled second) (octets_by lines word path best ruled is says.strongest)
says_because lines word path best second allowed_unruled is says = refl
says_because lines word path best second allowed_robots is says = refl
says_because lines word path best second (denied_by ruled) is says = ap (λ n. because_by n ruled second) (octets_by lines word path best ruled is says.strongest)
says_because lines word path best second (unread fault) is says = refl
