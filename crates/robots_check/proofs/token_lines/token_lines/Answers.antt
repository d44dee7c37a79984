-- The groups that speak to the token have its rule lines and its user-agent lines.
-- By `Ruling` and `Saying`.
use Rattle.std.proofs.Common.{Global, Vec, ◌≡◌, ℕ, Bool, List, ◌∙◌, ap, map, subst, sym}
use Rattle.std.specs.Prelude.{None}
use Rattle.std.specs.List.{All}
use Rattle.std.specs.List.Sorted.{IsNonDecreasing}
use Rattle.robots_text.specs.Grouped.{Grouped, grouped_records, grouped_seen}
use Rattle.robots_text.specs.Groups.{AreRulesFor, speaks_to}
use Rattle.robots_text.specs.Records.{Record, numbered_records}
use Rattle.robots_text.specs.Walk.{rules_from, speaks}
use Rattle.robots_check.specs.AgentText.{AreHeadsAt, Shown, agents_for, groups_that, head_seen, heads_in}
use Rattle.robots_check.specs.Forms.{AreFormsFor, IsFormed, formed_rule}
use Rattle.robots_check.specs.Said.{said_among, speaks_among}
use Rattle.robots_check.specs.declared.agents.AgentLine.{AgentLine}
use Rattle.robots_check.specs.declared.rules.Formed.{Formed}
use Rattle.robots_check.proofs.Ruling.{groups_that_rise, rules_said}
use Rattle.robots_check.proofs.Saying.{groups_that_same, heads_said, speaks_like}
use Rattle.robots_check.proofs.token_lines.token_lines.Goals as goal
use Rattle.robots_check.proofs.token_lines.token_lines.Goals.{in-Plain, in-Explained+in_ok-groups-in-Explained+in_ok-agents-in-Explained}

-- the groups found are those that speak to the token
groups_are : (text word : List ℕ) (f : Record → Bool) (said : List Grouped) (groups : List ℕ) → said ≡ said_among (grouped_records text) → ((kind : Record) → f kind ≡ speaks_among said word kind) → groups ≡ groups_that f said →
    groups ≡ groups_that (speaks_to (numbered_records text) word) (said_among (grouped_records text))
groups_are text word f said groups are same is =
    is ∙ groups_that_same f (speaks_to (numbered_records text) word) (speaks_like text word f said are same) said ∙ ap (groups_that (speaks_to (numbered_records text) word)) are

forms_are : (text word : List ℕ) (f : Record → Bool) (said : List Grouped) (rules : List Formed) → said ≡ said_among (grouped_records text) → ((kind : Record) → f kind ≡ speaks_among said word kind) →
    map formed_rule rules ≡ rules_from f None said → All IsFormed rules → AreFormsFor (numbered_records text) word rules
forms_are text word f said rules are same is formed = record {
  are_rules = subst (AreRulesFor (numbered_records text) word) (sym is) (rules_said text word f said are (speaks_like text word f said are same));
  formed = formed;
}

groups_rise : (test : Record → Bool) (text : List ℕ) (said : List Grouped) (groups given : List ℕ) → said ≡ said_among (grouped_records text) → groups ≡ groups_that test said → given ≡ groups → IsNonDecreasing given
groups_rise test text said groups given are is given_is =
    subst IsNonDecreasing (sym (given_is ∙ is ∙ ap (groups_that test) are)) (groups_that_rise test text)

pub heads_in-requires : goal.heads_in-requires
heads_in-requires c =
    groups_rise _ c.args.said.now.text.now _ c.in_ok-groups-in-Explained.groups.items c.as_slice.result.now
    (ap (map grouped_seen) c.as_slice-lines.ensures.value ∙ c.args.said.now.are) (c.in_ok-groups-in-Explained.ensures {u = tt}) c.as_slice.ensures.value

heads_are : (text word : List ℕ) (f : Record → Bool) (said : List Grouped) (groups given : List ℕ) (heads : List Shown) → said ≡ said_among (grouped_records text) → ((kind : Record) → f kind ≡ speaks_among said word kind) →
    groups ≡ groups_that (speaks_to (numbered_records text) word) (said_among (grouped_records text)) → given ≡ groups → heads ≡ heads_in f given said → heads ≡ agents_for (numbered_records text) word
heads_are text word f said groups given heads are same groups_is given_is is =
    heads_said text word f groups heads (speaks_like text word f said are same) groups_is
    (is ∙ ap (λ l. heads_in f l said) given_is ∙ ap (heads_in f groups) are)

pub returns : goal.returns
returns c =
    let text = c.args.said.now.text.now in
    let word = c.args.token.now in
    let said = map grouped_seen c.as_slice-lines.result.now in
    let f = speaks c.whom_among-whom.result in
    let are = ap (map grouped_seen) c.as_slice-lines.ensures.value ∙ c.args.said.now.are in
    let same = λ (kind : Record). c.whom_among-whom.ensures kind ∙ ap (λ w. speaks_among said w kind) (c.as_bytes.ensures.value ∙ c.text.ensures.value) in
    let rules = c.in_ok-rules.ensures {u = tt} in record {
      rules = forms_are text word f said c.in_ok-rules.rules.items are same rules.rules rules.formed;
      heads = elim c.match-detail.branch [
        | in-Plain w ↦ subst (λ d. AreHeadsAt d (numbered_records text) word (map head_seen c.match-detail.agents.items)) (sym w.in-Plain.is) tt
        | in-Explained+in_ok-groups-in-Explained+in_ok-agents-in-Explained w ↦ subst (λ d. AreHeadsAt d (numbered_records text) word (map head_seen c.match-detail.agents.items)) (sym w.in-Explained.is)
            (heads_are text word f said w.in_ok-groups-in-Explained.groups.items w.as_slice.result.now (map head_seen c.match-detail.agents.items) are same (groups_are text word f said w.in_ok-groups-in-Explained.groups.items are same (w.in_ok-groups-in-Explained.ensures {u = tt})) w.as_slice.ensures.value
            (ap (λ (v : Vec AgentLine Global). map head_seen v.items) w.agents-is ∙ w.in_ok-agents-in-Explained.ensures {u = tt}))
      ];
    }
