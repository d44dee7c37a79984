-- A user-agent line governs exactly the rule lines with its group's number.
-- Used by the law `same_group`, and by `Walks`.
use Rattle.std.proofs.Common.{◌≡◌, ℕ, ◌+◌, ◌<◌, ◌≤◌, Bool, true, false, ◌⊎◌, inl, inr, List, [], ◌∷◌, map, Contains, refl, sym, ap, ◌∙◌, subst, arith}
use Rattle.std.specs.Prelude.{◌↔◌}
use Rattle.std.proofs.lemmas.Bool.{true≢false}
use Rattle.robots_text.specs.Grouped.{Grouped, begins_behind, group_at, grouped_from, numbered_of}
use Rattle.robots_text.specs.Groups.{Governs, is_agent, is_rule}
use Rattle.robots_text.specs.Records.{Record, agent, rule, other, Numbered, numbered_from}
use Rattle.robots_text.proofs.LineEntries.{at, behind, entry_of, first_of, late_from, mapped, none_of, of_mapped}

-- a record with its line and its group
abbrev pub in_group : ℕ → ℕ → Record → Grouped
in_group group line kind = record { group = group; line = line; kind = kind }

same_numbered : (group : ℕ) (begins : Bool) (lines : List Numbered) → map numbered_of (grouped_from group begins lines) ≡ lines
same_numbered group begins [] = refl
same_numbered group begins (first ∷ lines) = ap (λ rest. first ∷ rest) (same_numbered (group_at group begins first.line first.kind) (begins_behind begins first.kind) lines)

pub numbered_stands : (group : ℕ) (begins : Bool) (lines : List Numbered) (one : Grouped) → Contains (grouped_from group begins lines) one → Contains lines (numbered_of one)
numbered_stands group begins lines one stands =
    subst (λ (l : List Numbered). Contains l (numbered_of one)) (same_numbered group begins lines) (mapped numbered_of one (grouped_from group begins lines) stands)

pub grouped_stands : (group : ℕ) (begins : Bool) (lines : List Numbered) (one : Numbered) → Contains lines one →
    (number : ℕ) × Contains (grouped_from group begins lines) (in_group number one.line one.kind)
grouped_stands group begins lines one stands =
    let found = of_mapped numbered_of one (grouped_from group begins lines) (subst (λ (l : List Numbered). Contains l one) (sym (same_numbered group begins lines)) stands) in
    (found.0.group, subst (λ (z : Numbered). Contains (grouped_from group begins lines) (in_group found.0.group z.line z.kind)) found.2 found.1)

-- ---- the numbers of later records

pub group_within : (group : ℕ) (begins : Bool) (n : ℕ) (k : Record) → group ≤ n → (group ≤ group_at group begins n k) × (group_at group begins n k ≤ n)
group_within group true n (agent who) low = (low, omega arith)
group_within group false n (agent who) low = (omega arith, low)
group_within group begins n (rule kind value) low = (omega arith, low)
group_within group begins n other low = (omega arith, low)

pub groups_above : (group : ℕ) (begins : Bool) (n : ℕ) (ks : List Record) (one : Grouped) → group ≤ n → Contains (grouped_from group begins (numbered_from n ks)) one → group ≤ one.group
groups_above group begins n [] one low stands = absurd (none_of one stands)
groups_above group begins n (k ∷ ks) one low stands =
    let here = group_at group begins n k in
    let within = group_within group begins n k low in
    elim (entry_of (in_group here n k) one _ stands) [
      | inl is ↦ (let same : here ≡ one.group = ap (λ z. z.group) is in omega (arith, same, within.0))
      | inr rest ↦ omega (arith, within.0, groups_above here (begins_behind begins k) (n + 1) ks one (omega (arith, within.1)) rest)
    ]

-- behind a rule line each user-agent line is in a later group
pub new_head : (group n : ℕ) (ks : List Record) (one : Grouped) → Contains (grouped_from group true (numbered_from n ks)) one → is_agent one.kind ≡ true → n ≤ one.group
new_head group n [] one stands heads = absurd (none_of one stands)
new_head group n (agent who ∷ ks) one stands heads = elim (entry_of (in_group n n (agent who)) one _ stands) [
  | inl is ↦ (let same : n ≡ one.group = ap (λ z. z.group) is in omega arith)
  | inr rest ↦ groups_above n false (n + 1) ks one (omega arith) rest
]
new_head group n (rule kind value ∷ ks) one stands heads = elim (entry_of (in_group group n (rule kind value)) one _ stands) [
  | inl is ↦ absurd (true≢false (sym heads ∙ sym (ap (λ z. is_agent z.kind) is)))
  | inr rest ↦ (let above = new_head group (n + 1) ks one rest heads in omega (arith, above))
]
new_head group n (other ∷ ks) one stands heads = elim (entry_of (in_group group n other) one _ stands) [
  | inl is ↦ absurd (true≢false (sym heads ∙ sym (ap (λ z. is_agent z.kind) is)))
  | inr rest ↦ (let above = new_head group (n + 1) ks one rest heads in omega (arith, above))
]

-- no user-agent line comes before this line, or, if the last record began no group, none behind a rule line
abbrev Unbroken : Bool → List Numbered → ℕ → Type 0
Unbroken true lines to = (begun : Numbered) → Contains lines begun → is_agent begun.kind ≡ true → begun.line < to → ⊥
Unbroken false lines to = (ended begun : Numbered) → Contains lines ended → Contains lines begun →
    is_rule ended.kind ≡ true → is_agent begun.kind ≡ true → ended.line < begun.line → begun.line < to → ⊥

step : (group : ℕ) (begins : Bool) (n : ℕ) (k : Record) (ks : List Record) (to : ℕ) → n < to → Unbroken begins (numbered_from n (k ∷ ks)) to →
    (group_at group begins n k ≡ group) × Unbroken (begins_behind begins k) (numbered_from (n + 1) ks) to
step group true n (agent who) ks to before none = absurd (none (at n (agent who)) (first_of _ _) refl before)
step group true n (rule kind value) ks to before none = (refl, λ begun b. none begun (behind _ begun _ b))
step group true n other ks to before none = (refl, λ begun b. none begun (behind _ begun _ b))
step group false n (agent who) ks to before none = (refl, λ ended begun e b. none ended begun (behind _ ended _ e) (behind _ begun _ b))
step group false n (rule kind value) ks to before none =
    (refl, λ begun b heads. none (at n (rule kind value)) begun (first_of _ _) (behind _ begun _ b) refl heads (late_from n ks begun b))
step group false n other ks to before none = (refl, λ ended begun e b. none ended begun (behind _ ended _ e) (behind _ begun _ b))

rule_stays : (group : ℕ) (begins : Bool) (n : ℕ) (k : Record) → is_rule k ≡ true → group_at group begins n k ≡ group
rule_stays group begins n (agent who) rules = absurd (true≢false (sym rules))
rule_stays group begins n (rule kind value) rules = refl
rule_stays group begins n other rules = absurd (true≢false (sym rules))

stays : (group : ℕ) (begins : Bool) (n : ℕ) (ks : List Record) (one : Grouped) → Contains (grouped_from group begins (numbered_from n ks)) one → is_rule one.kind ≡ true →
    Unbroken begins (numbered_from n ks) one.line → one.group ≡ group
stays group begins n [] one stands rules none = absurd (none_of one stands)
stays group begins n (k ∷ ks) one stands rules none =
    let here = group_at group begins n k in
    let next = begins_behind begins k in
    elim (entry_of (in_group here n k) one (grouped_from here next (numbered_from (n + 1) ks)) stands) [
      | inl is ↦ sym (ap (λ z. z.group) is) ∙ rule_stays group begins n k (ap (λ z. is_rule z.kind) is ∙ rules)
      | inr rest ↦ (
          let later = late_from n ks (numbered_of one) (numbered_stands here next (numbered_from (n + 1) ks) one rest) in
          let now = step group begins n k ks one.line later none in
          stays here next (n + 1) ks one rest rules now.1 ∙ now.0
          )
    ]

pub not_both : (k : Record) → is_agent k ≡ true → is_rule k ≡ true → ⊥
not_both (agent who) heads rules = true≢false (sym rules)
not_both (rule kind value) heads rules = true≢false (sym heads)
not_both other heads rules = true≢false (sym heads)

-- ---- two records of a text

-- what stands behind a record: later records, in its group or a later one
record Rest (group : ℕ) (begins : Bool) (n : ℕ) (ks : List Record) (one : Grouped) : Type 0 where
  pub next : Bool
  pub later : List Record
  pub low : one.group ≤ one.line
  pub head : is_agent one.kind ≡ true → next ≡ false
  pub rule_line : is_rule one.kind ≡ true → next ≡ true
  pub cases : (two : Grouped) → Contains (grouped_from group begins (numbered_from n ks)) two →
      (one ≡ two) ⊎ (two.line < one.line) ⊎ Contains (grouped_from one.group next (numbered_from (one.line + 1) later)) two
  pub back : (two : Numbered) → Contains (numbered_from (one.line + 1) later) two → Contains (numbered_from n ks) two

next_head : (begins : Bool) (k : Record) → is_agent k ≡ true → begins_behind begins k ≡ false
next_head begins (agent who) heads = refl
next_head begins (rule kind value) heads = absurd (true≢false (sym heads))
next_head begins other heads = absurd (true≢false (sym heads))

pub next_rule : (begins : Bool) (k : Record) → is_rule k ≡ true → begins_behind begins k ≡ true
next_rule begins (agent who) rules = absurd (true≢false (sym rules))
next_rule begins (rule kind value) rules = refl
next_rule begins other rules = absurd (true≢false (sym rules))

rest_of : (group : ℕ) (begins : Bool) (n : ℕ) (ks : List Record) (one : Grouped) → group ≤ n → Contains (grouped_from group begins (numbered_from n ks)) one → Rest group begins n ks one
rest_of group begins n [] one low stands = absurd (none_of one stands)
rest_of group begins n (k ∷ ks) one low stands =
    let here = group_at group begins n k in
    let next = begins_behind begins k in
    let tail = grouped_from here next (numbered_from (n + 1) ks) in
    let within = group_within group begins n k low in
    elim (entry_of (in_group here n k) one tail stands) [
      | inl is ↦ subst (Rest group begins n (k ∷ ks)) is (record {
        next = next;
        later = ks;
        low = within.1;
        head = next_head begins k;
        rule_line = next_rule begins k;
        cases = λ two stands'. elim (entry_of (in_group here n k) two tail stands') [
          | inl same ↦ inl same
          | inr rest ↦ inr (inr rest)
        ];
        back = λ two rest. behind (at n k) two (numbered_from (n + 1) ks) rest;
      })
      | inr rest ↦ (
          let found = rest_of here next (n + 1) ks one (omega (arith, within.1)) rest in
          let late = late_from n ks (numbered_of one) (numbered_stands here next (numbered_from (n + 1) ks) one rest) in
          record {
            next = found.next;
            later = found.later;
            low = found.low;
            head = found.head;
            rule_line = found.rule_line;
            cases = λ two stands'. elim (entry_of (in_group here n k) two tail stands') [
              | inl same ↦ inr (inl (let first : n ≡ two.line = ap (λ z. z.line) same in omega (arith, first, late)))
              | inr rest' ↦ found.cases two rest'
            ];
            back = λ two rest'. behind (at n k) two (numbered_from (n + 1) ks) (found.back two rest');
          }
          )
    ]

module _ (group : ℕ) (begins : Bool) (n : ℕ) (ks : List Record) (low : group ≤ n) where
  -- the numbered records
  abbrev lines : List Numbered
  lines = numbered_from n ks

  -- the same with their groups
  abbrev grouped : List Grouped
  grouped = grouped_from group begins lines

  -- the one is in the rest behind the other
  later_of : (one two : Grouped) (rest : Rest group begins n ks one) → Contains grouped two → one.line < two.line →
      Contains (grouped_from one.group rest.next (numbered_from (one.line + 1) rest.later)) two
  later_of one two rest stands less = elim (rest.cases two stands) [
    | inl same ↦ (let equal : one.line ≡ two.line = ap (λ z. z.line) same in absurd (omega (arith, equal, less)))
    | inr before-or-later ↦ elim before-or-later [
      | inl before ↦ absurd (omega (arith, before, less))
      | inr later ↦ later
    ]
  ]

  groups_rise : (one two : Grouped) → Contains grouped one → Contains grouped two → one.line < two.line → one.group ≤ two.group
  groups_rise one two stands stands' less =
      let rest = rest_of group begins n ks one low stands in
      groups_above one.group rest.next (one.line + 1) rest.later two (omega (arith, rest.low)) (later_of one two rest stands' less)

  -- a rule line and then a user-agent line are in different groups
  group_ends : (one two : Grouped) → Contains grouped one → Contains grouped two → is_rule one.kind ≡ true → is_agent two.kind ≡ true → one.line < two.line → one.group < two.group
  group_ends one two stands stands' rules heads less =
      let rest = rest_of group begins n ks one low stands in
      let later = subst (λ (b : Bool). Contains (grouped_from one.group b (numbered_from (one.line + 1) rest.later)) two) (rest.rule_line rules) (later_of one two rest stands' less) in
      omega (arith, rest.low, new_head one.group (one.line + 1) rest.later two later heads)

  precedes : (head line : Grouped) → Contains grouped head → Contains grouped line → is_agent head.kind ≡ true → is_rule line.kind ≡ true → head.group ≡ line.group → head.line < line.line
  precedes head line head_stands line_stands heads rules same =
      let rest = rest_of group begins n ks line low line_stands in
      elim (rest.cases head head_stands) [
        | inl equal ↦ absurd (not_both head.kind heads (sym (ap (λ z. is_rule z.kind) equal) ∙ rules))
        | inr before-or-later ↦ elim before-or-later [
          | inl before ↦ before
          | inr later ↦ (
              let above = late_from line.line rest.later (numbered_of head) (numbered_stands line.group rest.next (numbered_from (line.line + 1) rest.later) head later) in
              absurd (omega (arith, same, group_ends line head line_stands head_stands rules heads above))
              )
        ]
      ]

  pub group_governs : (head line : Grouped) → Contains grouped head → Contains grouped line → is_agent head.kind ≡ true → is_rule line.kind ≡ true →
      (head.group ≡ line.group) ↔ Governs lines (numbered_of head) (numbered_of line)
  group_governs head line head_stands line_stands heads rules = (
    λ same. record {
      head_stands = numbered_stands group begins lines head head_stands;
      is_head = heads;
      line_stands = numbered_stands group begins lines line line_stands;
      is_line = rules;
      before = precedes head line head_stands line_stands heads rules same;
      one_group = λ ended begun e b rules' heads' after next less.
          let end = grouped_stands group begins lines ended e in
          let new = grouped_stands group begins lines begun b in
          let one = in_group end.0 ended.line ended.kind in
          let two = in_group new.0 begun.line begun.kind in
          let first = groups_rise head one head_stands end.1 after in
          let second = group_ends one two end.1 new.1 rules' heads' next in
          let third = groups_rise two line new.1 line_stands less in
          absurd (omega (arith, same, first, second, third));
    },
    λ governs.
        let rest = rest_of group begins n ks head low head_stands in
        let later = subst (λ (b : Bool). Contains (grouped_from head.group b (numbered_from (head.line + 1) rest.later)) line) (rest.head heads) (later_of head line rest line_stands governs.before) in
        sym (stays head.group false (head.line + 1) rest.later line later rules (λ ended begun e b rules' heads' next less.
        governs.one_group ended begun (rest.back ended e) (rest.back begun b) rules' heads' (late_from head.line rest.later ended e) next less)),
  )
