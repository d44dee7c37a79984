-- A walk over the grouped records gives exactly the rules for a token: those in groups with a line for it.
-- Used by `RobotsText::rules_for`.
use Rattle.std.proofs.Common.{◌≡◌, ℕ, ◌+◌, ◌<◌, ◌≤◌, Bool, true, false, ◌⊎◌, inl, inr, List, [], ◌∷◌, map, slice_index_or, Contains, refl, sym, ap, ◌∙◌, subst, arith}
use Rattle.std.specs.Prelude.{◌↔◌, ◌&&◌, Option, Some, None, unwrap_or, if◌then◌else◌}
use Rattle.std.specs.Cmp.{nat_cmp_is}
use Rattle.std.specs.List.{AllByRecursion, cons_option}
use Rattle.std.specs.List.Sorted.{IsStrictlySortedBy}
use Rattle.std.specs.Ordering.{nat_cmp}
use Rattle.std.specs.declared.cmp.Ordering.TheVariants.{Less}
use Rattle.std.proofs.lemmas.Bool.Decides.{nat_tests}
use Rattle.std.proofs.lemmas.List.Elements.{Contains-get_or}
use Rattle.std.proofs.lemmas.Map.Keys.{IsStrictlyIncreasing-from_sorted}
use Rattle.robots_text.specs.Grouped.{Grouped, begins_behind, group_at, grouped_from, grouped_records, numbered_of}
use Rattle.robots_text.specs.Groups.{AreRulesFor, IsRuleFor, Ruled, is_agent, is_rule, record_ruled, speaks_to}
use Rattle.robots_text.specs.Records.{Record, agent, rule, other, Numbered, numbered_from, numbered_records, records_of}
use Rattle.robots_text.specs.Walk.{ruled_in, rules_from, speaking_group}
use Rattle.robots_text.proofs.GroupLaws.{group_governs, group_within, grouped_stands, groups_above, in_group, new_head, next_rule, not_both}
use Rattle.robots_text.proofs.LineEntries.{behind, entry_of, first_of, none_of}

-- a user-agent line of the group passes the test
pub record HasHead (test : Record → Bool) (lines : List Grouped) (group : ℕ) : Type 0 where
  pub head : Grouped
  pub stands : Contains lines head
  pub in_group : head.group ≡ group
  pub is_head : is_agent head.kind ≡ true
  pub speaks : test head.kind ≡ true

pub head_behind : (test : Record → Bool) (first : Grouped) (lines : List Grouped) (group : ℕ) → HasHead test lines group → HasHead test (first ∷ lines) group
head_behind test first lines group has = record { head = has.head; stands = behind first has.head lines has.stands; in_group = has.in_group; is_head = has.is_head; speaks = has.speaks }

-- the grouped record of a rule line
abbrev pub grouped : ℕ → Ruled → Grouped
grouped group ruled = in_group group ruled.line (rule ruled.kind ruled.pattern)

-- the rule line is in a group with a user-agent line that passes the test
pub record IsInGroup (test : Record → Bool) (lines : List Grouped) (ruled : Ruled) : Type 0 where
  pub group : ℕ
  pub stands : Contains lines (grouped group ruled)
  pub has : HasHead test lines group

-- by its groups' numbers, a text's rule lines for a token are those in groups with a line for it
pub rule_in_group : (text word : List ℕ) (ruled : Ruled) → IsRuleFor (numbered_records text) word ruled ↔ IsInGroup (speaks_to (numbered_records text) word) (grouped_records text) ruled
rule_in_group text word ruled =
    let lines = numbered_records text in
    let low : 0 ≤ 1 = omega arith in (
      λ is.
          let head = grouped_stands 0 true lines is.head is.governs.head_stands in
          let line = grouped_stands 0 true lines (record_ruled ruled) is.governs.line_stands in
          let one = in_group head.0 is.head.line is.head.kind in record {
            group = line.0;
            stands = line.1;
            has = record {
              head = one;
              stands = head.1;
              in_group = (group_governs 0 true 1 (records_of text) low one (grouped line.0 ruled) head.1 line.1 is.governs.is_head refl).1 is.governs;
              is_head = is.governs.is_head;
              speaks = is.speaks;
            };
          },
      λ is. record {
        head = numbered_of is.has.head;
        speaks = is.has.speaks;
        governs = (group_governs 0 true 1 (records_of text) low is.has.head (grouped is.group ruled) is.has.stands is.stands is.has.is_head refl).0 is.has.in_group;
      },
    )

-- ---- what a walk gives

-- the group spoke last, or speaks among the lines
abbrev Speaks : (Record → Bool) → Option ℕ → List Grouped → ℕ → Type 0
Speaks test last lines group = (last ≡ Some group) ⊎ HasHead test lines group

cons_cases : (here : Option Ruled) (rules : List Ruled) (ruled : Ruled) → Contains (cons_option here rules) ruled → (here ≡ Some ruled) ⊎ Contains rules ruled
cons_cases None rules ruled stands = inr stands
cons_cases (Some first) rules ruled stands = elim (entry_of first ruled rules stands) [
  | inl is ↦ inl (ap (λ r. Some r) is)
  | inr rest ↦ inr rest
]

cons_here : (here : Option Ruled) (rules : List Ruled) (ruled : Ruled) → here ≡ Some ruled → Contains (cons_option here rules) ruled
cons_here here rules ruled is = subst (λ (o : Option Ruled). Contains (cons_option o rules) ruled) (sym is) (first_of ruled rules)

cons_behind : (here : Option Ruled) (rules : List Ruled) (ruled : Ruled) → Contains rules ruled → Contains (cons_option here rules) ruled
cons_behind None rules ruled stands = stands
cons_behind (Some first) rules ruled stands = behind first ruled rules stands

given_is : (last : Option ℕ) (group n : ℕ) (k : Record) (ruled : Ruled) → ruled_in last group n k ≡ Some ruled → (last ≡ Some group) × (in_group group n k ≡ grouped group ruled)
given_is last group n (agent who) ruled is = absurd cc
given_is last group n (rule kind value) ruled is = grind (arith, nat_tests)
given_is last group n other ruled is = absurd cc

is_given : (last : Option ℕ) (group : ℕ) (ruled : Ruled) → last ≡ Some group → ruled_in last group ruled.line (rule ruled.kind ruled.pattern) ≡ Some ruled
is_given last group ruled is = grind (arith, nat_tests)

-- a user-agent line that passes makes its group the last, and other records do not
now_cases : (heads speaks : Bool) (last : Option ℕ) (group : ℕ) →
    (((if heads && speaks then Some group else last) ≡ Some group) × (heads ≡ true) × (speaks ≡ true)) ⊎ ((if heads && speaks then Some group else last) ≡ last)
now_cases true true last group = inl (refl, refl, refl)
now_cases true false last group = inr refl
now_cases false speaks last group = inr refl

speaks_at : (test : Record → Bool) (last : Option ℕ) (group n : ℕ) (k : Record) (lines : List Grouped) (number : ℕ) → speaking_group test last group k ≡ Some number →
    Speaks test last (in_group group n k ∷ lines) number
speaks_at test last group n k lines number same = elim (now_cases (is_agent k) (test k) last group) [
  | inl a ↦ inr (record { head = in_group group n k; stands = first_of (in_group group n k) lines; in_group = (let both = sym a.0 ∙ same in cc); is_head = a.1; speaks = a.2 })
  | inr b ↦ inl (sym b ∙ same)
]

gives_only : (test : Record → Bool) (last : Option ℕ) (group : ℕ) (begins : Bool) (lines : List Numbered) (ruled : Ruled) → Contains (rules_from test last (grouped_from group begins lines)) ruled →
    (number : ℕ) × Contains (grouped_from group begins lines) (grouped number ruled) × Speaks test last (grouped_from group begins lines) number
gives_only test last group begins [] ruled stands = absurd (none_of ruled stands)
gives_only test last group begins (first ∷ lines) ruled stands =
    let here = group_at group begins first.line first.kind in
    let now = speaking_group test last here first.kind in
    let tail = grouped_from here (begins_behind begins first.kind) lines in
    let one = in_group here first.line first.kind in
    elim (cons_cases (ruled_in now here first.line first.kind) (rules_from test now tail) ruled stands) [
      | inl is ↦ (
          let given = given_is now here first.line first.kind ruled is in (
            here,
            subst (Contains (one ∷ tail)) given.1 (first_of one tail),
            speaks_at test last here first.line first.kind tail here given.0,
          )
          )
      | inr rest ↦ (
          let found = gives_only test now here (begins_behind begins first.kind) lines ruled rest in (
            found.0,
            behind one (grouped found.0 ruled) tail found.1,
            elim found.2 [
              | inl same ↦ speaks_at test last here first.line first.kind tail found.0 same
              | inr has ↦ inr (head_behind test one tail found.0 has)
            ],
          )
          )
    ]

-- a walk that stands at a record of these lines
module _ (test : Record → Bool) (last : Option ℕ) (group : ℕ) (begins : Bool) (n : ℕ) (k : Record) (ks : List Record) (ruled : Ruled) (number : ℕ) (low : group ≤ n) where
  -- the record's group
  abbrev here : ℕ
  here = group_at group begins n k

  -- the last group with such a line, after it
  abbrev now : Option ℕ
  now = speaking_group test last here k

  -- the record
  abbrev one : Grouped
  one = in_group here n k

  -- the records behind it
  abbrev tail : List Grouped
  tail = grouped_from here (begins_behind begins k) (numbered_from (n + 1) ks)

  given_here : one ≡ grouped number ruled → Speaks test last (one ∷ tail) number → ruled_in now here n k ≡ Some ruled
  given_here is spoke =
      let rules : is_rule k ≡ true = ap (λ z. is_rule z.kind) is in
      let same : here ≡ number = ap (λ z. z.group) is in
      let within = group_within group begins n k low in
      let was : last ≡ Some number = elim spoke [
        | inl old ↦ old
        | inr has ↦ elim (entry_of one has.head tail has.stands) [
          | inl first ↦ absurd (not_both k (ap (λ z. is_agent z.kind) first ∙ has.is_head) rules)
          | inr later ↦ (
              let behind_rule = subst (λ (b : Bool). Contains (grouped_from here b (numbered_from (n + 1) ks)) has.head) (next_rule begins k rules) later in
              absurd (omega (arith, same, within.1, has.in_group, new_head here (n + 1) ks has.head behind_rule has.is_head))
              )
        ]
      ] in
      let is_now : now ≡ Some number = elim (now_cases (is_agent k) (test k) last here) [
        | inl a ↦ absurd (not_both k a.1 rules)
        | inr b ↦ b ∙ was
      ] in
      ap (λ z. ruled_in now z.group z.line z.kind) is ∙ is_given now number ruled is_now

  speaks_behind : unwrap_or last 0 ≤ group → Contains tail (grouped number ruled) → Speaks test last (one ∷ tail) number → Speaks test now tail number
  speaks_behind below stands (inl was) = elim (now_cases (is_agent k) (test k) last here) [
    | inl a ↦ (
        let within = group_within group begins n k low in
        let above = groups_above here (begins_behind begins k) (n + 1) ks (grouped number ruled) (omega (arith, within.1)) stands in
        let same : here ≡ number = omega (arith, below, ap (λ o. unwrap_or o 0) was, within.0, above) in
        inl (a.0 ∙ ap (λ g. Some g) same)
        )
    | inr b ↦ inl (b ∙ was)
  ]
  speaks_behind below stands (inr has) = elim (entry_of one has.head tail has.stands) [
    | inl first ↦ (
        let heads = ap (λ z. is_agent z.kind) first ∙ has.is_head in
        let speaks = ap (λ z. test z.kind) first ∙ has.speaks in
        inl ((λ i. if heads i && speaks i then Some here else last) ∙ ap (λ z. Some z.group) first ∙ ap (λ g. Some g) has.in_group)
        )
    | inr later ↦ inr (record { head = has.head; stands = later; in_group = has.in_group; is_head = has.is_head; speaks = has.speaks })
  ]

still_below : (speaks : Bool) (last : Option ℕ) (group here : ℕ) → unwrap_or last 0 ≤ group → group ≤ here → unwrap_or (if speaks then Some here else last) 0 ≤ here
still_below true last group here below within = omega arith
still_below false last group here below within = omega arith

gives_every : (test : Record → Bool) (last : Option ℕ) (group : ℕ) (begins : Bool) (n : ℕ) (ks : List Record) (ruled : Ruled) (number : ℕ) → group ≤ n → unwrap_or last 0 ≤ group →
    Contains (grouped_from group begins (numbered_from n ks)) (grouped number ruled) → Speaks test last (grouped_from group begins (numbered_from n ks)) number →
    Contains (rules_from test last (grouped_from group begins (numbered_from n ks))) ruled
gives_every test last group begins n [] ruled number low below stands spoke = absurd (none_of (grouped number ruled) stands)
gives_every test last group begins n (k ∷ ks) ruled number low below stands spoke =
    let here = group_at group begins n k in
    let next = begins_behind begins k in
    let now = speaking_group test last here k in
    let tail = grouped_from here next (numbered_from (n + 1) ks) in
    let within = group_within group begins n k low in
    elim (entry_of (in_group here n k) (grouped number ruled) tail stands) [
      | inl is ↦ cons_here (ruled_in now here n k) (rules_from test now tail) ruled (given_here test last group begins n k ks ruled number low is spoke)
      | inr rest ↦ cons_behind (ruled_in now here n k) (rules_from test now tail) ruled
          (gives_every test now here next (n + 1) ks ruled number (omega (arith, within.1)) (still_below (is_agent k && test k) last group here below within.0) rest
          (speaks_behind test last group begins n k ks ruled number low below rest spoke))
    ]

-- ---- in line order

-- the numbers of the rules
abbrev lines_of : List Ruled → List ℕ
lines_of rules = map (λ ruled. ruled.line) rules

-- all rules come behind this line
abbrev Behind : ℕ → List Ruled → Type 0
Behind n rules = AllByRecursion (λ line. nat_cmp n line ≡ Less) (lines_of rules)

cons_later : (n : ℕ) (here : Option Ruled) (rules : List Ruled) → ((ruled : Ruled) → here ≡ Some ruled → n < ruled.line) → Behind n rules → Behind n (cons_option here rules)
cons_later n None rules first later = later
cons_later n (Some ruled) rules first later = (sym (nat_cmp_is n ruled.line Less (first ruled refl)), later)

cons_rises : (here : Option Ruled) (rules : List Ruled) → ((ruled : Ruled) → here ≡ Some ruled → Behind ruled.line rules) → IsStrictlySortedBy nat_cmp (lines_of rules) →
    IsStrictlySortedBy nat_cmp (lines_of (cons_option here rules))
unfolding IsStrictlySortedBy
cons_rises None rules first rises = rises
cons_rises (Some ruled) rules first rises = (first ruled refl, rises)

rules_rise : (test : Record → Bool) (last : Option ℕ) (group : ℕ) (begins : Bool) (n : ℕ) (ks : List Record) →
    ((to : ℕ) → to < n → Behind to (rules_from test last (grouped_from group begins (numbered_from n ks)))) × IsStrictlySortedBy nat_cmp (lines_of (rules_from test last (grouped_from group begins (numbered_from n ks))))
unfolding IsStrictlySortedBy
rules_rise test last group begins n [] = (λ to less. tt, tt)
rules_rise test last group begins n (k ∷ ks) =
    let here = group_at group begins n k in
    let now = speaking_group test last here k in
    let rest = rules_rise test now here (begins_behind begins k) (n + 1) ks in
    let rules = rules_from test now (grouped_from here (begins_behind begins k) (numbered_from (n + 1) ks)) in
    let line : (ruled : Ruled) → ruled_in now here n k ≡ Some ruled → n ≡ ruled.line = λ ruled is. ap (λ z. z.line) (given_is now here n k ruled is).1 in (
      λ to less. cons_later to (ruled_in now here n k) rules (λ ruled is. omega (arith, less, line ruled is)) (rest.0 to (omega (arith, less))),
      cons_rises (ruled_in now here n k) rules (λ ruled is. rest.0 ruled.line (omega (arith, line ruled is))) rest.1,
    )

pub walk_is : (text word : List ℕ) → AreRulesFor (numbered_records text) word (rules_from (speaks_to (numbered_records text) word) None (grouped_records text))
walk_is text word =
    let test = speaks_to (numbered_records text) word in
    let rules = rules_from test None (grouped_records text) in
    record {
      ordered = IsStrictlyIncreasing-from_sorted (lines_of rules) (rules_rise test None 0 true 1 (records_of text)).1;
      each = λ i past within.
          let ruled = slice_index_or rules i past in
          let found = gives_only test None 0 true (numbered_records text) ruled (Contains-get_or rules i past within) in
          (rule_in_group text word ruled).1 (record {
            group = found.0;
            stands = found.1;
            has = elim found.2 [
              | inl never ↦ absurd cc
              | inr has ↦ has
            ];
          });
      every = λ ruled is.
          let one = (rule_in_group text word ruled).0 is in
          gives_every test None 0 true 1 (records_of text) ruled one.group (omega arith) (omega arith) one.stands (inr one.has);
    }
