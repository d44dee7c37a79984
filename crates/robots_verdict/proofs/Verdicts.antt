-- The first row that decides gives the verdict.
-- Used by `Policy::verdict`.
use Rattle.std.proofs.Common.{◌≡◌, ℕ, ◌+◌, ◌<◌, ◌≤◌, length, Bool, true, false, inl, inr, List, [], ◌∷◌, ◌++◌, Contains, refl, sym, ap, ◌∙◌, subst}
use Rattle.std.specs.Prelude.{◌↔◌, ◌≢◌, ◌||◌, bytes_eq, if◌then◌else◌, MatchBool, IfSome, Option, Some, None, unwrap_or, is_some}
use Rattle.std.proofs.lemmas.Bool.{cond-true, cond-false, true≢false}
use Rattle.std.proofs.lemmas.List.Elements.{Contains-append_cases, Contains-append_left, Contains-append_right}
use Rattle.std.proofs.lemmas.List.{get_or_default}
use Rattle.std.proofs.lemmas.List.Sorted.{Contains-permutation, IsPermutation-sym, list_any-IsPermutation, ranks_by, sorted_far}
use Rattle.std.proofs.lemmas.Slice.Eq.{bytes_eq-Decides}
use Rattle.path_normal.specs.Normal.{normal_pattern}
use Rattle.path_pattern.specs.Matches.{Matches}
use Rattle.robots_text.specs.declared.record.RuleKind.{RuleKind}
use Rattle.robots_text.specs.declared.record.RuleKind.TheVariants as kinds
use Rattle.robots_text.specs.Grouped.{Grouped, begins_behind, group_at, grouped_from, grouped_records}
use Rattle.robots_text.specs.Groups.{is_agent, is_named, IsRuleFor, names_everybody, names_token, Ruled, speaks_to}
use Rattle.robots_text.specs.Records.{everybody, token, nobody, Record, agent, rule, other, numbered_from, numbered_records, records_of}
use Rattle.robots_text.specs.Token.{is_token, lower_case, token_of}
use Rattle.robots_text.proofs.CallerLemmas.{behind, entry_of, first_of, grouped, HasHead, head_behind, none_of, rule_in_group}
use Rattle.robots_verdict.specs.Heads.{has_name, IsGroupFor}
use Rattle.robots_verdict.specs.Index.{FindsLeast, IsHit, IsIndex}
use Rattle.robots_verdict.specs.Placed.{everybody_at, everybody_in, named_at, named_in, NamedGroup, Names, Placed, placed_at, placed_in, Table}
use Rattle.robots_verdict.specs.Rows.{is_row_above, no_row, row_at, weight_at}
use Rattle.robots_verdict.specs.Strongest.{said_by, verdict_at}
use Rattle.robots_verdict.specs.Verdict.{Applies, IsStrongest, IsVerdict, robots_path}
use Rattle.robots_verdict.specs.Weights.{is_above, weight_of}
use Rattle.robots_verdict.proofs.Weighing.{falling_total}

-- ---- rows and records

-- the row of a rule line
abbrev pub placed : ℕ → Ruled → Placed
placed group ruled = record { group = group; line = ruled.line; kind = ruled.kind; form = normal_pattern ruled.pattern }

pub placed_here : (one : Grouped) (group : ℕ) (ruled : Ruled) → one ≡ grouped group ruled → Contains (placed_at one.group one.line one.kind) (placed group ruled)
placed_here one group ruled is = subst (λ (o : Grouped). Contains (placed_at o.group o.line o.kind) (placed group ruled)) (sym is) (first_of (placed group ruled) [])

placed_stands : (lines : List Grouped) (group : ℕ) (ruled : Ruled) → Contains lines (grouped group ruled) → Contains (placed_in lines) (placed group ruled)
placed_stands [] group ruled stands = absurd (none_of (grouped group ruled) stands)
placed_stands (first ∷ lines) group ruled stands = elim (entry_of first (grouped group ruled) lines stands) [
  | inl is ↦ Contains-append_left (placed_at first.group first.line first.kind) (placed_in lines) (placed group ruled) (placed_here first group ruled is)
  | inr rest ↦ Contains-append_right (placed_at first.group first.line first.kind) (placed_in lines) (placed group ruled) (placed_stands lines group ruled rest)
]

-- the row is that of a rule line
pub record IsOfLine (lines : List Grouped) (row : Placed) : Type 0 where
  pub ruled : Ruled
  pub stands : Contains lines (grouped row.group ruled)
  pub is : placed row.group ruled ≡ row

of_first : (group line : ℕ) (kind : Record) (row : Placed) → Contains (placed_at group line kind) row → IsOfLine (record { group = group; line = line; kind = kind } ∷ []) row
of_first group line (agent who) row stands = absurd (none_of row stands)
of_first group line other row stands = absurd (none_of row stands)
of_first group line (rule kind value) row stands = elim (entry_of (record { group = group; line = line; kind = kind; form = normal_pattern value }) row [] stands) [
  | inl is ↦ subst (IsOfLine (record { group = group; line = line; kind = rule kind value } ∷ [])) is (record {
    ruled = record { line = line; kind = kind; pattern = value };
    stands = first_of (record { group = group; line = line; kind = rule kind value }) [];
    is = refl;
  })
  | inr never ↦ absurd (none_of row never)
]

pub of_line : (lines : List Grouped) (row : Placed) → Contains (placed_in lines) row → IsOfLine lines row
of_line [] row stands = absurd (none_of row stands)
of_line (first ∷ lines) row stands = elim (Contains-append_cases (placed_at first.group first.line first.kind) (placed_in lines) row stands) [
  | inl here ↦ (
      let one = of_first first.group first.line first.kind row here in
      record { ruled = one.ruled; stands = Contains-append_left (first ∷ []) lines (grouped row.group one.ruled) one.stands; is = one.is }
      )
  | inr rest ↦ (
      let one = of_line lines row rest in
      record { ruled = one.ruled; stands = behind first (grouped row.group one.ruled) lines one.stands; is = one.is }
      )
]

-- ---- names and records

named_first : (group : ℕ) (kind : Record) (word : List ℕ) → lower_case word ≡ word → names_token word kind ≡ true → Contains (named_at group kind) (record { name = word; group = group })
named_first group (agent everybody) word own speaks = absurd (true≢false (sym speaks))
named_first group (agent nobody) word own speaks = absurd (true≢false (sym speaks))
named_first group (rule kind value) word own speaks = absurd (true≢false (sym speaks))
named_first group other word own speaks = absurd (true≢false (sym speaks))
named_first group (agent (token name)) word own speaks =
    let same : lower_case name ≡ word = (bytes_eq-Decides (lower_case name) (lower_case word)).0 speaks ∙ own in
    subst (λ (w : List ℕ). Contains (named_at group (agent (token name))) (record { name = w; group = group })) same (first_of (record { name = lower_case name; group = group }) [])

named_from : (group : ℕ) (kind : Record) (word : List ℕ) (of : ℕ) → lower_case word ≡ word → Contains (named_at group kind) (record { name = word; group = of }) →
    (names_token word kind ≡ true) × (group ≡ of) × (is_agent kind ≡ true)
named_from group (agent everybody) word of own stands = absurd (none_of _ stands)
named_from group (agent nobody) word of own stands = absurd (none_of _ stands)
named_from group (rule kind value) word of own stands = absurd (none_of _ stands)
named_from group other word of own stands = absurd (none_of _ stands)
named_from group (agent (token name)) word of own stands = elim (entry_of (record { name = lower_case name; group = group }) (record { name = word; group = of }) [] stands) [
  | inl is ↦ ((bytes_eq-Decides (lower_case name) (lower_case word)).1 (ap (λ (n : NamedGroup). n.name) is ∙ sym own), ap (λ (n : NamedGroup). n.group) is, refl)
  | inr never ↦ absurd (none_of _ never)
]

everybody_first : (group : ℕ) (kind : Record) → names_everybody kind ≡ true → Contains (everybody_at group kind) group
everybody_first group (agent everybody) speaks = first_of group []
everybody_first group (agent (token name)) speaks = absurd (true≢false (sym speaks))
everybody_first group (agent nobody) speaks = absurd (true≢false (sym speaks))
everybody_first group (rule kind value) speaks = absurd (true≢false (sym speaks))
everybody_first group other speaks = absurd (true≢false (sym speaks))

everybody_from : (group : ℕ) (kind : Record) (of : ℕ) → Contains (everybody_at group kind) of → (names_everybody kind ≡ true) × (group ≡ of) × (is_agent kind ≡ true)
everybody_from group (agent everybody) of stands = elim (entry_of group of [] stands) [
  | inl is ↦ (refl, is, refl)
  | inr never ↦ absurd (none_of _ never)
]
everybody_from group (agent (token name)) of stands = absurd (none_of _ stands)
everybody_from group (agent nobody) of stands = absurd (none_of _ stands)
everybody_from group (rule kind value) of stands = absurd (none_of _ stands)
everybody_from group other of stands = absurd (none_of _ stands)

named_stands : (lines : List Grouped) (word : List ℕ) (head : Grouped) → lower_case word ≡ word → Contains lines head → names_token word head.kind ≡ true →
    Contains (named_in lines) (record { name = word; group = head.group })
named_stands [] word head own stands speaks = absurd (none_of head stands)
named_stands (first ∷ lines) word head own stands speaks = elim (entry_of first head lines stands) [
  | inl is ↦ Contains-append_left (named_at first.group first.kind) (named_in lines) (record { name = word; group = head.group })
      (subst (λ (o : Grouped). Contains (named_at o.group o.kind) (record { name = word; group = head.group })) (sym is) (named_first head.group head.kind word own speaks))
  | inr rest ↦ Contains-append_right (named_at first.group first.kind) (named_in lines) (record { name = word; group = head.group }) (named_stands lines word head own rest speaks)
]

named_heads : (lines : List Grouped) (word : List ℕ) (group : ℕ) → lower_case word ≡ word → Contains (named_in lines) (record { name = word; group = group }) → HasHead (names_token word) lines group
named_heads [] word group own stands = absurd (none_of _ stands)
named_heads (first ∷ lines) word group own stands = elim (Contains-append_cases (named_at first.group first.kind) (named_in lines) (record { name = word; group = group }) stands) [
  | inl here ↦ (
      let from = named_from first.group first.kind word group own here in
      record { head = first; stands = first_of first lines; in_group = from.1; is_head = from.2; speaks = from.0 }
      )
  | inr rest ↦ head_behind (names_token word) first lines group (named_heads lines word group own rest)
]

everybody_stands : (lines : List Grouped) (head : Grouped) → Contains lines head → names_everybody head.kind ≡ true → Contains (everybody_in lines) head.group
everybody_stands [] head stands speaks = absurd (none_of head stands)
everybody_stands (first ∷ lines) head stands speaks = elim (entry_of first head lines stands) [
  | inl is ↦ Contains-append_left (everybody_at first.group first.kind) (everybody_in lines) head.group
      (subst (λ (o : Grouped). Contains (everybody_at o.group o.kind) head.group) (sym is) (everybody_first head.group head.kind speaks))
  | inr rest ↦ Contains-append_right (everybody_at first.group first.kind) (everybody_in lines) head.group (everybody_stands lines head rest speaks)
]

everybody_heads : (lines : List Grouped) (group : ℕ) → Contains (everybody_in lines) group → HasHead names_everybody lines group
everybody_heads [] group stands = absurd (none_of _ stands)
everybody_heads (first ∷ lines) group stands = elim (Contains-append_cases (everybody_at first.group first.kind) (everybody_in lines) group stands) [
  | inl here ↦ (
      let from = everybody_from first.group first.kind group here in
      record { head = first; stands = first_of first lines; in_group = from.1; is_head = from.2; speaks = from.0 }
      )
  | inr rest ↦ head_behind names_everybody first lines group (everybody_heads lines group rest)
]

any_first : (group : ℕ) (kind : Record) (word : List ℕ) (rest : List NamedGroup) (later : Bool) → lower_case word ≡ word → has_name rest word ≡ later →
    has_name (named_at group kind ++ rest) word ≡ (names_token word kind || later)
any_first group (agent everybody) word rest later own is = is
any_first group (agent nobody) word rest later own is = is
any_first group (rule kind value) word rest later own is = is
any_first group other word rest later own is = is
any_first group (agent (token name)) word rest later own is = λ i. bytes_eq (lower_case name) (sym own i) || is i

any_named : (group : ℕ) (begins : Bool) (n : ℕ) (ks : List Record) (word : List ℕ) → lower_case word ≡ word →
    has_name (named_in (grouped_from group begins (numbered_from n ks))) word ≡ is_named (numbered_from n ks) word
any_named group begins n [] word own = refl
any_named group begins n (k ∷ ks) word own =
    any_first (group_at group begins n k) k word (named_in (grouped_from (group_at group begins n k) (begins_behind begins k) (numbered_from (n + 1) ks))) (is_named (numbered_from (n + 1) ks) word) own
    (any_named (group_at group begins n k) (begins_behind begins k) (n + 1) ks word own)

chosen : (is : Bool) (P Q : Type 0) → (is ≡ true → P) → (is ≡ false → Q) → MatchBool is P Q
chosen true P Q yes' no' = yes' refl
chosen false P Q yes' no' = no' refl

if_named : (is : Bool) (P Q : Type 0) → is ≡ true → MatchBool is P Q → P
if_named true P Q one match = match
if_named false P Q one match = absurd (true≢false (sym one))

if_unnamed : (is : Bool) (P Q : Type 0) → is ≡ false → MatchBool is P Q → Q
if_unnamed true P Q one match = absurd (true≢false one)
if_unnamed false P Q one match = match

module _ (text : List ℕ) (table : Table) (names : Names) (index : IsIndex text table names) (word : List ℕ) (own : lower_case word ≡ word) where
  same_named : has_name names.named word ≡ is_named (numbered_records text) word
  same_named =
      sym (list_any-IsPermutation (λ n. bytes_eq n.name word) (named_in (grouped_records text)) names.named index.named)
      ∙ any_named 0 true 1 (records_of text) word own

  group_spoken : (head : Grouped) → Contains (grouped_records text) head → speaks_to (numbered_records text) word head.kind ≡ true → IsGroupFor names word head.group
  group_spoken head stands speaks = chosen (has_name names.named word) _ _
      (λ is.
      let named = sym same_named ∙ is in
      let by_name = sym (cond-true (is_named (numbered_records text) word) (names_token word head.kind) (names_everybody head.kind) named) ∙ speaks in
      Contains-permutation (named_in (grouped_records text)) names.named (record { name = word; group = head.group }) index.named (named_stands (grouped_records text) word head own stands by_name))
      (λ is.
      let unnamed = sym same_named ∙ is in
      let by_star = sym (cond-false (is_named (numbered_records text) word) (names_token word head.kind) (names_everybody head.kind) unnamed) ∙ speaks in
      Contains-permutation (everybody_in (grouped_records text)) names.everybody head.group index.everybody (everybody_stands (grouped_records text) head stands by_star))

  spoken_by : (is : Bool) → is_named (numbered_records text) word ≡ is → (group : ℕ) → IsGroupFor names word group → HasHead (speaks_to (numbered_records text) word) (grouped_records text) group
  spoken_by true is group match =
      let stands = if_named (has_name names.named word) _ _ (same_named ∙ is) match in
      subst (λ (test : Record → Bool). HasHead test (grouped_records text) group) (λ i kind. if sym is i then names_token word kind else names_everybody kind)
      (named_heads (grouped_records text) word group own
      (Contains-permutation names.named (named_in (grouped_records text)) (record { name = word; group = group }) (IsPermutation-sym (named_in (grouped_records text)) names.named index.named) stands))
  spoken_by false is group match =
      let stands = if_unnamed (has_name names.named word) _ _ (same_named ∙ is) match in
      subst (λ (test : Record → Bool). HasHead test (grouped_records text) group) (λ i kind. if sym is i then names_token word kind else names_everybody kind)
      (everybody_heads (grouped_records text) group
      (Contains-permutation names.everybody (everybody_in (grouped_records text)) group (IsPermutation-sym (everybody_in (grouped_records text)) names.everybody index.everybody) stands))

  rule_placed : (ruled : Ruled) → IsRuleFor (numbered_records text) word ruled → (group : ℕ) × (Contains table.rows (placed group ruled)) × (IsGroupFor names word group)
  rule_placed ruled is =
      let one = (rule_in_group text word ruled).0 is in (
        one.group,
        Contains-permutation (placed_in (grouped_records text)) table.rows (placed one.group ruled) index.rows (placed_stands (grouped_records text) one.group ruled one.stands),
        subst (IsGroupFor names word) one.has.in_group (group_spoken one.has.head one.has.stands one.has.speaks),
      )

  placed_rule : (row : Placed) → Contains table.rows row → IsGroupFor names word row.group → (ruled : Ruled) × (IsRuleFor (numbered_records text) word ruled) × (placed row.group ruled ≡ row)
  placed_rule row stands match =
      let one = of_line (grouped_records text) row
      (Contains-permutation table.rows (placed_in (grouped_records text)) row (IsPermutation-sym (placed_in (grouped_records text)) table.rows index.rows) stands) in
      let has = spoken_by (is_named (numbered_records text) word) refl row.group match in
      (one.ruled, (rule_in_group text word one.ruled).1 (record { group = row.group; stands = one.stands; has = has }), one.is)

  module _ (groups path : List ℕ) (are : (group : ℕ) → Contains groups group ↔ IsGroupFor names word group) where
    applies_hit : (ruled : Ruled) → Applies (numbered_records text) word path ruled → (place : ℕ) × (IsHit table.rows groups path place) × (weight_at (row_at table.rows place) ≡ weight_of ruled)
    applies_hit ruled applies =
        let found = rule_placed ruled applies.for_token in
        let place = found.1.0 in
        let within = found.1.1 in
        let row : row_at table.rows place ≡ placed found.0 ruled = get_or_default table.rows place no_row (placed found.0 ruled) within ∙ found.1.2 in (
          place,
          record {
            within = within;
            governs = subst (λ (r : Placed). Contains groups r.group) (sym row) ((are found.0).1 found.2);
            matches = subst (λ (r : Placed). Matches r.form path) (sym row) applies.matches;
          },
          ap weight_at row,
        )

    hit_applies : (place : ℕ) → IsHit table.rows groups path place → (ruled : Ruled) × (Applies (numbered_records text) word path ruled) × (placed (row_at table.rows place).group ruled ≡ row_at table.rows place)
    hit_applies place hit =
        let row = row_at table.rows place in
        let stands : Contains table.rows row = (place, hit.within, get_or_default table.rows place row no_row hit.within) in
        let one = placed_rule row stands ((are row.group).0 hit.governs) in
        (one.0, record { for_token = one.1; matches = subst (λ (r : Placed). Matches r.form path) (sym one.2) hit.matches }, one.2)

    strongest_hit : (place : ℕ) (ruled : Ruled) → IsHit table.rows groups path place → ((other : ℕ) → IsHit table.rows groups path other → place ≤ other) →
        Applies (numbered_records text) word path ruled → placed (row_at table.rows place).group ruled ≡ row_at table.rows place → IsStrongest (numbered_records text) word path ruled
    strongest_hit place ruled hit least applies is = record {
      applies = applies;
      strongest = λ other also.
          let found = applies_hit other also in
          let order = sorted_far is_row_above (ranks_by falling_total weight_at) table.rows index.falling place found.0 no_row (least found.0 found.1) found.1.within in
          (λ i. is_above (sym found.2 i) (ap weight_at is i)) ∙ order;
    }

    decided : (kind : RuleKind) (place line : ℕ) (ruled : Ruled) → (path ≢ robots_path) → ruled.kind ≡ kind → ruled.line ≡ line → IsStrongest (numbered_records text) word path ruled →
        IsVerdict (numbered_records text) word path (said_by kind line)
    decided kinds.Allow place line ruled elsewhere is_kind is_line strongest = record { elsewhere = elsewhere; ruled = ruled; is_line = is_line; is_kind = is_kind; strongest = strongest }
    decided kinds.Disallow place line ruled elsewhere is_kind is_line strongest = record { elsewhere = elsewhere; ruled = ruled; is_line = is_line; is_kind = is_kind; strongest = strongest }

    first_decides : (place : ℕ) → (path ≢ robots_path) → FindsLeast (IsHit table.rows groups path) (Some place) →
        IsVerdict (numbered_records text) word path (said_by (row_at table.rows place).kind (row_at table.rows place).line)
    first_decides place elsewhere least =
        let one = hit_applies place least.0 in
        decided (row_at table.rows place).kind place (row_at table.rows place).line one.0 elsewhere (ap (λ (r : Placed). r.kind) one.2) (ap (λ (r : Placed). r.line) one.2)
        (strongest_hit place one.0 least.0 least.1 one.1 one.2)

    none_decides : (path ≢ robots_path) → FindsLeast (IsHit table.rows groups path) None → (path ≢ robots_path) × ((ruled : Ruled) → Applies (numbered_records text) word path ruled → ⊥)
    none_decides elsewhere none = (elsewhere, λ ruled applies. let found = applies_hit ruled applies in none found.0 found.1)

    first_says : (first : Option ℕ) → (path ≢ robots_path) → FindsLeast (IsHit table.rows groups path) first → IsVerdict (numbered_records text) word path (verdict_at table.rows first)
    first_says None elsewhere none = none_decides elsewhere none
    first_says (Some place) elsewhere least = first_decides place elsewhere least

own_case : (is : Bool) (word : List ℕ) → is_token word ≡ is → token_of word ≡ Some word → lower_case word ≡ word
own_case true word is own =
    ap (λ (o : Option (List ℕ)). unwrap_or o word) (sym (cond-true (is_token word) (Some (lower_case word)) None is) ∙ own)
own_case false word is own =
    absurd (true≢false (ap is_some (sym own ∙ cond-false (is_token word) (Some (lower_case word)) None is)))

-- the first matching row in the token's groups gives the verdict
pub policy_says : (text seen : List ℕ) (table : Table) (names : Names) (word spelled path groups : List ℕ) (first : Option ℕ) → text ≡ seen → IsIndex text table names →
    token_of word ≡ Some word → spelled ≡ word → ((group : ℕ) → Contains groups group ↔ IsGroupFor names spelled group) → (path ≢ robots_path) →
    FindsLeast (IsHit table.rows groups path) first → IsVerdict (numbered_records seen) word path (verdict_at table.rows first)
policy_says text seen table names word spelled path groups first is index own same are elsewhere least =
    subst (λ (t : List ℕ). IsVerdict (numbered_records t) word path (verdict_at table.rows first)) is
    (first_says text table names index word (own_case (is_token word) word refl own) groups path
    (subst (λ (w : List ℕ). (group : ℕ) → Contains groups group ↔ IsGroupFor names w group) same are) first elsewhere least)

pub first_within : (table : Table) (groups path : List ℕ) (first : Option ℕ) → FindsLeast (IsHit table.rows groups path) first → IfSome first (λ place. place < length table.rows)
first_within table groups path None least = tt
first_within table groups path (Some place) least = least.0.within
