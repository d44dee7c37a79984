-- The rewritten lines of a text: their numbers rise, and each is one of its rule lines.
-- Used by `NormalText`.
use Rattle.std.proofs.Common.{◌≡◌, ℕ, ◌+◌, ◌*◌, ◌<◌, ◌≤◌, Bool, true, false, inl, inr, List, [], ◌∷◌, ◌++◌, All, Contains, length, map, zero, suc, get_or, refl, sym, ap, ◌∙◌, subst, arith, append_assoc}
use Rattle.std.specs.Prelude.{bytes_eq, if◌then◌else◌}
use Rattle.std.specs.List.Sorted.{IsNonDecreasing}
use Rattle.std.proofs.lemmas.List.Elements.{All-tail, Contains-append_cases, Contains-append_left, Contains-append_right}
use Rattle.std.proofs.lemmas.Slice.Eq.{bytes_eq-Decides}
use Rattle.path_normal.specs.Normal.{is_anchored, normal_pattern}
use Rattle.path_normal.proofs.CallerLemmas.{pattern_small}
use Rattle.robots_text.specs.declared.record.RuleKind.{RuleKind}
use Rattle.robots_text.specs.Grouped.{Grouped, begins_behind, group_at, grouped_from, grouped_records, IsWithin, value_octets, values_octets}
use Rattle.robots_text.specs.Groups.{record_ruled, Ruled}
use Rattle.robots_text.specs.Records.{Record, agent, rule, other, Numbered, numbered_from, numbered_records, records_of}
use Rattle.robots_text.proofs.CallerLemmas.{at, behind, entry_of, first_of, grouped, grouped_stands, late_from, none_of, numbered_above, numbered_stands}
use Rattle.robots_verdict.specs.Placed.{Placed, placed_at, placed_in}
use Rattle.robots_verdict.specs.Rewritten.{FormOfLine, rewritten_at, rewritten_in}
use Rattle.robots_verdict.proofs.Verdicts.{of_line}

-- what was read and what is left make up the whole; there is room for its octets
pub record IsRewriting (all left : List Grouped) (forms : List FormOfLine) (octets : ℕ) : Type 0 where
  pub forms_are : forms ++ rewritten_in left ≡ rewritten_in all
  pub small : octets + 3 * values_octets left ≤ 1536000
  pub within : All (IsWithin 512000) left

pub read_one : (all left : List Grouped) (first : Grouped) (forms forms' : List FormOfLine) (octets octets' : ℕ) → IsRewriting all (first ∷ left) forms octets →
    forms' ≡ forms ++ rewritten_at first.line first.kind → octets' ≤ octets + 3 * value_octets first.kind → IsRewriting all left forms' octets'
read_one all left first forms forms' octets octets' reading more few = record {
  forms_are = ap (λ (l : List FormOfLine). l ++ rewritten_in left) more ∙ append_assoc forms (rewritten_at first.line first.kind) (rewritten_in left) ∙ reading.forms_are;
  small = let before = reading.small in omega arith;
  within = All-tail (IsWithin 512000) first left reading.within;
}

pub made_small : (cleared new made pattern : List ℕ) (rule_kind : RuleKind) (kind : Record) → cleared ≡ [] → new ≡ cleared ++ normal_pattern pattern → made ≡ new →
    kind ≡ rule rule_kind pattern → length made ≤ 3 * value_octets kind
made_small cleared new made pattern rule_kind kind none is same kind_is =
    let small = pattern_small (is_anchored pattern) pattern refl in
    let form : made ≡ normal_pattern pattern = same ∙ is ∙ ap (λ (front : List ℕ). front ++ normal_pattern pattern) none in
    omega (arith, small, ap length form, ap value_octets kind_is)

-- ---- each is that of one of the rule lines

abbrev pub kept_of : Placed → FormOfLine
kept_of row = record { line = row.line; form = row.form }

-- the row whose form is kept
pub record IsOfRow (rows : List Placed) (form : FormOfLine) : Type 0 where
  pub row : Placed
  pub stands : Contains rows row
  pub is : kept_of row ≡ form

if_not : (is : Bool) (row : Placed) (form : FormOfLine) → Contains (if is then [] else kept_of row ∷ []) form → IsOfRow (row ∷ []) form
if_not true row form stands = absurd (none_of form stands)
if_not false row form stands = elim (entry_of (kept_of row) form [] stands) [
  | inl is ↦ record { row = row; stands = first_of row []; is = is }
  | inr rest ↦ absurd (none_of form rest)
]

within_at : (group line : ℕ) (kind : Record) (form : FormOfLine) → Contains (rewritten_at line kind) form → IsOfRow (placed_at group line kind) form
within_at group line (agent who) form stands = absurd (none_of form stands)
within_at group line (rule kind value) form stands =
    if_not (bytes_eq (normal_pattern value) value) (record { group = group; line = line; kind = kind; form = normal_pattern value }) form stands
within_at group line other form stands = absurd (none_of form stands)

pub within : (lines : List Grouped) (form : FormOfLine) → Contains (rewritten_in lines) form → IsOfRow (placed_in lines) form
within [] form stands = absurd (none_of form stands)
within (first ∷ lines) form stands = elim (Contains-append_cases (rewritten_at first.line first.kind) (rewritten_in lines) form stands) [
  | inl here ↦ (
      let one = within_at first.group first.line first.kind form here in
      record { row = one.row; stands = Contains-append_left (placed_at first.group first.line first.kind) (placed_in lines) one.row one.stands; is = one.is }
      )
  | inr rest ↦ (
      let one = within lines form rest in
      record { row = one.row; stands = Contains-append_right (placed_at first.group first.line first.kind) (placed_in lines) one.row one.stands; is = one.is }
      )
]

-- ---- and each rule line with a rewritten pattern is there

abbrev pub form_of : Ruled → FormOfLine
form_of ruled = record { line = ruled.line; form = normal_pattern ruled.pattern }

if_so : (is : Bool) (form : FormOfLine) → is ≡ false → Contains (if is then [] else form ∷ []) form
if_so true form not = absurd cc
if_so false form not = first_of form []

stands_here : (first : Grouped) (group : ℕ) (ruled : Ruled) → bytes_eq (normal_pattern ruled.pattern) ruled.pattern ≡ false → first ≡ grouped group ruled →
    Contains (rewritten_at first.line first.kind) (form_of ruled)
stands_here first group ruled not is =
    subst (λ (o : Grouped). Contains (rewritten_at o.line o.kind) (form_of ruled)) (sym is) (if_so (bytes_eq (normal_pattern ruled.pattern) ruled.pattern) (form_of ruled) not)

rewritten_stands : (lines : List Grouped) (group : ℕ) (ruled : Ruled) → bytes_eq (normal_pattern ruled.pattern) ruled.pattern ≡ false → Contains lines (grouped group ruled) →
    Contains (rewritten_in lines) (form_of ruled)
rewritten_stands [] group ruled not stands = absurd (none_of (grouped group ruled) stands)
rewritten_stands (first ∷ lines) group ruled not stands = elim (entry_of first (grouped group ruled) lines stands) [
  | inl is ↦ Contains-append_left (rewritten_at first.line first.kind) (rewritten_in lines) (form_of ruled) (stands_here first group ruled not is)
  | inr rest ↦ Contains-append_right (rewritten_at first.line first.kind) (rewritten_in lines) (form_of ruled) (rewritten_stands lines group ruled not rest)
]

-- ---- their numbers rise

abbrev pub line_of : FormOfLine → ℕ
line_of form = form.line

above : (group : ℕ) (begins : Bool) (n : ℕ) (ks : List Record) (form : FormOfLine) → Contains (rewritten_in (grouped_from group begins (numbered_from n ks))) form → n ≤ form.line
above group begins n ks form stands =
    let lines = grouped_from group begins (numbered_from n ks) in
    let at = within lines form stands in
    let one = of_line lines at.row at.stands in
    let low = numbered_above n ks (record_ruled one.ruled) (numbered_stands group begins (numbered_from n ks) (grouped at.row.group one.ruled) one.stands) in
    let same : one.ruled.line ≡ form.line = ap (λ (r : Placed). r.line) one.is ∙ ap line_of at.is in
    omega (arith, low, same)

all_above : (n : ℕ) (forms : List FormOfLine) → ((form : FormOfLine) → Contains forms form → n ≤ form.line) → (j d : ℕ) → j < length (map line_of forms) → n ≤ get_or (map line_of forms) j d
all_above n [] low j d less = absurd (omega arith)
all_above n (form ∷ forms) low zero d less = low form (first_of form forms)
all_above n (form ∷ forms) low (suc j) d less = all_above n forms (λ one stands. low one (behind form one forms stands)) j d (omega arith)

onto : (n : ℕ) (xs : List ℕ) → ((j d : ℕ) → j < length xs → n ≤ get_or xs j d) → IsNonDecreasing xs → IsNonDecreasing (n ∷ xs)
onto n xs low up zero zero d order less = omega arith
onto n xs low up zero (suc j) d order less = low j d (omega arith)
onto n xs low up (suc i) zero d order less = absurd (omega arith)
onto n xs low up (suc i) (suc j) d order less = up i j d (omega arith) (omega arith)

onto_if : (is : Bool) (form : FormOfLine) (rest : List FormOfLine) → ((one : FormOfLine) → Contains rest one → form.line ≤ one.line) → IsNonDecreasing (map line_of rest) →
    IsNonDecreasing (map line_of ((if is then [] else form ∷ []) ++ rest))
onto_if true form rest low up = up
onto_if false form rest low up = onto form.line (map line_of rest) (all_above form.line rest low) up

onto_at : (line : ℕ) (kind : Record) (rest : List FormOfLine) → ((one : FormOfLine) → Contains rest one → line ≤ one.line) → IsNonDecreasing (map line_of rest) →
    IsNonDecreasing (map line_of (rewritten_at line kind ++ rest))
onto_at line (agent who) rest low up = up
onto_at line (rule kind value) rest low up = onto_if (bytes_eq (normal_pattern value) value) (record { line = line; form = normal_pattern value }) rest low up
onto_at line other rest low up = up

rises_from : (group : ℕ) (begins : Bool) (n : ℕ) (ks : List Record) → IsNonDecreasing (map line_of (rewritten_in (grouped_from group begins (numbered_from n ks))))
rises_from group begins n [] = λ i j d order less. absurd (omega arith)
rises_from group begins n (k ∷ ks) =
    let here = group_at group begins n k in
    let rest = rewritten_in (grouped_from here (begins_behind begins k) (numbered_from (n + 1) ks)) in
    onto_at n k rest (λ one stands. let low = above here (begins_behind begins k) (n + 1) ks one stands in omega (arith, low))
    (rises_from here (begins_behind begins k) (n + 1) ks)

pub rises : (text : List ℕ) → IsNonDecreasing (map line_of (rewritten_in (grouped_records text)))
rises text = rises_from 0 true 1 (records_of text)

-- ---- lines are apart

apart : (n : ℕ) (ks : List Record) (one two : Numbered) → Contains (numbered_from n ks) one → Contains (numbered_from n ks) two → one.line ≡ two.line → one ≡ two
apart n [] one two stands also same = absurd (none_of one stands)
apart n (k ∷ ks) one two stands also same = elim (entry_of (at n k) one (numbered_from (n + 1) ks) stands) [
  | inl is ↦ elim (entry_of (at n k) two (numbered_from (n + 1) ks) also) [
    | inl is' ↦ sym is ∙ is'
    | inr rest ↦ (let here : n ≡ one.line = ap (λ (z : Numbered). z.line) is in let late = late_from n ks two rest in absurd (omega (arith, here, late, same)))
  ]
  | inr rest ↦ elim (entry_of (at n k) two (numbered_from (n + 1) ks) also) [
    | inl is' ↦ (let here : n ≡ two.line = ap (λ (z : Numbered). z.line) is' in let late = late_from n ks one rest in absurd (omega (arith, here, late, same)))
    | inr rest' ↦ apart (n + 1) ks one two rest rest' same
  ]
]

abbrev pub value_of : Record → List ℕ
value_of (agent who) = []
value_of (rule kind value) = value
value_of other = []

pub kept_form : (text : List ℕ) (ruled : Ruled) (form : FormOfLine) → Contains (numbered_records text) (record_ruled ruled) → Contains (rewritten_in (grouped_records text)) form →
    form.line ≡ ruled.line → form.form ≡ normal_pattern ruled.pattern
kept_form text ruled form stands kept same =
    let at = within (grouped_records text) form kept in
    let one = of_line (grouped_records text) at.row at.stands in
    let also = numbered_stands 0 true (numbered_records text) (grouped at.row.group one.ruled) one.stands in
    let line = ap (λ (r : Placed). r.line) one.is ∙ ap line_of at.is ∙ same in
    let is = apart 1 (records_of text) (record_ruled one.ruled) (record_ruled ruled) also stands line in
    sym (ap (λ (r : Placed). r.form) one.is ∙ ap (λ (f : FormOfLine). f.form) at.is) ∙ ap (λ (z : Numbered). normal_pattern (value_of z.kind)) is

pub own_form : (text : List ℕ) (ruled : Ruled) → Contains (numbered_records text) (record_ruled ruled) →
    ((form : FormOfLine) → Contains (rewritten_in (grouped_records text)) form → form.line ≡ ruled.line → ⊥) → ruled.pattern ≡ normal_pattern ruled.pattern
own_form text ruled stands none = by (bytes_eq (normal_pattern ruled.pattern) ruled.pattern) refl
  where
    by : (is : Bool) → bytes_eq (normal_pattern ruled.pattern) ruled.pattern ≡ is → ruled.pattern ≡ normal_pattern ruled.pattern
    by true is = sym ((bytes_eq-Decides (normal_pattern ruled.pattern) ruled.pattern).0 is)
    by false not =
        let found = grouped_stands 0 true (numbered_records text) (record_ruled ruled) stands in
        absurd (none (form_of ruled) (rewritten_stands (grouped_records text) found.0 ruled not found.1) refl)
