-- The groups of lines that say something rise, and these lines have all rule lines for the token.
-- Used by what finds both among the lines that say something.
use Rattle.std.proofs.Common.{◌≡◌, ℕ, ◌+◌, ◌<◌, ◌≤◌, Bool, true, false, zero, suc, List, [], ◌∷◌, length, map, slice_index_or, refl, sym, ap, ◌∙◌, subst, arith}
use Rattle.std.specs.Prelude.{Option, None, filter}
use Rattle.std.specs.List.{cons_option}
use Rattle.std.specs.List.Sorted.{IsNonDecreasing, IsNonDecreasingBy}
use Rattle.std.proofs.lemmas.List.{get_or-map, length-map}
use Rattle.std.proofs.lemmas.List.Kept.{IsNonDecreasingBy-filter}
use Rattle.robots_text.proofs.CallerLemmas.{walk_is}
use Rattle.robots_text.specs.Grouped.{Grouped, begins_behind, group_at, grouped_from, grouped_records}
use Rattle.robots_text.specs.Groups.{AreRulesFor, Ruled, speaks_to}
use Rattle.robots_text.specs.Records.{Record, agent, rule, other, numbered_from, numbered_records, records_of}
use Rattle.robots_text.specs.Walk.{ruled_in, rules_from, speaking_group}
use Rattle.robots_check.specs.AgentText.{groups_that}
use Rattle.robots_check.specs.Notes.{is_said}
use Rattle.robots_check.specs.Said.{said_among}

-- ---- the groups' numbers

within_step : (group : ℕ) (begins : Bool) (n : ℕ) (k : Record) → group ≤ n → (group ≤ group_at group begins n k) × (group_at group begins n k ≤ n)
within_step group true n (agent who) low = (low, omega arith)
within_step group false n (agent who) low = (omega arith, low)
within_step group begins n (rule kind value) low = (omega arith, low)
within_step group begins n other low = (omega arith, low)

-- a record's group
abbrev group_of : Grouped → ℕ
group_of line = line.group

above_group : (group : ℕ) (begins : Bool) (n : ℕ) (ks : List Record) (j : ℕ) (d : Grouped) → group ≤ n → j < length (grouped_from group begins (numbered_from n ks)) →
    group ≤ (slice_index_or (grouped_from group begins (numbered_from n ks)) j d).group
above_group group begins n [] j d low within = absurd (omega arith)
above_group group begins n (k ∷ ks) zero d low within = (within_step group begins n k low).0
above_group group begins n (k ∷ ks) (suc j) d low within =
    let step = within_step group begins n k low in
    let above = above_group (group_at group begins n k) (begins_behind begins k) (n + 1) ks j d (omega (arith, step.1)) (omega arith) in
    omega (arith, step.0, above)

groups_rise : (group : ℕ) (begins : Bool) (n : ℕ) (ks : List Record) → group ≤ n → IsNonDecreasingBy group_of (grouped_from group begins (numbered_from n ks))
groups_rise group begins n [] low i j d before within = absurd (omega arith)
groups_rise group begins n (k ∷ ks) low zero zero d before within = omega arith
groups_rise group begins n (k ∷ ks) low (suc i) zero d before within = absurd (omega arith)
groups_rise group begins n (k ∷ ks) low zero (suc j) d before within =
    above_group (group_at group begins n k) (begins_behind begins k) (n + 1) ks j d (let step = within_step group begins n k low in omega (arith, step.1)) (omega arith)
groups_rise group begins n (k ∷ ks) low (suc i) (suc j) d before within =
    groups_rise (group_at group begins n k) (begins_behind begins k) (n + 1) ks (let step = within_step group begins n k low in omega (arith, step.1)) i j d (omega arith) (omega arith)

mapped_rise : (lines : List Grouped) → IsNonDecreasingBy group_of lines → IsNonDecreasing (map group_of lines)
mapped_rise lines rise i j d before within =
    let inside : j < length lines = omega (arith, within, length-map lines group_of) in
    let one : Grouped = record { group = d; line = 0; kind = other } in
    omega (arith, rise i j one before inside, get_or-map group_of lines i one d (omega (arith, before, inside)), get_or-map group_of lines j one d inside)

pub groups_that_rise : (test : Record → Bool) (text : List ℕ) → IsNonDecreasing (groups_that test (said_among (grouped_records text)))
groups_that_rise test text =
    mapped_rise (filter (λ line. test line.kind) (said_among (grouped_records text)))
    (IsNonDecreasingBy-filter group_of (λ line. test line.kind) (said_among (grouped_records text))
    (IsNonDecreasingBy-filter group_of (λ line. is_said line.kind) (grouped_records text)
    (groups_rise 0 true 1 (records_of text) (omega arith))))

-- ---- the rule lines

-- a line that says nothing has no part in the walk
kept_by : (test : Record → Bool) (last : Option ℕ) (group n : ℕ) (k : Record) (lines : List Grouped) → ((now : Option ℕ) → rules_from test now (said_among lines) ≡ rules_from test now lines) →
    rules_from test last (said_among (record { group = group; line = n; kind = k } ∷ lines)) ≡ rules_from test last (record { group = group; line = n; kind = k } ∷ lines)
kept_by test last group n (agent who) lines rest = rest (speaking_group test last group (agent who))
kept_by test last group n (rule kind value) lines rest = ap (cons_option (ruled_in last group n (rule kind value))) (rest last)
kept_by test last group n other lines rest = rest last

rules_kept : (test : Record → Bool) (last : Option ℕ) (lines : List Grouped) → rules_from test last (said_among lines) ≡ rules_from test last lines
rules_kept test last [] = refl
rules_kept test last (first ∷ lines) = kept_by test last first.group first.line first.kind lines (λ now. rules_kept test now lines)

pub rules_said : (text word : List ℕ) (f : Record → Bool) (said : List Grouped) → said ≡ said_among (grouped_records text) → ((kind : Record) → f kind ≡ speaks_to (numbered_records text) word kind) →
    AreRulesFor (numbered_records text) word (rules_from f None said)
rules_said text word f said are same =
    subst (AreRulesFor (numbered_records text) word)
    (sym (ap (rules_from f None) are ∙ rules_kept f None (grouped_records text) ∙ (λ i. rules_from (λ kind. same kind i) None (grouped_records text)))) (walk_is text word)
