-- The place of a numbered rule line.
-- Used by `place_of`.
use Rattle.std.proofs.Common.{◌≡◌, ◌≤◌, ◌<◌, slice_index_or, inl, inr, ℕ, ◌+◌, List, length, map, ap, arith}
use Rattle.std.proofs.lemmas.Bool.{cases_order}
use Rattle.std.proofs.lemmas.List.{get_or-map, length-map}
use Rattle.std.proofs.lemmas.List.Kept.{AllPairs-from_increasing}
use Rattle.robots_text.specs.Groups.{Ruled}
use Rattle.robots_check.specs.Rules.{IsRising, IsRuleAt, no_rule, rule_at}

-- this number's rule line is between the two places
pub record IsBetween (rules : List Ruled) (line low high : ℕ) : Type 0 where
  pub place : ℕ
  pub at : IsRuleAt rules line place
  pub from : low ≤ place
  pub to : place ≤ high
  pub within : high ≤ length rules

-- the number of a line
abbrev number_of : Ruled → ℕ
number_of ruled = ruled.line

number_at : (rules : List Ruled) (i : ℕ) → i < length rules → slice_index_or (map number_of rules) i 0 ≡ (rule_at rules i).line
number_at rules i within = get_or-map number_of rules i no_rule 0 within

rises : (rules : List Ruled) → IsRising rules → (i j : ℕ) → i < j → j < length rules → (rule_at rules i).line < (rule_at rules j).line
rises rules rising i j before within =
    let pairs = AllPairs-from_increasing (map number_of rules) rising i j 0 before (omega (arith, within, length-map rules number_of)) in
    omega (arith, pairs, number_at rules i (omega (arith, before, within)), number_at rules j within)

pub above_middle : (rules : List Ruled) (line low high middle : ℕ) → IsRising rules → IsBetween rules line low high → middle < high → (rule_at rules middle).line < line →
    IsBetween rules line (middle + 1) high
above_middle rules line low high middle rising between to less = record {
  place = between.place;
  at = between.at;
  from = elim (cases_order between.place middle) [
    | inl same ↦ (let as_middle : (rule_at rules between.place).line ≡ (rule_at rules middle).line = ap (λ i. (rule_at rules i).line) same in absurd (omega (arith, less, between.at.1, as_middle)))
    | inr (inr late) ↦ omega (arith, late)
    | inr (inl early) ↦ (let fall = rises rules rising between.place middle early (omega (arith, to, between.within)) in absurd (omega (arith, less, between.at.1, fall)))
  ];
  to = between.to;
  within = between.within;
}

pub up_to_middle : (rules : List Ruled) (line low high middle : ℕ) → IsRising rules → IsBetween rules line low high → middle < high → line ≤ (rule_at rules middle).line →
    IsBetween rules line low middle
up_to_middle rules line low high middle rising between to more = record {
  place = between.place;
  at = between.at;
  from = between.from;
  to = elim (cases_order between.place middle) [
    | inl same ↦ omega (arith, same)
    | inr (inr late) ↦ (let rise = rises rules rising middle between.place late between.at.0 in absurd (omega (arith, more, between.at.1, rise)))
    | inr (inl early) ↦ omega (arith, early)
  ];
  within = omega (arith, to, between.within);
}

pub one_place : (rules : List Ruled) → IsRising rules → (line i j : ℕ) → IsRuleAt rules line i → IsRuleAt rules line j → i ≡ j
one_place rules rising line i j at there = elim (cases_order i j) [
  | inl same ↦ same
  | inr (inl early) ↦ (let rise = rises rules rising i j early there.0 in absurd (omega (arith, rise, at.1, there.1)))
  | inr (inr late) ↦ (let rise = rises rules rising j i late at.0 in absurd (omega (arith, rise, at.1, there.1)))
]
