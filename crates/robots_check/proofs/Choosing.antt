-- The rows of rule lines in order, and the weight of the strongest so far.
-- Used by what compares rule lines with a path.
use Rattle.std.proofs.Common.{◌≡◌, ◌<◌, ◌≤◌, ◌+◌, ◌⊎◌, inl, inr, ℕ, Bool, true, false, List, [], ◌∷◌, ◌++◌, Contains, drop, length, map, take, refl, sym, ap, subst, ◌∙◌, slice_index_or}
use Rattle.std.specs.Prelude.{Option, Some, None}
use Rattle.std.proofs.lemmas.Bool.{true≢false, cond-true, cond-false}
use Rattle.std.proofs.lemmas.List.{drop_all, drop_more, map_more, take_all}
use Rattle.std.proofs.lemmas.List.Elements.{Contains-append_cases, Contains-append_left, Contains-append_right}
use Rattle.robots_text.proofs.CallerLemmas.{entry_of, first_of, none_of}
use Rattle.robots_text.specs.Groups.{Ruled}
use Rattle.robots_verdict.proofs.CallerLemmas.{IsWalked, itself, pass_over, through, walked_all, weigh}
use Rattle.robots_verdict.specs.Strongest.{stronger}
use Rattle.robots_verdict.specs.Weights.{is_above, weight_of}
use Rattle.robots_verdict.specs.declared.weight.Weight.{Weight}
use Rattle.robots_check.specs.Rows.{AreRows, IsBestFor, IsHeaviest, IsHeaviestOf, IsRow, Tried, row_weight, weighed_row}

-- ---- rows

rows_more : (path : List ℕ) (rules more : List Ruled) (rows others : List Tried) → AreRows path rules rows → AreRows path more others → AreRows path (rules ++ more) (rows ++ others)
rows_more path [] more [] others are after = after
rows_more path [] more (tried ∷ rows) others are after = absurd are
rows_more path (ruled ∷ rules) more [] others are after = absurd are
rows_more path (ruled ∷ rules) more (tried ∷ rows) others are after = (are.0, rows_more path rules more rows others are.1 after)

pub row_added : (path : List ℕ) {X : Type 0} (f : X → Ruled) (xs : List X) (i : ℕ) (d : X) (rows : List Tried) (tried : Tried) → i < length xs → AreRows path (map f (take i xs)) rows → IsRow path (f (slice_index_or xs i d)) tried →
    AreRows path (map f (take (i + 1) xs)) (rows ++ tried ∷ [])
row_added path f xs i d rows tried within are is =
    subst (λ rules. AreRows path rules (rows ++ tried ∷ [])) (sym (map_more f xs i d within)) (rows_more path (map f (take i xs)) (f (slice_index_or xs i d) ∷ []) rows (tried ∷ []) are (is, tt))

-- ---- the strongest of rule lines

-- a row's weight is its rule line's
pub weighs_as : (path : List ℕ) (ruled : Ruled) (tried : Tried) → IsRow path ruled tried → row_weight tried ≡ weight_of ruled
weighs_as path ruled tried is = λ i. record { octets = is.as_many i; kind = (is.of_line i).kind; line = (is.of_line i).line }

walked_by : (path : List ℕ) (all left : List Ruled) (best : Option Weight) (ruled : Ruled) (row : Tried) (hits : Bool) → row.hits ≡ hits → IsRow path ruled row → IsWalked path all (ruled ∷ left) best →
    IsWalked path all left (weighed_row hits best row)
walked_by path all left best ruled row true hits is walked =
    subst (λ w. IsWalked path all left (Some (stronger best w))) (sym (weighs_as path ruled row is)) (weigh path all left best ruled (is.hits.0 hits) walked)
walked_by path all left best ruled row false misses is walked =
    pass_over path all left best ruled (λ matches. true≢false (sym (is.hits.1 matches) ∙ misses)) walked

pub walked_more : (path : List ℕ) {X : Type 0} (f : X → Ruled) (xs : List X) (i : ℕ) (d : X) (best found : Option Weight) (row : Tried) → i < length xs → IsWalked path (map f xs) (map f (drop i xs)) best → IsRow path (f (slice_index_or xs i d)) row →
    found ≡ weighed_row row.hits best row → IsWalked path (map f xs) (map f (drop (i + 1) xs)) found
walked_more path f xs i d best found row within walked is_row found_is =
    let left = map f (drop (i + 1) xs) in
    subst (IsWalked path (map f xs) left) (sym found_is)
    (walked_by path (map f xs) left best (f (slice_index_or xs i d)) row row.hits refl is_row
    (subst (λ l. IsWalked path (map f xs) (map f l) best) (drop_more xs i d within) walked))

pub best_for : (path : List ℕ) {X : Type 0} (f : X → Ruled) (xs : List X) (i : ℕ) (best : Option Weight) → length xs ≤ i → IsWalked path (map f xs) (map f (drop i xs)) best → IsBestFor path (map f xs) best
best_for path f xs i best past walked lines word are =
    walked_all lines word path (map f xs) best are (subst (λ l. IsWalked path (map f xs) (map f l) best) (drop_all i xs past) walked)

-- ---- the strongest of rows that pass a test

entry_more : (rows : List Tried) (last tried : Tried) → Contains (rows ++ last ∷ []) tried → Contains rows tried ⊎ (last ≡ tried)
entry_more rows last tried stands = elim (Contains-append_cases rows (last ∷ []) tried stands) [
  | inl before ↦ inl before
  | inr at ↦ elim (entry_of last tried [] at) [
    | inl same ↦ inr same
    | inr none ↦ absurd (none_of tried none)
  ]
]

passed_over : (test : Tried → Bool) (rows : List Tried) (best : Option Weight) (last : Tried) → test last ≡ false → IsHeaviestOf test rows best → IsHeaviestOf test (rows ++ last ∷ []) best
passed_over test rows None last misses is = λ tried stands passes. elim (entry_more rows last tried stands) [
  | inl before ↦ is tried before passes
  | inr same ↦ true≢false (sym passes ∙ ap test (sym same) ∙ misses)
]
passed_over test rows (Some best) last misses is = record {
  row = is.row;
  stands = Contains-append_left rows (last ∷ []) is.row is.stands;
  passes = is.passes;
  weighs = is.weighs;
  strongest = λ tried stands passes. elim (entry_more rows last tried stands) [
    | inl before ↦ is.strongest tried before passes
    | inr same ↦ absurd (true≢false (sym passes ∙ ap test (sym same) ∙ misses))
  ];
}

-- the last row is the best
last_best : (test : Tried → Bool) (rows : List Tried) (last : Tried) → test last ≡ true → ((tried : Tried) → Contains rows tried → test tried ≡ true → is_above (row_weight tried) (row_weight last) ≡ false) →
    IsHeaviest test (rows ++ last ∷ []) (row_weight last)
last_best test rows last counts above = record {
  row = last;
  stands = Contains-append_right rows (last ∷ []) last (first_of last []);
  passes = counts;
  weighs = refl;
  strongest = λ tried stands passes. elim (entry_more rows last tried stands) [
    | inl before ↦ above tried before passes
    | inr same ↦ subst (λ t. is_above (row_weight t) (row_weight last) ≡ false) same (itself (row_weight last))
  ];
}

weighs : (test : Tried → Bool) (rows : List Tried) (best : Option Weight) (last : Tried) → test last ≡ true → IsHeaviestOf test rows best → IsHeaviestOf test (rows ++ last ∷ []) (Some (stronger best (row_weight last)))
weighs test rows None last counts is = last_best test rows last counts (λ tried before passes. absurd (is tried before passes))
weighs test rows (Some best) last counts is = by (is_above (row_weight last) best) refl
  where
    by : (up : Bool) → is_above (row_weight last) best ≡ up → IsHeaviestOf test (rows ++ last ∷ []) (Some (stronger (Some best) (row_weight last)))
    by true up = subst (λ w. IsHeaviestOf test (rows ++ last ∷ []) (Some w)) (sym (cond-true (is_above (row_weight last) best) (row_weight last) best up))
        (last_best test rows last counts (λ tried before passes. through (row_weight tried) (row_weight last) best (is_above (row_weight tried) (row_weight last)) refl (is.strongest tried before passes) up))
    by false up = subst (λ w. IsHeaviestOf test (rows ++ last ∷ []) (Some w)) (sym (cond-false (is_above (row_weight last) best) (row_weight last) best up)) record {
      row = is.row;
      stands = Contains-append_left rows (last ∷ []) is.row is.stands;
      passes = is.passes;
      weighs = is.weighs;
      strongest = λ tried stands passes. elim (entry_more rows last tried stands) [
        | inl before ↦ is.strongest tried before passes
        | inr same ↦ subst (λ t. is_above (row_weight t) best ≡ false) same up
      ];
    }

step_by : (test : Tried → Bool) (rows : List Tried) (best : Option Weight) (last : Tried) (counts : Bool) → test last ≡ counts → IsHeaviestOf test rows best → IsHeaviestOf test (rows ++ last ∷ []) (weighed_row counts best last)
step_by test rows best last true counts is = weighs test rows best last counts is
step_by test rows best last false misses is = passed_over test rows best last misses is

pub best_more : (test : Tried → Bool) {X : Type 0} (f : X → Tried) (xs : List X) (i : ℕ) (d : X) (best found : Option Weight) (counts : Bool) → i < length xs → IsHeaviestOf test (map f (take i xs)) best → test (f (slice_index_or xs i d)) ≡ counts →
    found ≡ weighed_row counts best (f (slice_index_or xs i d)) → IsHeaviestOf test (map f (take (i + 1) xs)) found
best_more test f xs i d best found counts within is passes found_is =
    subst (λ rows. IsHeaviestOf test rows found) (sym (map_more f xs i d within))
    (subst (IsHeaviestOf test (map f (take i xs) ++ f (slice_index_or xs i d) ∷ [])) (sym found_is)
    (step_by test (map f (take i xs)) best (f (slice_index_or xs i d)) counts passes is))

pub best_all : (test : Tried → Bool) {X : Type 0} (f : X → Tried) (xs : List X) (i : ℕ) (best : Option Weight) → length xs ≤ i → IsHeaviestOf test (map f (take i xs)) best → IsHeaviestOf test (map f xs) best
best_all test f xs i best past is = subst (λ l. IsHeaviestOf test (map f l) best) (take_all i xs past) is
