-- Lists with the same elements in any order say the same if no key repeats.
-- Used by `Base::of` and by the laws on histories that say the same.
use Rattle.std.proofs.Common.{◌≡◌, ◌≤◌, ◌==◌, ℕ, Bool, true, false, cond, List, [], ◌∷◌, All, IsPermutation, length, filter, refl, sym, ap, ◌∙◌, true≢false, arith}
use Rattle.std.specs.List.{sum_by}
use Rattle.std.proofs.lemmas.List.Elements.{All-cons, All-filter, All-head, All-nil, filter_passes}
use Rattle.std.proofs.lemmas.List.Sorted.{All-permutation, sum_by-IsPermutation}
use Rattle.std.proofs.lemmas.List.Sums.{sum_by-cons}
use Rattle.authority_cache.specs.Calls.{one_if}
use Rattle.authority_cache.proofs.CallerLemmas.{count-cons, same_text}
use Rattle.permit_book.specs.declared.granted_permit.GrantedPermit.{GrantedPermit}
use Rattle.permit_book.specs.Outstanding.{is_numbered}
use Rattle.authority_cache.specs.declared.standing_answer.StandingAnswer.{StandingAnswer}
use Rattle.authority_cache.specs.declared.turn.Turn.{Turn}
use Rattle.authority_cache.specs.Lists.{is_answer_for, is_turn_of}
use Rattle.gate_history.specs.declared.base.SlotGrant.{SlotGrant}
use Rattle.gate_history.specs.Grants.{is_in}
use Rattle.gate_history.specs.Seal.{SaySame}
use Rattle.gate_history.specs.Laws.{KeysSayAlike, ReorderingSaysAlike}
use Rattle.gate_history.proofs.Saying.{says-each}
use Rattle.gate_history.proofs.OrderLaws.{covered_alike, greatest_alike}

count-sum : {X : Type 0} (test : X → Bool) (xs : List X) → length (filter test xs) ≡ sum_by (λ x. one_if (test x)) xs
count-sum test [] = refl
count-sum test (x ∷ xs) = omega (arith, count-sum test xs, count-cons test x xs, sum_by-cons (λ x. one_if (test x)) x xs)

count-moved : {X : Type 0} (p : X → Bool) (xs ys : List X) → IsPermutation xs ys → length (filter p ys) ≡ length (filter p xs)
count-moved p xs ys moved = count-sum p ys ∙ (sum_by-IsPermutation (λ x. one_if (p x)) xs ys moved ∙ sym (count-sum p xs))

none-left : {X : Type 0} (xs : List X) → length xs ≡ 0 → xs ≡ []
none-left [] none = refl
none-left (x ∷ xs) none = absurd (omega (arith, none))

none-passes : {X : Type 0} (p : X → Bool) (x : X) (xs : List X) → length (filter p xs) ≡ 0 → All (λ y. p y ≡ true → y ≡ x) xs
none-passes p x [] none = All-nil (λ y. p y ≡ true → y ≡ x)
none-passes p x (a ∷ xs) none = by (p a) refl none (none-passes p x xs)
  where
    by : (b : Bool) → p a ≡ b → length (cond b (a ∷ filter p xs) (filter p xs)) ≡ 0 → (length (filter p xs) ≡ 0 → All (λ y. p y ≡ true → y ≡ x) xs) →
        All (λ y. p y ≡ true → y ≡ x) (a ∷ xs)
    by true is none rest = absurd (omega (arith, none))
    by false is none rest = All-cons (λ y. p y ≡ true → y ≡ x) a xs (λ passes. absurd (true≢false (sym passes ∙ is))) (rest none)

only-element : {X : Type 0} (a x : X) (xs : List X) → a ∷ xs ≡ x ∷ [] → (a ≡ x) × (length xs ≡ 0)
only-element a x [] same = (cc, refl)
only-element a x (b ∷ xs) same = absurd (let long = ap length same in omega (arith, long))

one-passes : {X : Type 0} (p : X → Bool) (x : X) (xs : List X) → filter p xs ≡ x ∷ [] → All (λ y. p y ≡ true → y ≡ x) xs
one-passes p x [] one = All-nil (λ y. p y ≡ true → y ≡ x)
one-passes p x (a ∷ xs) one = by (p a) refl one (one-passes p x xs)
  where
    by : (b : Bool) → p a ≡ b → cond b (a ∷ filter p xs) (filter p xs) ≡ x ∷ [] → (filter p xs ≡ x ∷ [] → All (λ y. p y ≡ true → y ≡ x) xs) →
        All (λ y. p y ≡ true → y ≡ x) (a ∷ xs)
    by true is one rest =
        let both = only-element a x (filter p xs) one in
        All-cons (λ y. p y ≡ true → y ≡ x) a xs (λ passes. both.0) (none-passes p x xs both.1)
    by false is one rest = All-cons (λ y. p y ≡ true → y ≡ x) a xs (λ passes. absurd (true≢false (sym passes ∙ is))) (rest one)

one-same : {X : Type 0} (p : X → Bool) (x : X) (zs : List X) → length zs ≡ 1 → All (λ y. p y ≡ true → y ≡ x) zs → All (λ y. p y ≡ true) zs → zs ≡ x ∷ []
one-same p x [] one same passes = absurd (omega (arith, one))
one-same p x (z ∷ []) one same passes =
    ap (λ y. y ∷ []) (All-head (λ y. p y ≡ true → y ≡ x) z [] same (All-head (λ y. p y ≡ true) z [] passes))
one-same p x (z ∷ (y ∷ zs)) one same passes = absurd (omega (arith, one))

one-moved : {X : Type 0} (p : X → Bool) (xs ys : List X) → IsPermutation xs ys → (kept : List X) → filter p xs ≡ kept → length kept ≤ 1 → filter p ys ≡ kept
one-moved p xs ys moved [] is few = none-left (filter p ys) (count-moved p xs ys moved ∙ ap length is)
one-moved p xs ys moved (x ∷ []) is few = one-same p x (filter p ys) (count-moved p xs ys moved ∙ ap length is)
    (All-filter p (λ y. p y ≡ true → y ≡ x) ys (All-permutation (λ y. p y ≡ true → y ≡ x) xs ys moved (one-passes p x xs is))) (filter_passes p ys)
one-moved p xs ys moved (x ∷ (y ∷ zs)) is few = absurd (omega (arith, few))

pub says-moved : {K X : Type 0} (is_of : K → X → Bool) (xs ys : List X) → IsPermutation xs ys → ((k : K) → length (filter (is_of k) xs) ≤ 1) → SaySame is_of ys xs
says-moved is_of xs ys moved once = record {
  each = λ k. one-moved (is_of k) xs ys moved (filter (is_of k) xs) refl (once k);
  counts = λ p. count-moved p xs ys moved;
}

eqb-same : (n : ℕ) → (n == n) ≡ true
eqb-same n = search arith

pub keys_say : KeysSayAlike
keys_say = record {
  answers = says-each is_answer_for (λ (s : StandingAnswer). s.authority) (λ s. same_text s.authority);
  turns = says-each is_turn_of (λ (t : Turn). t.authority) (λ t. same_text t.authority);
  permits = says-each is_numbered (λ (p : GrantedPermit). p.number) (λ p. eqb-same p.number);
  grants = says-each is_in (λ (g : SlotGrant). g.slot) (λ g. eqb-same g.slot);
}

pub reordering_says : ReorderingSaysAlike
reordering_says given made base moved = record {
  answers = says-moved is_answer_for given.standing made.standing moved.answers base.turns.answers_once;
  turns = says-moved is_turn_of given.in_flight made.in_flight moved.turns base.turns.flights_once;
  permits = says-moved is_numbered given.unspent made.unspent moved.permits (λ n. let once = base.permits.numbers_once n in omega (arith, once));
  runs = says-moved is_numbered given.running made.running moved.runs (λ n. let once = base.permits.numbers_once n in omega (arith, once));
  slots = slots;
  greatest = greatest_alike made.grants given.grants slots;
  granted = λ n granted. covered_alike made.grants given.grants slots n ∙ granted;
  begun = moved.begun;
  moment = moved.moment;
  entries = moved.entries;
  started = moved.started;
}
  where
    slots : SaySame is_in made.grants given.grants
    slots = says-moved is_in given.grants made.grants moved.grants base.permits.slots_once
