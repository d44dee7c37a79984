-- A base's answers in order: the same answers, rising, and one after the other the next.
-- Used for `base.rt` and `in_order.rt`.
use Rattle.std.proofs.Common.{◌≡◌, ◌≢◌, ℕ, ◌+◌, ◌<◌, ◌≤◌, zero, suc, All, Bool, true, false, cond, List, [], ◌∷◌, ◌++◌, IsPermutation, length, map, filter, get_or, Option, Some, None, inl, inr, refl, sym, ap, subst, ◌∙◌, true≢false, arith}
use Rattle.std.specs.Cmp.{IsStrictWeakOrder}
use Rattle.std.specs.List.Sorted.{IsSortedBy}
use Rattle.std.proofs.lemmas.Cmp.{nat_list_cmp_total}
use Rattle.std.proofs.lemmas.List.{get_or-map, length-map}
use Rattle.std.proofs.lemmas.List.Elements.{All-cons, All-head, All-nil, All-push, All-tail, Contains-append_left, Contains-push}
use Rattle.std.proofs.lemmas.List.Sorted.{All-permutation, Contains-permutation, IsPermutation-cons, IsPermutation-middle, IsPermutation-refl, IsPermutation-sym, IsPermutation-trans, ranks_by, sorted_far}
use Rattle.authority_cache.specs.Lists.{is_answer_for}
use Rattle.authority_cache.proofs.CallerLemmas.{count-cons, same_text}
use Rattle.authority_cache.specs.declared.standing_answer.StandingAnswer.{StandingAnswer}
use Rattle.gate_history.specs.declared.base.LeftOpen.{LeftOpen}
use Rattle.gate_history.specs.declared.base.Numbers.{Numbers}
use Rattle.gate_history.specs.Kept.{base_with, ordered_with}
use Rattle.gate_history.specs.Order.{AnswersRise, IsEarliest, IsNextAnswer, Reorders, earlier_of, in_order, is_before, is_behind, put_answer}
use Rattle.gate_history.proofs.OneOrder.{Among, among_filter, behind, irreflexive, least, once, one_standing, text_tie}
use Rattle.gate_history.proofs.Reordering.{says-moved}

-- mapped elements rise as the elements do
pub sorted_map : {X Y : Type 0} (f : X → Y) (lt : Y → Y → Bool) (xs : List X) → IsSortedBy (λ a b. lt (f a) (f b)) xs → IsSortedBy lt (map f xs)
sorted_map f lt [] sorted k d low within = absurd (omega arith)
sorted_map f lt (x ∷ xs) sorted k d low within =
    let few = length-map (x ∷ xs) f in
    (λ i. lt (get_or-map f (x ∷ xs) (k + 1) x d (omega arith) i) (get_or-map f (x ∷ xs) k x d (omega arith) i)) ∙ sorted k x low (omega arith)

order : IsStrictWeakOrder is_before
order = ranks_by nat_list_cmp_total (λ (s : StandingAnswer). s.authority)

-- ---- the same answers

put_moves : (s : StandingAnswer) (xs : List StandingAnswer) → IsPermutation (s ∷ xs) (put_answer s xs)
put_moves s [] = IsPermutation-refl (s ∷ [])
put_moves s (t ∷ later) = by (is_before t s) (put_moves s later)
  where
    by : (b : Bool) → IsPermutation (s ∷ later) (put_answer s later) → IsPermutation (s ∷ t ∷ later) (cond b (t ∷ put_answer s later) (s ∷ t ∷ later))
    by true rest =
        IsPermutation-trans (s ∷ t ∷ later) (t ∷ s ∷ later) (t ∷ put_answer s later) (IsPermutation-middle (s ∷ []) t later)
        (IsPermutation-cons t (s ∷ later) (put_answer s later) rest)
    by false rest = IsPermutation-refl (s ∷ t ∷ later)

pub order_moves : (xs : List StandingAnswer) → IsPermutation xs (in_order xs)
order_moves [] = IsPermutation-refl []
order_moves (s ∷ later) =
    IsPermutation-trans (s ∷ later) (s ∷ in_order later) (put_answer s (in_order later)) (IsPermutation-cons s later (in_order later) (order_moves later))
    (put_moves s (in_order later))

-- ---- rising

sorted-cons : (x : StandingAnswer) (xs : List StandingAnswer) → IsSortedBy is_before xs →
    ((d : StandingAnswer) → 0 < length xs → is_before (get_or xs 0 d) x ≡ false) → IsSortedBy is_before (x ∷ xs)
sorted-cons x xs sorted first zero d from within = first d (omega (arith, within))
sorted-cons x xs sorted first (suc k) d from within =
    let next : suc k + 1 ≡ suc (k + 1) = omega arith in
    ap (λ n. is_before (get_or (x ∷ xs) n d) (get_or xs k d)) next ∙ sorted k d (omega arith) (omega (arith, within))

first_put : (s x : StandingAnswer) (xs : List StandingAnswer) → is_before s x ≡ false →
    ((d : StandingAnswer) → 0 < length xs → is_before (get_or xs 0 d) x ≡ false) →
    (d : StandingAnswer) → is_before (get_or (put_answer s xs) 0 d) x ≡ false
first_put s x [] own first d = own
first_put s x (t ∷ later) own first d = by (is_before t s)
  where
    by : (b : Bool) → is_before (get_or (cond b (t ∷ put_answer s later) (s ∷ t ∷ later)) 0 d) x ≡ false
    by true = first d (omega arith)
    by false = own

put_rises : (s : StandingAnswer) (xs : List StandingAnswer) → IsSortedBy is_before xs → IsSortedBy is_before (put_answer s xs)
put_rises s [] sorted = sorted-cons s [] sorted (λ d some. absurd (omega (arith, some)))
put_rises s (t ∷ later) sorted = by (is_before t s) refl (put_rises s later (behind is_before order t later sorted))
  where
    by : (b : Bool) → is_before t s ≡ b → IsSortedBy is_before (put_answer s later) → IsSortedBy is_before (cond b (t ∷ put_answer s later) (s ∷ t ∷ later))
    by true below rest =
        sorted-cons t (put_answer s later) rest (λ d some. first_put s t later (order.one_way t s below)
        (λ d some. sorted_far is_before order (t ∷ later) sorted 0 1 d (omega arith) (omega (arith, some))) d)
    by false is rest = sorted-cons s (t ∷ later) sorted (λ d some. is)

pub order_rises : (xs : List StandingAnswer) → AnswersRise (in_order xs)
order_rises [] = λ k d from within. absurd (omega (arith, within))
order_rises (s ∷ later) = put_rises s (in_order later) (order_rises later)

-- sorted in any way, answers are in order, if no authority has two
pub sorted_is : (xs ys : List StandingAnswer) → IsPermutation xs ys → AnswersRise ys →
    ((a : List ℕ) → length (filter (is_answer_for a) (in_order xs)) ≤ 1) → ys ≡ in_order xs
sorted_is xs ys moved rises few =
    let same = says-moved is_answer_for (in_order xs) ys (IsPermutation-trans (in_order xs) xs ys (IsPermutation-sym xs (in_order xs) (order_moves xs)) moved) few in
    sym (one_standing (in_order xs) ys (order_rises xs) rises few (λ a. sym (same.each a)))

-- ---- the next one

-- the answer comes no earlier than this one, if it is behind the last one
abbrev Least : Option StandingAnswer → StandingAnswer → StandingAnswer → Type 0
Least last s t = is_behind last t ≡ true → is_before t s ≡ false

all_of : {P Q : StandingAnswer → Type 0} → ((t : StandingAnswer) → P t → Q t) → (xs : List StandingAnswer) → All P xs → All Q xs
all_of {P = P} {Q = Q} so [] all = All-nil Q
all_of {P = P} {Q = Q} so (x ∷ xs) all = All-cons Q x xs (so x (All-head P x xs all)) (all_of so xs (All-tail P x xs all))

pub earliest_more : (last : Option StandingAnswer) (xs : List StandingAnswer) (next : Option StandingAnswer) (x : StandingAnswer) → IsEarliest last xs next →
    IsEarliest last (xs ++ x ∷ []) (earlier_of last next x)
earliest_more last xs None x earliest = by (is_behind last x) refl
  where
    by : (b : Bool) → is_behind last x ≡ b → IsEarliest last (xs ++ x ∷ []) (cond b (Some x) None)
    by false is = All-push (λ t. is_behind last t ≡ false) xs x earliest is
    by true is = (
      Contains-push xs x,
      is,
      All-push (Least last x) xs x
          (all_of {P = λ t. is_behind last t ≡ false} {Q = Least last x} (λ t not_behind is_so. absurd (true≢false (sym is_so ∙ not_behind))) xs earliest)
          (λ is_so. irreflexive is_before order x),
    )
earliest_more last xs (Some s) x earliest = by (is_behind last x) (is_before x s) refl refl
  where
    by : (b c : Bool) → is_behind last x ≡ b → is_before x s ≡ c → IsEarliest last (xs ++ x ∷ []) (cond b (cond c (Some x) (Some s)) (Some s))
    by false c is below = (
      Contains-append_left xs (x ∷ []) s earliest.0,
      earliest.1,
      All-push (Least last s) xs x earliest.2 (λ is_so. absurd (true≢false (sym is_so ∙ is))),
    )
    by true false is below = (
      Contains-append_left xs (x ∷ []) s earliest.0,
      earliest.1,
      All-push (Least last s) xs x earliest.2 (λ is_so. below),
    )
    by true true is below = (
      Contains-push xs x,
      is,
      All-push (Least last x) xs x
          (all_of {P = Least last s} {Q = Least last x} (λ t none_before is_so. order.chain t s x (none_before is_so) (order.one_way x s below)) xs earliest.2)
          (λ is_so. irreflexive is_before order x),
    )

all_pass : (p : StandingAnswer → Bool) (xs : List StandingAnswer) → All (λ t. p t ≡ true) xs → filter p xs ≡ xs
all_pass p [] all = refl
all_pass p (x ∷ xs) all =
    ap (λ b. cond b (x ∷ filter p xs) (filter p xs)) (All-head (λ t. p t ≡ true) x xs all) ∙ ap (λ l. x ∷ l) (all_pass p xs (All-tail (λ t. p t ≡ true) x xs all))

none_pass : (p : StandingAnswer → Bool) (xs : List StandingAnswer) → All (λ t. p t ≡ false) xs → filter p xs ≡ []
none_pass p [] all = refl
none_pass p (x ∷ xs) all =
    ap (λ b. cond b (x ∷ filter p xs) (filter p xs)) (All-head (λ t. p t ≡ false) x xs all) ∙ none_pass p xs (All-tail (λ t. p t ≡ false) x xs all)

all_among : (xs ys : List StandingAnswer) → ((t : StandingAnswer) → Among t xs → Among t ys) → All (λ t. Among t ys) xs
all_among [] ys so = All-nil (λ t. Among t ys)
all_among (x ∷ xs) ys so = All-cons (λ t. Among t ys) x xs (so x (inl refl)) (all_among xs ys (λ t there. so t (inr there)))

among_at : (xs : List StandingAnswer) (s : StandingAnswer) (k : ℕ) → k < length xs → get_or xs k s ≡ s → Among s xs
among_at [] s k low is = absurd (omega (arith, low))
among_at (x ∷ xs) s zero low is = inl (sym is)
among_at (x ∷ xs) s (suc k) low is = inr (among_at xs s k (omega (arith, low)) is)

some_among : (xs : List StandingAnswer) (s : StandingAnswer) → Among s xs → 0 < length xs
some_among [] s there = absurd there
some_among (x ∷ xs) s there = omega arith

-- no authority has two answers
abbrev HasFew : List StandingAnswer → Type 0
HasFew xs = (a : List ℕ) → length (filter (is_answer_for a) xs) ≤ 1

few_later : (h : StandingAnswer) (xs : List StandingAnswer) → HasFew (h ∷ xs) → HasFew xs
few_later h xs few a = let count = count-cons (is_answer_for a) h xs in let all = few a in omega (arith, count, all)

-- behind the first of rising answers come all others
all_behind : (h : StandingAnswer) (xs : List StandingAnswer) → IsSortedBy is_before (h ∷ xs) → HasFew (h ∷ xs) → All (λ t. is_before h t ≡ true) xs
all_behind h xs sorted few = all_of {P = λ t. Among t xs} {Q = λ t. is_before h t ≡ true} each xs (all_among xs xs (λ t is. is))
  where
    each : (t : StandingAnswer) → Among t xs → is_before h t ≡ true
    each t there = by (is_before h t) refl
      where
        by : (b : Bool) → is_before h t ≡ b → is_before h t ≡ true
        by true is = is
        by false is =
            let same : h.authority ≡ t.authority = text_tie h.authority t.authority is (least is_before order h t xs sorted (inr there)) in
            let passes : is_answer_for h.authority t ≡ true = subst (λ a. is_answer_for a t ≡ true) (sym same) (same_text t.authority) in
            let more = some_among (filter (is_answer_for h.authority) xs) t (among_filter (is_answer_for h.authority) t xs passes there) in
            let own : length (filter (is_answer_for h.authority) (h ∷ xs)) ≡ length (h ∷ filter (is_answer_for h.authority) xs) =
            ap (λ b. length (cond b (h ∷ filter (is_answer_for h.authority) xs) (filter (is_answer_for h.authority) xs))) (same_text h.authority) in
            let all = few h.authority in
            absurd (omega (arith, more, own, all))

behind_too : (last : Option StandingAnswer) (h t : StandingAnswer) → is_behind last h ≡ true → is_before h t ≡ true → is_behind last t ≡ true
behind_too None h t is below = refl
behind_too (Some l) h t is below = by (is_before l t) refl
  where
    by : (b : Bool) → is_before l t ≡ b → is_before l t ≡ true
    by true so = so
    by false so = absurd (true≢false (sym is ∙ order.chain l t h so (order.one_way h t below)))

next_of : (xs : List StandingAnswer) → IsSortedBy is_before xs → HasFew xs → (last : Option StandingAnswer) (s : StandingAnswer) → Among s xs →
    is_behind last s ≡ true → All (Least last s) xs →
    filter (is_behind last) xs ≡ s ∷ filter (is_behind (Some s)) xs
next_of [] sorted few last s there passes first = absurd there
next_of (h ∷ xs) sorted few last s there passes first = by (is_behind last h) refl
    (λ later. next_of xs (behind is_before order h xs sorted) (few_later h xs few) last s later passes (All-tail (Least last s) h xs first))
  where
    not_below : is_before s h ≡ false
    not_below = least is_before order h s xs sorted there

    later : Among s (h ∷ xs) → is_behind last h ≡ false → Among s xs
    later (inl same) is = absurd (true≢false (sym passes ∙ (ap (is_behind last) same ∙ is)))
    later (inr m) is = m

    by : (b : Bool) → is_behind last h ≡ b → (Among s xs → filter (is_behind last) xs ≡ s ∷ filter (is_behind (Some s)) xs) → cond b (h ∷ filter (is_behind last) xs) (filter (is_behind last) xs) ≡ s ∷ filter (is_behind (Some s)) (h ∷ xs)
    by false is rest =
        rest (later there is)
        ∙ ap (λ b. s ∷ cond b (h ∷ filter (is_behind (Some s)) xs) (filter (is_behind (Some s)) xs)) (sym not_below)
    by true is rest =
        let tie : h.authority ≡ s.authority = text_tie h.authority s.authority (All-head (Least last s) h xs first is) not_below in
        let passes_too : is_answer_for h.authority s ≡ true = subst (λ a. is_answer_for a s ≡ true) (sym tie) (same_text s.authority) in
        let same : h ≡ s = once (is_answer_for h.authority) (h ∷ xs) h s (few h.authority) (same_text h.authority) passes_too (inl refl) there in
        let all = all_behind h xs sorted few in
        let kept : filter (is_behind last) xs ≡ xs = all_pass (is_behind last) xs
        (all_of {P = λ t. is_before h t ≡ true} {Q = λ t. is_behind last t ≡ true} (λ t below. behind_too last h t is below) xs all) in
        let others : filter (is_behind (Some h)) (h ∷ xs) ≡ xs =
        ap (λ b. cond b (h ∷ filter (is_behind (Some h)) xs) (filter (is_behind (Some h)) xs)) (irreflexive is_before order h) ∙ all_pass (is_behind (Some h)) xs all in
        ap (λ l. h ∷ l) (kept ∙ sym others) ∙ ap (λ (x : StandingAnswer). x ∷ filter (is_behind (Some x)) (h ∷ xs)) same

-- the earliest of the answers behind the last one is the next of those in order
pub earliest_is_next : (last : Option StandingAnswer) (xs : List StandingAnswer) (next : Option StandingAnswer) → IsEarliest last xs next →
    ((a : List ℕ) → length (filter (is_answer_for a) (in_order xs)) ≤ 1) → IsNextAnswer (in_order xs) last next
earliest_is_next last xs None earliest few =
    none_pass (is_behind last) (in_order xs) (All-permutation (λ t. is_behind last t ≡ false) xs (in_order xs) (order_moves xs) earliest)
earliest_is_next last xs (Some s) earliest few =
    let there = Contains-permutation xs (in_order xs) s (order_moves xs) earliest.0 in
    next_of (in_order xs) (order_rises xs) few last s (among_at (in_order xs) s there.0 there.1 there.2) earliest.1
    (All-permutation (Least last s) xs (in_order xs) (order_moves xs) earliest.2)

-- ---- a base's lists

-- lists with the given one's elements have them in order too
pub ordered_moves : (given made : LeftOpen) (numbers : Numbers) → made.standing ≡ given.standing → Reorders (base_with given numbers) (base_with made numbers) →
    Reorders (base_with given numbers) (ordered_with made numbers)
ordered_moves given made numbers kept moved = record {
  answers = subst (λ (xs : List StandingAnswer). IsPermutation xs (in_order made.standing.items)) (ap (λ v. v.items) kept) (order_moves made.standing.items);
  turns = moved.turns;
  permits = moved.permits;
  runs = moved.runs;
  grants = moved.grants;
  begun = moved.begun;
  moment = moved.moment;
  entries = moved.entries;
  started = moved.started;
}
