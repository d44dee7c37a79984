-- The count of known authorities, and the life of answers.
-- Used by `known_are_counted` and `each_stands_once` of `laws.rt`.
use Rattle.std.proofs.Common.{◌≡◌, ℕ, suc, ◌+◌, ◌<◌, ◌≤◌, ◌==◌, Bool, true, false, cond, not, ◌&&◌, ◌||◌, max, min, List, [], ◌∷◌, length, filter, map, Some, inl, inr, refl, sym, ap, ◌∙◌, true≢false, length-append, arith}
use Rattle.std.specs.List.{find, list_all, list_any}
use Rattle.std.specs.Str.{bytes_eq}
use Rattle.std.proofs.lemmas.List.{length-map}
use Rattle.std.proofs.lemmas.Bool.Decides.{eqb_tells}
use Rattle.std.proofs.lemmas.Slice.Eq.{bytes_eq-Decides}
use Rattle.robots_verdict.specs.declared.said.Said.{Said}
use Rattle.robots_verdict.specs.declared.said.Said.TheVariants as says
use Rattle.authority_cache.specs.declared.standing_answer.StandingAnswer.{StandingAnswer}
use Rattle.authority_cache.specs.declared.turn.Turn.{Turn}
use Rattle.authority_cache.specs.Calls.{one_if}
use Rattle.authority_cache.specs.Lists.{is_answer_for, is_turn_of, lacks_answer}
use Rattle.authority_cache.specs.Lives.{greatest_life, least_life, life_of}
use Rattle.authority_cache.proofs.CallerLemmas.{count-cons, other_text, same_text}
use Rattle.gate_history.specs.Base.{AreTurns, has_its_life}
use Rattle.gate_history.specs.History.{begins, now}
use Rattle.gate_history.specs.Standing.{in_flight, standing}
use Rattle.gate_history.specs.Laws.{KnownAreCounted, LivesAreBounded, NamesAreKnown, known_names}
use Rattle.gate_history.proofs.Counting.{count-alike, count-append, count-map, none-found, some-found}
use Rattle.gate_history.proofs.Soundness.{stands_once}

its_life : (says : Said) (life : ℕ) → (life_of says life == life) ≡ true → (least_life ≤ life) × (life ≤ greatest_life)
its_life (says.Rules text) life is = elim (eqb_tells (life_of (says.Rules text) life) life) [
  | inl e ↦ (let same : max 60 (min life 86400) ≡ life = e.1 in (omega arith, omega arith))
  | inr d ↦ absurd (true≢false (sym is ∙ d.0))
]
its_life (says.Open opening) life is = elim (eqb_tells (life_of (says.Open opening) life) life) [
  | inl e ↦ (let same : 86400 ≡ life = e.1 in (omega arith, omega arith))
  | inr d ↦ absurd (true≢false (sym is ∙ d.0))
]
its_life (says.Closed closure) life is = elim (eqb_tells (life_of (says.Closed closure) life) life) [
  | inl e ↦ (let same : 86400 ≡ life = e.1 in (omega arith, omega arith))
  | inr d ↦ absurd (true≢false (sym is ∙ d.0))
]

found-passes : (p q : StandingAnswer → Bool) (xs : List StandingAnswer) (s : StandingAnswer) → list_all q xs ≡ true → find p xs ≡ Some s → q s ≡ true
found-passes p q [] s all found = cc
found-passes p q (x ∷ xs) s all found = by (p x) (q x) refl (found-passes p q xs s) all found
  where
    by : (a b : Bool) → q x ≡ b → (list_all q xs ≡ true → find p xs ≡ Some s → q s ≡ true) → (b && list_all q xs) ≡ true →
        cond a (Some x) (find p xs) ≡ Some s → q s ≡ true
    by true true passes rest all found = let same : x ≡ s = cc in rw (← same) passes
    by false true passes rest all found = rest all found
    by a false passes rest all found = absurd (true≢false (sym all))

pub lives_bounded : LivesAreBounded
lives_bounded h authority s legal found =
    its_life s.says s.life (found-passes (is_answer_for authority) has_its_life (standing h) s (stands_once h legal).turns.lives found)

-- the list without the first occurrence of this text
abbrev less : List ℕ → List (List ℕ) → List (List ℕ)
less a [] = []
less a (x ∷ xs) = cond (bytes_eq a x) xs (x ∷ less a xs)

less-counts : (a : List ℕ) (xs : List (List ℕ)) → 0 < length (filter (bytes_eq a) xs) → (b : List ℕ) →
    length (filter (bytes_eq b) (less a xs)) + one_if (bytes_eq b a) ≡ length (filter (bytes_eq b) xs)
less-counts a [] some b = absurd (omega arith)
less-counts a (x ∷ xs) some b = by (bytes_eq a x) refl (less-counts a xs) some
  where
    by : (t : Bool) → bytes_eq a x ≡ t →
        (0 < length (filter (bytes_eq a) xs) → (c : List ℕ) → length (filter (bytes_eq c) (less a xs)) + one_if (bytes_eq c a) ≡ length (filter (bytes_eq c) xs)) →
        0 < length (cond t (x ∷ filter (bytes_eq a) xs) (filter (bytes_eq a) xs)) →
        length (filter (bytes_eq b) (cond t xs (x ∷ less a xs))) + one_if (bytes_eq b a) ≡ length (filter (bytes_eq b) (x ∷ xs))
    by true is rest some =
        let same : one_if (bytes_eq b a) ≡ one_if (bytes_eq b x) = ap (λ c. one_if (bytes_eq b c)) ((bytes_eq-Decides a x).0 is) in
        omega (arith, count-cons (bytes_eq b) x xs)
    by false is rest some =
        let later = rest some b in omega (arith, count-cons (bytes_eq b) x xs, count-cons (bytes_eq b) x (less a xs))

less-length : (a : List ℕ) (xs : List (List ℕ)) → 0 < length (filter (bytes_eq a) xs) → length (less a xs) + 1 ≡ length xs
less-length a [] some = absurd (omega arith)
less-length a (x ∷ xs) some = by (bytes_eq a x) (less-length a xs) some
  where
    by : (t : Bool) → (0 < length (filter (bytes_eq a) xs) → length (less a xs) + 1 ≡ length xs) →
        0 < length (cond t (x ∷ filter (bytes_eq a) xs) (filter (bytes_eq a) xs)) → length (cond t xs (x ∷ less a xs)) + 1 ≡ length (x ∷ xs)
    by true rest some = omega arith
    by false rest some = let later = rest some in omega arith

same-length : (xs ys : List (List ℕ)) → ((a : List ℕ) → length (filter (bytes_eq a) xs) ≡ length (filter (bytes_eq a) ys)) → length xs ≡ length ys
same-length [] [] counts = refl
same-length [] (y ∷ ys) counts =
    let none = counts y in
    let one : one_if (bytes_eq y y) ≡ 1 = ap one_if (same_text y) in
    absurd (omega (arith, count-cons (bytes_eq y) y ys))
same-length (x ∷ xs) ys counts =
    let one : one_if (bytes_eq x x) ≡ 1 = ap one_if (same_text x) in
    let own = counts x in
    let some : 0 < length (filter (bytes_eq x) ys) = omega (arith, count-cons (bytes_eq x) x xs) in
    let rest : length xs ≡ length (less x ys) = same-length xs (less x ys)
    (λ a. let all = counts a in let fewer = less-counts x ys some a in omega (arith, count-cons (bytes_eq a) x xs)) in
    let shorter = less-length x ys some in
    omega arith

turned : (a b : List ℕ) → bytes_eq a b ≡ bytes_eq b a
turned a b = by (bytes_eq a b) refl
  where
    by : (t : Bool) → bytes_eq a b ≡ t → t ≡ bytes_eq b a
    by true is = sym ((bytes_eq-Decides b a).1 (sym ((bytes_eq-Decides a b).0 is)))
    by false is = sym (other_text a b is)

one_found : {X : Type 0} (p : X → Bool) (xs : List X) → length (filter p xs) ≤ 1 → length (filter p xs) ≡ one_if (list_any p xs)
one_found p xs few = by (list_any p xs) refl
  where
    by : (b : Bool) → list_any p xs ≡ b → length (filter p xs) ≡ one_if b
    by true found = let some = some-found p xs found in omega arith
    by false none = none-found p xs none

alone : (answers : List StandingAnswer) (ts : List Turn) (a : List ℕ) (b : Bool) → list_any (is_answer_for a) answers ≡ b →
    length (filter (is_turn_of a) (filter (lacks_answer answers) ts)) ≡ cond b 0 (length (filter (is_turn_of a) ts))
alone answers [] a true is = refl
alone answers [] a false is = refl
alone answers (t ∷ ts) a b is = by (bytes_eq t.authority a) refl (alone answers ts a b is)
  where
    own : bytes_eq t.authority a ≡ true → lacks_answer answers t ≡ not b
    own is_a = ap not (ap (λ c. list_any (is_answer_for c) answers) ((bytes_eq-Decides t.authority a).0 is_a) ∙ is)

    stays : (c lacks : Bool) → lacks ≡ not c → bytes_eq t.authority a ≡ true →
        length (filter (is_turn_of a) (filter (lacks_answer answers) ts)) ≡ cond c 0 (length (filter (is_turn_of a) ts)) →
        length (filter (is_turn_of a) (cond lacks (t ∷ filter (lacks_answer answers) ts) (filter (lacks_answer answers) ts)))
        ≡ cond c 0 (length (t ∷ filter (is_turn_of a) ts))
    stays true true off is_a rest = cc
    stays true false off is_a rest = rest
    stays false true off is_a rest = rw is_a (ap suc rest)
    stays false false off is_a rest = cc

    goes : (lacks : Bool) → bytes_eq t.authority a ≡ false →
        length (filter (is_turn_of a) (cond lacks (t ∷ filter (lacks_answer answers) ts) (filter (lacks_answer answers) ts)))
        ≡ length (filter (is_turn_of a) (filter (lacks_answer answers) ts))
    goes true not_a = rw not_a refl
    goes false not_a = refl

    by : (x : Bool) → bytes_eq t.authority a ≡ x →
        length (filter (is_turn_of a) (filter (lacks_answer answers) ts)) ≡ cond b 0 (length (filter (is_turn_of a) ts)) →
        length (filter (is_turn_of a) (cond (lacks_answer answers t) (t ∷ filter (lacks_answer answers) ts) (filter (lacks_answer answers) ts)))
        ≡ cond b 0 (length (cond x (t ∷ filter (is_turn_of a) ts) (filter (is_turn_of a) ts)))
    by true is_a rest = stays b (lacks_answer answers t) (own is_a) is_a rest
    by false not_a rest = goes (lacks_answer answers t) not_a ∙ rest

pub names_known : NamesAreKnown
names_known h legal a =
    count-append (bytes_eq a) (map (λ (s : StandingAnswer). s.authority) (standing h)) _
    ∙ (ap (λ n. n + length (filter (bytes_eq a) (map (λ (t : Turn). t.authority) (filter (lacks_answer (standing h)) (in_flight h))))) first
    ∙ (ap (λ n. one_if (list_any (is_answer_for a) (standing h)) + n) second
    ∙ both (list_any (is_answer_for a) (standing h)) (list_any (is_turn_of a) (in_flight h))))
  where
    turns : AreTurns (standing h) (in_flight h) (begins h) (now h)
    turns = (stands_once h legal).turns

    first : length (filter (bytes_eq a) (map (λ (s : StandingAnswer). s.authority) (standing h))) ≡ one_if (list_any (is_answer_for a) (standing h))
    first =
        count-map (bytes_eq a) (λ (s : StandingAnswer). s.authority) (standing h)
        ∙ (count-alike (λ (s : StandingAnswer). bytes_eq a s.authority) (is_answer_for a) (standing h) (λ s. turned a s.authority)
        ∙ one_found (is_answer_for a) (standing h) (turns.answers_once a))

    second : length (filter (bytes_eq a) (map (λ (t : Turn). t.authority) (filter (lacks_answer (standing h)) (in_flight h))))
        ≡ cond (list_any (is_answer_for a) (standing h)) 0 (one_if (list_any (is_turn_of a) (in_flight h)))
    second =
        count-map (bytes_eq a) (λ (t : Turn). t.authority) (filter (lacks_answer (standing h)) (in_flight h))
        ∙ (count-alike (λ (t : Turn). bytes_eq a t.authority) (is_turn_of a) (filter (lacks_answer (standing h)) (in_flight h)) (λ t. turned a t.authority)
        ∙ (alone (standing h) (in_flight h) a (list_any (is_answer_for a) (standing h)) refl
        ∙ ap (cond (list_any (is_answer_for a) (standing h)) 0) (one_found (is_turn_of a) (in_flight h) (turns.flights_once a))))

    both : (answer turn : Bool) → one_if answer + cond answer 0 (one_if turn) ≡ one_if (answer || turn)
    both true turn = omega arith
    both false turn = omega arith

pub known_counted : KnownAreCounted
known_counted h names legal known =
    same-length names (known_names h) (λ a. known a ∙ sym (names_known h legal a))
    ∙ (length-append (map (λ (s : StandingAnswer). s.authority) (standing h)) _
    ∙ rw (length-map (standing h) (λ (s : StandingAnswer). s.authority), length-map (filter (lacks_answer (standing h)) (in_flight h)) (λ (t : Turn). t.authority)) refl)
