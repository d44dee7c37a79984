-- How each change of the cache changes the lists that agree with it, and that both are counted alike.
-- Used by `changes_tell` and `counts_are_alike` of `laws.rt`, and by higher crates.
use Rattle.std.proofs.Common.{◌≡◌, ℕ, ◌+◌, ◌==◌, Bool, true, false, cond, not, nat_lt, ◌&&◌, ◌||◌, List, [], ◌∷◌, ◌++◌, length, filter, map, Option, Some, None, is_some, unwrap_or, option_to_list, inl, inr, refl, sym, ap, subst, ◌∙◌, true≢false, arith}
use Rattle.std.specs.List.{list_any}
use Rattle.std.specs.Map.{lookup}
use Rattle.std.specs.Option.{option_map, option_map_or}
use Rattle.std.specs.Str.{bytes_eq}
use Rattle.std.proofs.lemmas.Bool.Decides.{eqb_tells}
use Rattle.std.proofs.lemmas.List.{append-nil}
use Rattle.std.proofs.lemmas.List.Elements.{filter-append}
use Rattle.std.proofs.lemmas.Slice.Eq.{bytes_eq-Decides}
use Rattle.authority_cache.specs.declared.site.Flight.{Flight}
use Rattle.authority_cache.specs.declared.standing_answer.StandingAnswer.{StandingAnswer}
use Rattle.authority_cache.specs.declared.turn.Turn.{Turn}
use Rattle.authority_cache.specs.Sites.{Answered, AreApart, Known, State, arrived, has_past, is_flying, is_known, nothing_known, site_of, with_flight}
use Rattle.authority_cache.specs.Calls.{Changes, one_if}
use Rattle.authority_cache.specs.Lists.{answer_for, answered, answers_in, has_number, is_answer_for, is_past_answer, is_turn_of, lacks_answer, turn_for, turns_in}
use Rattle.authority_cache.specs.Laws.{ArriveTells, BeginTells, LimitTells, NewTells, SweepTells, TellingCountsAlike}
use Rattle.authority_cache.proofs.EntryLaws.{count-cons}
use Rattle.authority_cache.proofs.SiteLaws.{other_text, same_text}

filter-kept : {X : Type 0} (p q : X → Bool) (xs : List X) → ((x : X) → p x ≡ true → q x ≡ true) → filter p (filter q xs) ≡ filter p xs
filter-kept p q [] keeps = refl
filter-kept p q (x ∷ xs) keeps = by (filter-kept p q xs keeps) (p x) (q x) refl refl
  where
    by : filter p (filter q xs) ≡ filter p xs → (a b : Bool) → p x ≡ a → q x ≡ b →
        filter p (cond b (x ∷ filter q xs) (filter q xs)) ≡ cond a (x ∷ filter p xs) (filter p xs)
    by rest true true passes kept = rw passes (ap (λ ys. x ∷ ys) rest)
    by rest false true passes kept = rw passes rest
    by rest true false passes kept = absurd (true≢false (sym (keeps x passes) ∙ kept))
    by rest false false passes kept = rest

filter-dropped : {X : Type 0} (p q : X → Bool) (xs : List X) → ((x : X) → p x ≡ true → q x ≡ false) → filter p (filter q xs) ≡ []
filter-dropped p q [] drops = refl
filter-dropped p q (x ∷ xs) drops = by (filter-dropped p q xs drops) (p x) (q x) refl refl
  where
    by : filter p (filter q xs) ≡ [] → (a b : Bool) → p x ≡ a → q x ≡ b → filter p (cond b (x ∷ filter q xs) (filter q xs)) ≡ []
    by rest true true passes kept = absurd (true≢false (sym kept ∙ drops x passes))
    by rest false true passes kept = rw passes rest
    by rest a false passes kept = rest

filter-swap : {X : Type 0} (p q : X → Bool) (xs : List X) → filter p (filter q xs) ≡ filter q (filter p xs)
filter-swap p q [] = refl
filter-swap p q (x ∷ xs) = by (filter-swap p q xs) (p x) (q x) refl refl
  where
    by : filter p (filter q xs) ≡ filter q (filter p xs) → (a b : Bool) → p x ≡ a → q x ≡ b →
        filter p (cond b (x ∷ filter q xs) (filter q xs)) ≡ filter q (cond a (x ∷ filter p xs) (filter p xs))
    by rest true true pe qe = rw (pe, qe) (ap (λ ys. x ∷ ys) rest)
    by rest false true pe qe = rw pe rest
    by rest true false pe qe = rw qe rest
    by rest false false pe qe = rest

filter-both : {X : Type 0} (p : X → Bool) (xs : List X) → length (filter p xs) + length (filter (λ x. not (p x)) xs) ≡ length xs
filter-both p [] = refl
filter-both p (x ∷ xs) = by (filter-both p xs) (p x)
  where
    by : length (filter p xs) + length (filter (λ y. not (p y)) xs) ≡ length xs → (b : Bool) →
        length (cond b (x ∷ filter p xs) (filter p xs)) + length (cond (not b) (x ∷ filter (λ y. not (p y)) xs) (filter (λ y. not (p y)) xs))
        ≡ length (x ∷ xs)
    by rest true = omega arith
    by rest false = omega arith

apart_text : (a b x : List ℕ) → bytes_eq a b ≡ false → bytes_eq x b ≡ true → bytes_eq x a ≡ false
apart_text a b x apart is = by (bytes_eq x a) refl
  where
    by : (t : Bool) → bytes_eq x a ≡ t → bytes_eq x a ≡ false
    by false not_a = not_a
    by true is_a = absurd (true≢false (sym is ∙ (ap (λ y. bytes_eq y b) ((bytes_eq-Decides x a).0 is_a) ∙ apart)))

module _ {X : Type 0} (authority : X → List ℕ) (test : State → Bool) (fails : test nothing_known ≡ false) where
  -- a list with one element for each passing authority is as long as their count
  parts : (sites : List (List ℕ × State)) (xs : List X) → AreApart sites →
      ((a : List ℕ) → length (filter (λ x. bytes_eq (authority x) a) xs) ≡ one_if (test (unwrap_or (lookup (bytes_eq a) sites) nothing_known))) →
      length xs ≡ length (filter (λ (e : List ℕ × State). test e.1) sites)
  parts [] [] apart each = refl
  parts [] (x ∷ xs) apart each =
      let own = each (authority x) in
      let none : one_if (test nothing_known) ≡ 0 = rw fails refl in
      let head : length (filter (λ y. bytes_eq (authority y) (authority x)) (x ∷ xs)) ≡ one_if true + length (filter (λ y. bytes_eq (authority y) (authority x)) xs) =
      count-cons (λ y. bytes_eq (authority y) (authority x)) x xs ∙ ap (λ b. one_if b + length (filter (λ y. bytes_eq (authority y) (authority x)) xs)) (same_text (authority x)) in
      absurd (omega arith)
  parts (e ∷ sites) xs apart each =
      let rest = filter (λ x. not (bytes_eq (authority x) e.0)) xs in
      let later = parts sites rest apart.1 (λ a. by a (bytes_eq a e.0) refl) in
      let own : length (filter (λ x. bytes_eq (authority x) e.0) xs) ≡ one_if (test e.1) =
      each e.0 ∙ ap (λ b. one_if (test (unwrap_or (cond b (Some e.1) (lookup (bytes_eq e.0) sites)) nothing_known))) (same_text e.0) in
      let both = filter-both (λ x. bytes_eq (authority x) e.0) xs in
      omega (arith, count-cons (λ (p : List ℕ × State). test p.1) e sites)
    where
      by : (a : List ℕ) (b : Bool) → bytes_eq a e.0 ≡ b →
          length (filter (λ x. bytes_eq (authority x) a) (filter (λ x. not (bytes_eq (authority x) e.0)) xs))
          ≡ one_if (test (unwrap_or (lookup (bytes_eq a) sites) nothing_known))
      by a true is =
          let same = (bytes_eq-Decides a e.0).0 is in
          let gone = filter-dropped (λ x. bytes_eq (authority x) a) (λ x. not (bytes_eq (authority x) e.0)) xs (λ x own. ap not (ap (bytes_eq (authority x)) (sym same) ∙ own)) in
          let none : lookup (bytes_eq a) sites ≡ None = subst (λ c. lookup (bytes_eq c) sites ≡ None) (sym same) apart.0 in
          ap length gone ∙ sym (ap (λ o. one_if (test (unwrap_or o nothing_known))) none ∙ ap one_if fails)
      by a false is =
          ap length (filter-kept (λ x. bytes_eq (authority x) a) (λ x. not (bytes_eq (authority x) e.0)) xs
          (λ x own. ap not (apart_text e.0 a (authority x) (other_text a e.0 is) own)))
          ∙ (each a ∙ ap (λ b. one_if (test (unwrap_or (cond b (Some e.1) (lookup (bytes_eq a) sites)) nothing_known))) is)

pub new : NewTells
new limit = record { answers_are = λ a. refl; turns_are = λ a. refl }

pub limit_tells : LimitTells
limit_tells old changed standing in_flight tells same = record {
  answers_are = λ a. tells.answers_are a ∙ ap (λ sites. answers_in a (unwrap_or (lookup (bytes_eq a) sites) nothing_known)) (sym same);
  turns_are = λ a. tells.turns_are a ∙ ap (λ sites. turns_in a (unwrap_or (lookup (bytes_eq a) sites) nothing_known)) (sym same);
}

pub begun : BeginTells
begun old changed standing in_flight a flight tells free changes = record {
  answers_are = λ b. tells.answers_are b ∙ answers b (bytes_eq a b) refl;
  turns_are = λ b. filter-append (is_turn_of b) in_flight (turn_for a flight ∷ []) ∙ turns b (bytes_eq a b) refl;
}
  where
    answers : (b : List ℕ) (t : Bool) → bytes_eq a b ≡ t → answers_in b (site_of old b) ≡ answers_in b (site_of changed b)
    answers b true is =
        sym (ap (answers_in b) (changes.sites b ∙ ap (λ t. cond t (with_flight flight (site_of old a)) (site_of old b)) is)
        ∙ ap (λ c. answers_in b (with_flight flight (site_of old c))) ((bytes_eq-Decides a b).0 is))
    answers b false is = sym (ap (answers_in b) (changes.sites b ∙ ap (λ t. cond t (with_flight flight (site_of old a)) (site_of old b)) is))

    none : (o : Option Flight) → is_some o ≡ false → (b : List ℕ) → option_to_list (option_map (turn_for b) o) ≡ []
    none None is b = refl
    none (Some f) is b = absurd (true≢false is)

    turns : (b : List ℕ) (t : Bool) → bytes_eq a b ≡ t →
        filter (is_turn_of b) in_flight ++ filter (is_turn_of b) (turn_for a flight ∷ []) ≡ turns_in b (site_of changed b)
    turns b true is =
        let same = (bytes_eq-Decides a b).0 is in
        let was : filter (is_turn_of b) in_flight ≡ [] =
        tells.turns_are b ∙ none (site_of old b).in_flight (subst (λ c. is_flying (site_of old c) ≡ false) same free) b in
        let now : turns_in b (site_of changed b) ≡ turn_for b flight ∷ [] =
        ap (turns_in b) (changes.sites b ∙ ap (λ t. cond t (with_flight flight (site_of old a)) (site_of old b)) is) in
        rw (was, is) (ap (λ c. turn_for c flight ∷ []) same ∙ sym now)
    turns b false is =
        let now = ap (turns_in b) (changes.sites b ∙ ap (λ t. cond t (with_flight flight (site_of old a)) (site_of old b)) is) in
        rw is (append-nil (filter (is_turn_of b) in_flight) ∙ (tells.turns_are b ∙ sym now))

turn_of_number : (turn : ℕ) (o : Option Flight) → option_map_or (λ f. f.turn == turn) o false ≡ true →
    (f : Flight) × (o ≡ Some f) × (f.turn ≡ turn)
turn_of_number turn None is = absurd (true≢false (sym is))
turn_of_number turn (Some f) is = elim (eqb_tells f.turn turn) [
  | inl e ↦ (f, refl, e.1)
  | inr d ↦ absurd (true≢false (sym is ∙ d.0))
]

state_at : (old changed : Known) (a : List ℕ) (state : State) → Changes old a state changed → (b : List ℕ) (t : Bool) → bytes_eq a b ≡ t →
    site_of changed b ≡ cond t state (site_of old b)
state_at old changed a state changes b t is = changes.sites b ∙ ap (λ u. cond u state (site_of old b)) is

pub arrives : ArriveTells
arrives old changed standing in_flight a turn life says tells flying own changes = record {
  answers_are = λ b. filter-append (is_answer_for b) left added ∙ answers b (bytes_eq a b) refl;
  turns_are = λ b. turns b (bytes_eq a b) refl;
}
  where
    left : List StandingAnswer
    left = filter (λ s. not (is_answer_for a s)) standing

    added : List StandingAnswer
    added = map (answered says life) (filter (has_number turn) in_flight)

    flight : (f : Flight) × ((site_of old a).in_flight ≡ Some f) × (f.turn ≡ turn)
    flight = turn_of_number turn (site_of old a).in_flight flying

    numbered : filter (has_number turn) in_flight ≡ turn_for a flight.0 ∷ []
    numbered = own ∙ (tells.turns_are a ∙ ap (λ o. option_to_list (option_map (turn_for a) o)) flight.1)

    arrival : StandingAnswer
    arrival = record { authority = a; turn = turn; begun = flight.0.begun; life = life; says = says }

    added_is : added ≡ arrival ∷ []
    added_is = ap (map (answered says life)) numbered
        ∙ ap (λ n. (let s : StandingAnswer = record { authority = a; turn = n; begun = flight.0.begun; life = life; says = says } in s) ∷ []) flight.2

    own_answers : filter (is_answer_for a) left ++ filter (is_answer_for a) added ≡ answers_in a (site_of changed a)
    own_answers =
        let gone : filter (is_answer_for a) left ≡ [] = filter-dropped (is_answer_for a) (λ s. not (is_answer_for a s)) standing (λ s is. ap not is) in
        let one : filter (is_answer_for a) added ≡ arrival ∷ [] = ap (filter (is_answer_for a)) added_is ∙ rw (same_text a) refl in
        let now : answers_in a (site_of changed a) ≡ arrival ∷ [] =
        ap (answers_in a) (state_at old changed a (arrived turn says life (site_of old a)) changes a true (same_text a))
        ∙ ap (λ o. option_to_list (option_map (answer_for a) (option_map arrived_from o))) flight.1 in
        ap (λ xs. xs ++ filter (is_answer_for a) added) gone ∙ (one ∙ sym now)
      where
        arrived_from : Flight → Answered
        arrived_from f = record { turn = turn; begun = f.begun; life = life; says = says }

    answers : (b : List ℕ) (t : Bool) → bytes_eq a b ≡ t →
        filter (is_answer_for b) left ++ filter (is_answer_for b) added ≡ answers_in b (site_of changed b)
    answers b true is =
        subst (λ c. filter (is_answer_for c) left ++ filter (is_answer_for c) added ≡ answers_in c (site_of changed c)) ((bytes_eq-Decides a b).0 is) own_answers
    answers b false is =
        let kept : filter (is_answer_for b) left ≡ filter (is_answer_for b) standing =
        filter-kept (is_answer_for b) (λ s. not (is_answer_for a s)) standing (λ s own_b. ap not (apart_text a b s.authority is own_b)) in
        let none : filter (is_answer_for b) added ≡ [] = ap (filter (is_answer_for b)) added_is ∙ rw is refl in
        ap (λ xs. filter (is_answer_for b) left ++ xs) none
        ∙ (append-nil (filter (is_answer_for b) left)
        ∙ (kept ∙ (tells.answers_are b ∙ sym (ap (answers_in b) (state_at old changed a (arrived turn says life (site_of old a)) changes b false is)))))

    own_turns : filter (is_turn_of a) (filter (λ x. not (has_number turn x)) in_flight) ≡ turns_in a (site_of changed a)
    own_turns =
        filter-swap (is_turn_of a) (λ x. not (has_number turn x)) in_flight
        ∙ (ap (filter (λ x. not (has_number turn x))) (sym own)
        ∙ (filter-dropped (λ x. not (has_number turn x)) (has_number turn) in_flight (λ x is. not_true (has_number turn x) is)
        ∙ sym (ap (turns_in a) (state_at old changed a (arrived turn says life (site_of old a)) changes a true (same_text a)))))
      where
        not_true : (b : Bool) → not b ≡ true → b ≡ false
        not_true true is = absurd (true≢false (sym is))
        not_true false is = refl

    others : (b : List ℕ) → bytes_eq a b ≡ false → (o : Option Flight) →
        filter (is_turn_of b) in_flight ≡ option_to_list (option_map (turn_for b) o) →
        filter (λ x. not (has_number turn x)) (option_to_list (option_map (turn_for b) o)) ≡ option_to_list (option_map (turn_for b) o)
    others b is None told = refl
    others b is (Some g) told = by (g.turn == turn) refl
      where
        none : filter (has_number turn) (turn_for b g ∷ []) ≡ []
        none = ap (filter (has_number turn)) (sym told) ∙ (filter-swap (has_number turn) (is_turn_of b) in_flight
            ∙ (ap (filter (is_turn_of b)) numbered ∙ rw is refl))

        by : (t : Bool) → (g.turn == turn) ≡ t → cond (not t) (turn_for b g ∷ []) [] ≡ turn_for b g ∷ []
        by false apart = refl
        by true same = let empty : turn_for b g ∷ [] ≡ [] = sym (rw same refl) ∙ none in cc

    turns : (b : List ℕ) (t : Bool) → bytes_eq a b ≡ t →
        filter (is_turn_of b) (filter (λ x. not (has_number turn x)) in_flight) ≡ turns_in b (site_of changed b)
    turns b true is =
        subst (λ c. filter (is_turn_of c) (filter (λ x. not (has_number turn x)) in_flight) ≡ turns_in c (site_of changed c)) ((bytes_eq-Decides a b).0 is) own_turns
    turns b false is =
        filter-swap (is_turn_of b) (λ x. not (has_number turn x)) in_flight
        ∙ (ap (filter (λ x. not (has_number turn x))) (tells.turns_are b)
        ∙ (others b is (site_of old b).in_flight (tells.turns_are b)
        ∙ sym (ap (turns_in b) (state_at old changed a (arrived turn says life (site_of old a)) changes b false is))))

pub swept_away : SweepTells
swept_away old changed standing in_flight moment count tells sweeps = record {
  answers_are = λ a.
      filter-swap (is_answer_for a) (λ s. not (is_past_answer moment s)) standing
      ∙ (ap (filter (λ s. not (is_past_answer moment s))) (tells.answers_are a)
      ∙ (left a (site_of old a).standing ∙ sym (ap (answers_in a) (sweeps.sites a))));
  turns_are = λ a. tells.turns_are a ∙ sym (ap (turns_in a) (sweeps.sites a));
}
  where
    left : (a : List ℕ) (o : Option Answered) →
        filter (λ s. not (is_past_answer moment s)) (option_to_list (option_map (answer_for a) o))
        ≡ option_to_list (option_map (answer_for a) (cond (option_map_or (λ s. nat_lt (s.begun + s.life) moment) o false) None o))
    left a None = refl
    left a (Some s) = by (nat_lt (s.begun + s.life) moment)
      where
        by : (b : Bool) → cond (not b) (answer_for a s ∷ []) [] ≡ option_to_list (option_map (answer_for a) (cond b None (Some s)))
        by true = refl
        by false = refl

one_answer : (a : List ℕ) (state : State) → length (answers_in a state) ≡ one_if (is_some state.standing)
one_answer a state = by state.standing
  where
    by : (o : Option Answered) → length (option_to_list (option_map (answer_for a) o)) ≡ one_if (is_some o)
    by None = refl
    by (Some s) = refl

one_turn : (a : List ℕ) (state : State) → length (turns_in a state) ≡ one_if (is_flying state)
one_turn a state = by state.in_flight
  where
    by : (o : Option Flight) → length (option_to_list (option_map (turn_for a) o)) ≡ one_if (is_some o)
    by None = refl
    by (Some f) = refl

one_past : (moment : ℕ) (a : List ℕ) (state : State) → length (filter (is_past_answer moment) (answers_in a state)) ≡ one_if (has_past moment state)
one_past moment a state = by state.standing
  where
    one : (b : Bool) (s : StandingAnswer) → length (cond b (s ∷ []) []) ≡ one_if b
    one true s = refl
    one false s = refl

    by : (o : Option Answered) → length (filter (is_past_answer moment) (option_to_list (option_map (answer_for a) o)))
        ≡ one_if (option_map_or (λ s. nat_lt (s.begun + s.life) moment) o false)
    by None = refl
    by (Some s) = one (nat_lt (s.begun + s.life) moment) (answer_for a s)

pub list_any-filter : {X : Type 0} (p : X → Bool) (xs : List X) → list_any p xs ≡ list_any (λ _. true) (filter p xs)
list_any-filter p [] = refl
list_any-filter p (x ∷ xs) = by (list_any-filter p xs) (p x)
  where
    by : list_any p xs ≡ list_any (λ _. true) (filter p xs) → (b : Bool) →
        (b || list_any p xs) ≡ list_any (λ _. true) (cond b (x ∷ filter p xs) (filter p xs))
    by rest true = refl
    by rest false = rest

-- only a turn, or none
abbrev is_alone : State → Bool
is_alone state = not (is_some state.standing) && is_some state.in_flight

one_alone : (standing : List StandingAnswer) (a : List ℕ) (state : State) → filter (is_answer_for a) standing ≡ answers_in a state →
    length (filter (lacks_answer standing) (turns_in a state)) ≡ one_if (is_alone state)
one_alone standing a state told = by state.in_flight
  where
    any : (o : Option Answered) → list_any (λ _. true) (option_to_list (option_map (answer_for a) o)) ≡ is_some o
    any None = refl
    any (Some s) = refl

    stands : list_any (is_answer_for a) standing ≡ is_some state.standing
    stands = list_any-filter (is_answer_for a) standing ∙ (ap (list_any (λ _. true)) told ∙ any state.standing)

    one : (b : Bool) (t : Turn) → length (cond (not b) (t ∷ []) []) ≡ one_if (not b && true)
    one true t = refl
    one false t = refl

    and_false : (b : Bool) → (not b && false) ≡ false
    and_false true = refl
    and_false false = refl

    by : (o : Option Flight) → length (filter (lacks_answer standing) (option_to_list (option_map (turn_for a) o)))
        ≡ one_if (not (is_some state.standing) && is_some o)
    by None = sym (ap one_if (and_false (is_some state.standing)))
    by (Some f) = rw stands (one (is_some state.standing) (turn_for a f))

count-parts : {X : Type 0} (all first second : X → Bool) → ((x : X) → one_if (all x) ≡ one_if (first x) + one_if (second x)) →
    (xs : List X) → length (filter all xs) ≡ length (filter first xs) + length (filter second xs)
count-parts all first second split [] = refl
count-parts all first second split (x ∷ xs) =
    let rest = count-parts all first second split xs in
    let here = split x in
    omega (arith, count-cons all x xs, count-cons first x xs, count-cons second x xs)

known_parts : (state : State) → one_if (is_known state) ≡ one_if (is_some state.standing) + one_if (is_alone state)
known_parts state = by (is_some state.standing) (is_some state.in_flight)
  where
    by : (s f : Bool) → one_if (s || f) ≡ one_if s + one_if (not s && f)
    by true f = omega arith
    by false f = omega arith

pub counts_alike : TellingCountsAlike
counts_alike k standing in_flight tells apart = record {
  known =
      let answers = parts (λ (s : StandingAnswer). s.authority) (λ state. is_some state.standing) refl k.sites standing apart
      (λ a. ap length (tells.answers_are a) ∙ one_answer a (site_of k a)) in
      let alone = parts (λ (t : Turn). t.authority) is_alone refl k.sites (filter (lacks_answer standing) in_flight) apart
      (λ a. ap length (filter-swap (is_turn_of a) (lacks_answer standing) in_flight ∙ ap (filter (lacks_answer standing)) (tells.turns_are a))
      ∙ one_alone standing a (site_of k a) (tells.answers_are a)) in
      let split = count-parts (λ (e : List ℕ × State). is_known e.1) (λ e. is_some e.1.standing) (λ e. is_alone e.1) (λ e. known_parts e.1) k.sites in
      omega arith;
  flights = sym (parts (λ (t : Turn). t.authority) is_flying refl k.sites in_flight apart (λ a. ap length (tells.turns_are a) ∙ one_turn a (site_of k a)));
  past = λ moment.
      sym (parts (λ (s : StandingAnswer). s.authority) (has_past moment) refl k.sites (filter (is_past_answer moment) standing) apart
      (λ a. ap length (filter-swap (is_answer_for a) (is_past_answer moment) standing ∙ ap (filter (is_past_answer moment)) (tells.answers_are a))
      ∙ one_past moment a (site_of k a)));
}
