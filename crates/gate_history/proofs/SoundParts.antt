-- No kind of entry makes a permit, turn in flight or answer occur twice.
-- Used by `Soundness`.
use Rattle.std.proofs.Common.{◌≡◌, ℕ, zero, suc, ◌+◌, ◌<◌, ◌≤◌, ◌==◌, Bool, true, false, not, nat_le, ◌&&◌, List, [], ◌∷◌, ◌++◌, length, filter, map, inl, inr, refl, sym, ap, subst, ◌∙◌, true≢false, arith}
use Rattle.std.specs.List.{list_all, list_any}
use Rattle.std.specs.Str.{bytes_eq}
use Rattle.std.proofs.lemmas.Bool.{leb-true, le-leb}
use Rattle.std.proofs.lemmas.Bool.Decides.{eqb_tells}
use Rattle.std.proofs.lemmas.Slice.Eq.{bytes_eq-Decides}
use Rattle.robots_verdict.specs.declared.said.Said.{Said}
use Rattle.permit_book.specs.declared.out.Fetch.{Fetch}
use Rattle.permit_book.specs.declared.granted_permit.GrantedPermit.{GrantedPermit}
use Rattle.permit_book.specs.Outstanding.{is_numbered, permit_for, without}
use Rattle.permit_book.proofs.CallerLemmas.{filter-dropped, filter-parts, same_number}
use Rattle.authority_cache.specs.declared.standing_answer.StandingAnswer.{StandingAnswer}
use Rattle.authority_cache.specs.declared.turn.Turn.{Turn}
use Rattle.authority_cache.specs.Calls.{one_if}
use Rattle.authority_cache.specs.Lives.{life_of}
use Rattle.authority_cache.specs.Lists.{answered, has_number, is_answer_for, is_past_answer, is_turn_of, turn_for}
use Rattle.authority_cache.proofs.CallerLemmas.{all-push, count-bound, count-push}
use Rattle.gate_history.specs.declared.base.SlotGrant.{SlotGrant}
use Rattle.gate_history.specs.Base.{ArePermits, AreTurns, has_its_life, is_of_turn, times_out, times_turned}
use Rattle.gate_history.specs.Grants.{is_covered, with_grant}
use Rattle.gate_history.proofs.Counting.{all-append, all-filter, all-more, all-of_map, count-append, count-map, none-found, same-found}
use Rattle.gate_history.proofs.GrantLaws.{own-covered, slots_once-granted, still-covered}

pub times-granted : (unspent running : List GrantedPermit) (number : ℕ) (fetch : Fetch) (k : ℕ) →
    times_out (unspent ++ permit_for number fetch ∷ []) running k ≡ times_out unspent running k + one_if (number == k)
times-granted unspent running number fetch k = omega (arith, count-push (is_numbered k) unspent (permit_for number fetch))

pub times-started : (unspent running : List GrantedPermit) (number k : ℕ) →
    times_out (without number unspent) (running ++ filter (is_numbered number) unspent) k ≡ times_out unspent running k
times-started unspent running number k =
    omega (arith, count-append (is_numbered k) running (filter (is_numbered number) unspent), filter-parts (is_numbered k) (is_numbered number) unspent)

pub times-returned : (unspent running : List GrantedPermit) (number k : ℕ) → times_out (without number unspent) running k ≤ times_out unspent running k
times-returned unspent running number k = omega (arith, filter-parts (is_numbered k) (is_numbered number) unspent)

pub times-finished : (unspent running : List GrantedPermit) (number k : ℕ) → times_out unspent (without number running) k ≤ times_out unspent running k
times-finished unspent running number k = omega (arith, filter-parts (is_numbered k) (is_numbered number) running)

pub permits-moved : (unspent running unspent' running' : List GrantedPermit) (grants : List SlotGrant) →
    ArePermits unspent running grants → ((k : ℕ) → times_out unspent' running' k ≤ times_out unspent running k) → ArePermits unspent' running' grants
permits-moved unspent running unspent' running' grants are fewer = record {
  numbers_once = λ k. let few = fewer k in let once = are.numbers_once k in omega arith;
  numbers_granted = λ k out. let few = fewer k in are.numbers_granted k (omega arith);
  slots_once = are.slots_once;
}

pub permits-granted : (unspent running : List GrantedPermit) (grants : List SlotGrant) (number : ℕ) (fetch : Fetch) →
    ArePermits unspent running grants → times_out unspent running number ≡ 0 →
    ArePermits (unspent ++ permit_for number fetch ∷ []) running (with_grant number grants)
permits-granted unspent running grants number fetch are none = record {
  numbers_once = λ k. once k (number == k) refl;
  numbers_granted = λ k out. granted k (number == k) refl out;
  slots_once = slots_once-granted number grants are.slots_once;
}
  where
    is_it : (k : ℕ) → (number == k) ≡ true → number ≡ k
    is_it k is = elim (eqb_tells number k) [ inl e ↦ e.1 | inr d ↦ absurd (true≢false (sym is ∙ d.0)) ]

    once : (k : ℕ) (b : Bool) → (number == k) ≡ b → times_out (unspent ++ permit_for number fetch ∷ []) running k ≤ 1
    once k true is =
        let one : one_if (number == k) ≡ 1 = ap one_if is in
        let zero : times_out unspent running k ≡ 0 = subst (λ n. times_out unspent running n ≡ 0) (is_it k is) none in
        omega (arith, times-granted unspent running number fetch k)
    once k false is =
        let other : one_if (number == k) ≡ 0 = ap one_if is in
        let was = are.numbers_once k in
        omega (arith, times-granted unspent running number fetch k)

    granted : (k : ℕ) (b : Bool) → (number == k) ≡ b → 0 < times_out (unspent ++ permit_for number fetch ∷ []) running k →
        is_covered (with_grant number grants) k ≡ true
    granted k true is out = subst (λ n. is_covered (with_grant number grants) n ≡ true) (is_it k is) (own-covered number grants)
    granted k false is out =
        let other : one_if (number == k) ≡ 0 = ap one_if is in
        let was : 0 < times_out unspent running k = omega (arith, times-granted unspent running number fetch k) in
        still-covered number grants k (are.numbers_granted k was)

begun-later : {X : Type 0} (begun : X → ℕ) (m late : ℕ) (xs : List X) → m ≤ late → list_all (λ x. nat_le (begun x) m) xs ≡ true →
    list_all (λ x. nat_le (begun x) late) xs ≡ true
begun-later begun m late xs later all = all-more (λ x. nat_le (begun x) m) (λ x. nat_le (begun x) late) xs
    (λ x is. let early = leb-true (begun x) m is in le-leb (begun x) late (omega arith)) all

pub turns-later : (standing : List StandingAnswer) (in_flight : List Turn) (begins m late : ℕ) → m ≤ late →
    AreTurns standing in_flight begins m → AreTurns standing in_flight begins late
turns-later standing in_flight begins m late later are = record {
  flights_once = are.flights_once;
  answers_once = are.answers_once;
  turns_once = are.turns_once;
  turns_begun = are.turns_begun;
  flights_begun = begun-later (λ (t : Turn). t.begun) m late in_flight later are.flights_begun;
  answers_begun = begun-later (λ (s : StandingAnswer). s.begun) m late standing later are.answers_begun;
  lives = are.lives;
}

pub turns-begun : (standing : List StandingAnswer) (in_flight : List Turn) (begins m late : ℕ) (authority : List ℕ) →
    m ≤ late → list_any (is_turn_of authority) in_flight ≡ false → AreTurns standing in_flight begins m → (moment : ℕ) → moment ≤ late →
    AreTurns standing (in_flight ++ turn_for authority (record { turn = begins + 1; begun = moment }) ∷ []) (begins + 1) late
turns-begun standing in_flight begins m late authority later none are moment early = record {
  flights_once = λ b. flights b (bytes_eq authority b) refl;
  answers_once = are.answers_once;
  turns_once = λ k. once k (begins + 1 == k) refl;
  turns_begun = λ k stands. begun k (begins + 1 == k) refl stands;
  flights_begun =
      all-push (λ (t : Turn). nat_le t.begun late) in_flight new (begun-later (λ (t : Turn). t.begun) m late in_flight later are.flights_begun)
      (le-leb moment late early);
  answers_begun = begun-later (λ (s : StandingAnswer). s.begun) m late standing later are.answers_begun;
  lives = are.lives;
}
  where
    new : Turn
    new = turn_for authority (record { turn = begins + 1; begun = moment })

    flights : (b : List ℕ) (t : Bool) → bytes_eq authority b ≡ t → length (filter (is_turn_of b) (in_flight ++ new ∷ [])) ≤ 1
    flights b true is =
        let zero : length (filter (is_turn_of b) in_flight) ≡ 0 =
        subst (λ a. length (filter (is_turn_of a) in_flight) ≡ 0) ((bytes_eq-Decides authority b).0 is) (none-found (is_turn_of authority) in_flight none) in
        let one : one_if (bytes_eq authority b) ≡ 1 = ap one_if is in
        omega (arith, count-push (is_turn_of b) in_flight new)
    flights b false is =
        let other : one_if (bytes_eq authority b) ≡ 0 = ap one_if is in
        let was = are.flights_once b in
        omega (arith, count-push (is_turn_of b) in_flight new)

    times : (k : ℕ) → times_turned standing (in_flight ++ new ∷ []) k ≡ times_turned standing in_flight k + one_if (begins + 1 == k)
    times k = omega (arith, count-push (has_number k) in_flight new)

    is_it : (k : ℕ) → (begins + 1 == k) ≡ true → begins + 1 ≡ k
    is_it k is = elim (eqb_tells (begins + 1) k) [ inl e ↦ e.1 | inr d ↦ absurd (true≢false (sym is ∙ d.0)) ]

    once : (k : ℕ) (b : Bool) → (begins + 1 == k) ≡ b → times_turned standing (in_flight ++ new ∷ []) k ≤ 1
    once k true is =
        let one : one_if (begins + 1 == k) ≡ 1 = ap one_if is in
        let next = is_it k is in
        let late : 0 < times_turned standing in_flight k → ⊥ = λ stands. let old = are.turns_begun k stands in omega arith in
        fresh k one late
      where
        fresh : (k : ℕ) → one_if (begins + 1 == k) ≡ 1 → (0 < times_turned standing in_flight k → ⊥) → times_turned standing (in_flight ++ new ∷ []) k ≤ 1
        fresh k one none = by (times_turned standing in_flight k) refl
          where
            by : (n : ℕ) → times_turned standing in_flight k ≡ n → times_turned standing (in_flight ++ new ∷ []) k ≤ 1
            by zero is = omega (arith, times k)
            by (suc n) is = absurd (none (omega arith))
    once k false is =
        let other : one_if (begins + 1 == k) ≡ 0 = ap one_if is in
        let was = are.turns_once k in
        omega (arith, times k)

    begun : (k : ℕ) (b : Bool) → (begins + 1 == k) ≡ b → 0 < times_turned standing (in_flight ++ new ∷ []) k → k ≤ begins + 1
    begun k true is stands = let next = is_it k is in omega arith
    begun k false is stands =
        let other : one_if (begins + 1 == k) ≡ 0 = ap one_if is in
        let was : 0 < times_turned standing in_flight k = omega (arith, times k) in
        let old = are.turns_begun k was in
        omega arith

apart_text : (a b x : List ℕ) → bytes_eq a b ≡ false → bytes_eq x b ≡ true → bytes_eq x a ≡ false
apart_text a b x apart is = by (bytes_eq x a) refl
  where
    by : (t : Bool) → bytes_eq x a ≡ t → bytes_eq x a ≡ false
    by false not_a = not_a
    by true is_a = absurd (true≢false (sym is ∙ (ap (λ y. bytes_eq y b) ((bytes_eq-Decides x a).0 is_a) ∙ apart)))

all-same : {X : Type 0} (b : Bool) (xs : List X) → b ≡ true → list_all (λ _. b) xs ≡ true
all-same b [] is = refl
all-same b (x ∷ xs) is = rw is (all-same b xs is)

pub own-turn : (standing : List StandingAnswer) (in_flight : List Turn) (begins m : ℕ) → AreTurns standing in_flight begins m →
    (authority : List ℕ) (turn : ℕ) → list_any (λ t. has_number turn t && is_turn_of authority t) in_flight ≡ true →
    filter (has_number turn) in_flight ≡ filter (is_turn_of authority) in_flight
own-turn standing in_flight begins m are authority turn found =
    same-found (has_number turn) (is_turn_of authority) in_flight (let once = are.turns_once turn in omega arith) (are.flights_once authority) found

pub turns-arrived : (standing : List StandingAnswer) (in_flight : List Turn) (begins m late : ℕ) (authority : List ℕ) (turn : ℕ) (says : Said) (life : ℕ) →
    m ≤ late → list_any (λ t. has_number turn t && is_turn_of authority t) in_flight ≡ true → life_of says life ≡ life →
    AreTurns standing in_flight begins m →
    AreTurns (filter (λ s. not (is_answer_for authority s)) standing ++ map (answered says life) (filter (has_number turn) in_flight))
    (filter (λ t. not (has_number turn t)) in_flight) begins late
turns-arrived standing in_flight begins m late authority turn says life later found lives are = record {
  flights_once = λ b. let was = are.flights_once b in omega (arith, filter-parts (is_turn_of b) (has_number turn) in_flight);
  answers_once = λ b. answers b (bytes_eq authority b) refl;
  turns_once = λ k. let was = are.turns_once k in omega (arith, times k);
  turns_begun = λ k stands. are.turns_begun k (omega (arith, times k));
  flights_begun = all-filter (λ (t : Turn). nat_le t.begun late) (λ t. not (has_number turn t)) in_flight begun;
  answers_begun =
      all-append (λ (s : StandingAnswer). nat_le s.begun late) kept added
      (all-filter (λ (s : StandingAnswer). nat_le s.begun late) (λ s. not (is_answer_for authority s)) standing
      (begun-later (λ (s : StandingAnswer). s.begun) m late standing later are.answers_begun))
      (all-of_map (λ (s : StandingAnswer). nat_le s.begun late) (answered says life) (filter (has_number turn) in_flight)
      (all-filter (λ (t : Turn). nat_le t.begun late) (has_number turn) in_flight begun));
  lives =
      all-append has_its_life kept added (all-filter has_its_life (λ s. not (is_answer_for authority s)) standing are.lives)
      (all-of_map has_its_life (answered says life) (filter (has_number turn) in_flight)
      (all-same (life_of says life == life) (filter (has_number turn) in_flight) (ap (λ n. n == life) lives ∙ same_number life)));
}
  where
    kept : List StandingAnswer
    kept = filter (λ s. not (is_answer_for authority s)) standing

    added : List StandingAnswer
    added = map (answered says life) (filter (has_number turn) in_flight)

    begun : list_all (λ (t : Turn). nat_le t.begun late) in_flight ≡ true
    begun = begun-later (λ (t : Turn). t.begun) m late in_flight later are.flights_begun

    own : filter (has_number turn) in_flight ≡ filter (is_turn_of authority) in_flight
    own = own-turn standing in_flight begins m are authority turn found

    brought : (b : List ℕ) → length (filter (is_answer_for b) added) ≡ length (filter (is_turn_of b) (filter (has_number turn) in_flight))
    brought b = count-map (is_answer_for b) (answered says life) (filter (has_number turn) in_flight)

    few : (b : List ℕ) → length (filter (is_turn_of b) (filter (has_number turn) in_flight)) ≤ 1
    few b =
        let one = are.turns_once turn in
        omega (arith, count-bound (is_turn_of b) (filter (has_number turn) in_flight))

    answers : (b : List ℕ) (t : Bool) → bytes_eq authority b ≡ t → length (filter (is_answer_for b) (kept ++ added)) ≤ 1
    answers b true is =
        let gone : length (filter (is_answer_for b) kept) ≡ 0 =
        ap length (filter-dropped (is_answer_for b) (λ s. not (is_answer_for authority s)) standing
        (λ s is_b. rw (ap (λ a. bytes_eq s.authority a) ((bytes_eq-Decides authority b).0 is) ∙ is_b) refl)) in
        omega (arith, count-append (is_answer_for b) kept added, brought b, few b)
    answers b false is =
        let none : length (filter (is_turn_of b) (filter (has_number turn) in_flight)) ≡ 0 =
        ap (λ ts. length (filter (is_turn_of b) ts)) own
        ∙ ap length (filter-dropped (is_turn_of b) (is_turn_of authority) in_flight (λ t is_b. apart_text authority b t.authority is is_b)) in
        let was = are.answers_once b in
        omega (
          arith,
          count-append (is_answer_for b) kept added,
          brought b,
          filter-parts (is_answer_for b) (is_answer_for authority) standing,
        )

    times : (k : ℕ) → times_turned (kept ++ added) (filter (λ t. not (has_number turn t)) in_flight) k ≤ times_turned standing in_flight k
    times k =
        let of_map : length (filter (is_of_turn k) added) ≡ length (filter (has_number k) (filter (has_number turn) in_flight)) =
        count-map (is_of_turn k) (answered says life) (filter (has_number turn) in_flight) in
        omega (
          arith,
          count-append (is_of_turn k) kept added,
          filter-parts (has_number k) (has_number turn) in_flight,
          filter-parts (is_of_turn k) (is_answer_for authority) standing,
        )

pub turns-swept : (standing : List StandingAnswer) (in_flight : List Turn) (begins m late moment : ℕ) → m ≤ late →
    AreTurns standing in_flight begins m → AreTurns (filter (λ s. not (is_past_answer moment s)) standing) in_flight begins late
turns-swept standing in_flight begins m late moment later are = record {
  flights_once = are.flights_once;
  answers_once = λ b. let was = are.answers_once b in omega (arith, filter-parts (is_answer_for b) (is_past_answer moment) standing);
  turns_once = λ k. let was = are.turns_once k in omega (arith, filter-parts (is_of_turn k) (is_past_answer moment) standing);
  turns_begun = λ k stands. are.turns_begun k (omega (arith, filter-parts (is_of_turn k) (is_past_answer moment) standing));
  flights_begun = begun-later (λ (t : Turn). t.begun) m late in_flight later are.flights_begun;
  answers_begun =
      all-filter (λ (s : StandingAnswer). nat_le s.begun late) (λ s. not (is_past_answer moment s)) standing
      (begun-later (λ (s : StandingAnswer). s.begun) m late standing later are.answers_begun);
  lives = all-filter has_its_life (λ s. not (is_past_answer moment s)) standing are.lives;
}
