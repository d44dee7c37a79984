-- A row that may come was loaded, so the open_state agrees with the base that has it.
-- Used by `first_base` that load a row.
use Rattle.std.proofs.Common.{◌≡◌, ℕ, ◌+◌, ◌<◌, ◌==◌, All, Bool, true, false, cond, not, List, [], ◌∷◌, ◌++◌, length, filter, map, refl, sym, ap, subst, ◌∙◌, arith}
use Rattle.std.specs.Prelude.{◌||◌, nat_lt, Some}
use Rattle.std.proofs.lemmas.Bool.Decides.{nat_tests}
use Rattle.std.proofs.lemmas.List.Elements.{All-push}
use Rattle.permit_book.proofs.CallerLemmas.{same_number}
use Rattle.authority_cache.specs.declared.standing_answer.StandingAnswer.{StandingAnswer}
use Rattle.authority_cache.specs.declared.turn.Turn.{Turn}
use Rattle.authority_cache.specs.Calls.{one_if}
use Rattle.authority_cache.specs.Lists.{TellsCache, answered, has_number, is_answer_for, is_turn_of}
use Rattle.authority_cache.specs.Lives.{Timed}
use Rattle.authority_cache.specs.Sites.{has_turn, site_of, with_flight}
use Rattle.authority_cache.proofs.CallerLemmas as cache_laws
use Rattle.authority_cache.proofs.CallerLemmas.{count-push}
use Rattle.gate_history.specs.Base.{Base, is_of_turn, times_turned}
use Rattle.gate_history.specs.History.{from}
use Rattle.crawl_audit.specs.declared.first_base.FirstBase.{FirstBase}
use Rattle.crawl_audit.specs.declared.first_base.LastLine.TheVariants as lasts
use Rattle.crawl_audit.specs.declared.open_state.OpenState.{OpenState}
use Rattle.crawl_audit.specs.FirstBase.{SaysBase, answered_row, is_used, key_of, last_of, turn_row}
use Rattle.crawl_audit.specs.Loading.{LoadsAnswer, LoadsTurn, flight_of}
use Rattle.crawl_audit.specs.OpenRows.{OpenRow, Answered, IsOpenRow, MayStand, rows_of, with_row}
use Rattle.crawl_audit.specs.Tables.{TellsAll, TellsNumbers}
use Rattle.crawl_audit.proofs.Numbering.{still}
use Rattle.gate_history.proofs.CallerLemmas.{same_text}
use Rattle.crawl_audit.proofs.RowKinds.{FromKind, rows_by_kinds}
use Rattle.crawl_audit.proofs.RowOrder.{last_push, others_none}
use Rattle.crawl_audit.proofs.StandingRows.{no_turns}

-- ---- the base with the row

module _ (first first' : FirstBase) (open_state open_state' : OpenState) (b : Base) (row : OpenRow) (says : SaysBase first open_state b) (fields : IsOpenRow row) (may : MayStand b row) where
  pub loaded : TellsAll open_state' (from (with_row b row)) → open_state'.numbers.rising ≡ true → first'.last ≡ Some (key_of row) →
      ((turn : ℕ) → is_used first' turn ≡ nat_lt 0 (times_turned (with_row b row).standing (with_row b row).in_flight turn)) → SaysBase first' open_state' (with_row b row)
  loaded tells rising last turns = record {
    is_base = may.base;
    rows = subst (All IsOpenRow) (sym may.behind) (All-push IsOpenRow (rows_of b) row says.rows fields);
    tells = tells;
    rising = rising;
    last_is = last ∙ ap Some (sym (ap last_of may.behind ∙ last_push lasts.Numbers (rows_of b) row));
    turns_are = turns;
  }

pub by_kind : (b : Base) (row : OpenRow) → MayStand b row → FromKind 0 (rows_of b ++ row ∷ [])
by_kind b row may = subst (FromKind 0) may.behind (rows_by_kinds (with_row b row))

-- ---- turns

used_more : (m n : ℕ) (here before : Bool) → m ≡ n + one_if here → before ≡ nat_lt 0 n → (here || before) ≡ nat_lt 0 m
used_more m n true before more was = (let some : 0 < m = omega arith in grind (arith, nat_tests))
used_more m n false before more was = (let same : n ≡ m = omega arith in was ∙ ap (nat_lt 0) same)

module _ (first first' : FirstBase) (open_state open_state' : OpenState) (b : Base) (authority : List ℕ) (turn begun : ℕ) (says : SaysBase first open_state b)
    (last : first'.last ≡ Some (lasts.InFlight turn)) (used : (other : ℕ) → is_used first' other ≡ (turn == other || is_used first other)) where
  abbrev flight : Turn
  flight = record { authority = authority; turn = turn; begun = begun }

  pub turn_loaded : LoadsTurn open_state authority turn begun open_state' → IsOpenRow (turn_row authority turn begun) → MayStand b (turn_row authority turn begun) → SaysBase first' open_state' (with_row b (turn_row authority turn begun))
  turn_loaded loads fields may =
      let all = says.tells in
      let t = all.tells in
      let numbers : open_state'.numbers ≡ open_state.numbers = ap (λ l. l.numbers) loads.rest in
      loaded first first' open_state open_state' b (turn_row authority turn begun) says fields may
      (record {
        tells = record {
          clock_is = ap (λ l. l.clock) loads.rest ∙ t.clock_is;
          begins_are = ap (λ l. l.begins) loads.rest ∙ t.begins_are;
          cache_tells = cache_laws.begun open_state.cache open_state'.cache b.standing b.in_flight authority (flight_of turn begun) t.cache_tells loads.idle loads.began;
          numbers_tell = still open_state'.numbers (from b) (from (with_row b (turn_row authority turn begun))) refl refl refl (λ n. refl) (subst (λ n. TellsNumbers n (from b)) (sym numbers) t.numbers_tell);
        };
        entries_are = ap (λ l. l.entries) loads.rest ∙ all.entries_are;
        started_are = ap (λ l. l.started) loads.rest ∙ all.started_are;
        few = (let e = ap (λ l. l.entries) loads.rest in let s = ap (λ l. l.started) loads.rest in let few = all.few in omega arith);
      })
      (ap (λ n. n.rising) numbers ∙ says.rising) last
      (λ other. used other ∙ used_more (times_turned b.standing (b.in_flight ++ flight ∷ []) other) (times_turned b.standing b.in_flight other) (turn == other) (is_used first other)
      (omega (arith, count-push (has_number other) b.in_flight flight)) (says.turns_are other))

-- ---- answers

all_kept : {X : Type 0} (test : X → Bool) (xs : List X) → length (filter test xs) ≡ 0 → filter (λ x. not (test x)) xs ≡ xs
all_kept test [] none = refl
all_kept test (x ∷ xs) none = by (test x) none (all_kept test xs)
  where
    by : (e : Bool) → length (cond e (x ∷ filter test xs) (filter test xs)) ≡ 0 → (length (filter test xs) ≡ 0 → filter (λ y. not (test y)) xs ≡ xs) →
        cond (not e) (x ∷ filter (λ y. not (test y)) xs) (filter (λ y. not (test y)) xs) ≡ x ∷ xs
    by true none rest = absurd (omega arith)
    by false none rest = ap (λ l. x ∷ l) (rest none)

module _ (first first' : FirstBase) (open_state open_state' : OpenState) (b : Base) (authority : List ℕ) (turn begun : ℕ) (answer : Timed) (says : SaysBase first open_state b)
    (last : first'.last ≡ Some (lasts.Answered authority)) (used : (other : ℕ) → is_used first' other ≡ (turn == other || is_used first other)) where
  abbrev brought : StandingAnswer
  brought = record { authority = authority; turn = turn; begun = begun; life = answer.life; says = answer.says }

  abbrev begun_turn : Turn
  begun_turn = record { authority = authority; turn = turn; begun = begun }

  cache_loaded : LoadsAnswer open_state authority turn begun answer open_state' → MayStand b (Answered brought) → TellsCache open_state'.cache (b.standing ++ brought ∷ []) b.in_flight
  cache_loaded loads may =
      let all = says.tells in
      let t = all.tells in
      let turned = loads.turned in
      let between = loads.between in
      let none = no_turns b (Answered brought) (by_kind b (Answered brought) may) (omega arith) in
      let flying : TellsCache between.cache b.standing (begun_turn ∷ []) =
      subst (λ l. TellsCache between.cache b.standing (l ++ begun_turn ∷ [])) none
      (cache_laws.begun open_state.cache between.cache b.standing b.in_flight authority (flight_of turn begun) t.cache_tells turned.idle turned.began) in
      let own : filter (has_number turn) (begun_turn ∷ []) ≡ begun_turn ∷ [] = ap (λ e. cond e (begun_turn ∷ []) []) (same_number turn) in
      let gone : filter (λ x. not (has_number turn x)) (begun_turn ∷ []) ≡ [] = ap (λ e. cond (not e) (begun_turn ∷ []) []) (same_number turn) in
      let of_it : filter (is_turn_of authority) (begun_turn ∷ []) ≡ begun_turn ∷ [] = ap (λ e. cond e (begun_turn ∷ []) []) (same_text authority) in
      let site : site_of between.cache authority ≡ with_flight (flight_of turn begun) (site_of open_state.cache authority) =
      turned.began.sites authority ∙ ap (λ e. cond e (with_flight (flight_of turn begun) (site_of open_state.cache authority)) (site_of open_state.cache authority)) (same_text authority) in
      let there : has_turn turn (site_of between.cache authority) ≡ true = ap (has_turn turn) site ∙ same_number turn in
      let came = cache_laws.arrives between.cache open_state'.cache b.standing (begun_turn ∷ []) authority turn answer.life answer.says flying there (own ∙ sym of_it) loads.came in
      let once = may.base.base.turns.answers_once authority in
      let kept = all_kept (is_answer_for authority) b.standing (others_none (is_answer_for authority) b.standing brought once (same_text authority)) in
      subst (λ l. TellsCache open_state'.cache (b.standing ++ brought ∷ []) l) (gone ∙ sym none)
      (subst (λ l. TellsCache open_state'.cache l (filter (λ x. not (has_number turn x)) (begun_turn ∷ []))) (λ i. kept i ++ map (answered answer.says answer.life) (own i)) came)

  pub answer_loaded : LoadsAnswer open_state authority turn begun answer open_state' → IsOpenRow (answered_row authority turn begun answer) → MayStand b (answered_row authority turn begun answer) →
      SaysBase first' open_state' (with_row b (answered_row authority turn begun answer))
  answer_loaded loads fields may =
      let all = says.tells in
      let t = all.tells in
      let turned = loads.turned in
      let numbers : open_state'.numbers ≡ open_state.numbers = ap (λ l. l.numbers) loads.rest ∙ ap (λ l. l.numbers) turned.rest in
      let entries : open_state'.entries ≡ open_state.entries = ap (λ l. l.entries) loads.rest ∙ ap (λ l. l.entries) turned.rest in
      let started : open_state'.started ≡ open_state.started = ap (λ l. l.started) loads.rest ∙ ap (λ l. l.started) turned.rest in
      loaded first first' open_state open_state' b (answered_row authority turn begun answer) says fields may
      (record {
        tells = record {
          clock_is = ap (λ l. l.clock) loads.rest ∙ ap (λ l. l.clock) turned.rest ∙ t.clock_is;
          begins_are = ap (λ l. l.begins) loads.rest ∙ ap (λ l. l.begins) turned.rest ∙ t.begins_are;
          cache_tells = cache_loaded loads may;
          numbers_tell = still open_state'.numbers (from b) (from (with_row b (answered_row authority turn begun answer))) refl refl refl (λ n. refl) (subst (λ n. TellsNumbers n (from b)) (sym numbers) t.numbers_tell);
        };
        entries_are = entries ∙ all.entries_are;
        started_are = started ∙ all.started_are;
        few = (let few = all.few in omega arith);
      })
      (ap (λ n. n.rising) numbers ∙ says.rising) last
      (λ other. used other ∙ used_more (times_turned (b.standing ++ brought ∷ []) b.in_flight other) (times_turned b.standing b.in_flight other) (turn == other) (is_used first other)
      (omega (arith, count-push (is_of_turn other) b.standing brought)) (says.turns_are other))
