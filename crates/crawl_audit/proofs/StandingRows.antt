-- A row may follow those of a base if it sorts after the last and is consistent with them.
-- Used by `may_stand` of `first_base`.
use Rattle.std.proofs.Common.{◌≡◌, ℕ, ◌≤◌, ◌==◌, Bool, true, false, cond, not, ◌&&◌, List, [], ◌∷◌, ◌++◌, length, filter, map, refl, sym, ap, subst, ◌∙◌, true≢false, arith}
use Rattle.std.specs.Prelude.{nat_le, nat_lt, Option, Some, None, is_some, option_to_list}
use Rattle.std.specs.List.{list_all}
use Rattle.std.specs.Option.{option_map}
use Rattle.std.specs.Ordering.{is_lt, nat_cmp}
use Rattle.std.specs.declared.cmp.Ordering.TheVariants.{Less, Equal, Greater}
use Rattle.std.specs.Str.{bytes_eq}
use Rattle.std.proofs.lemmas.Bool.{and_parts}
use Rattle.std.proofs.lemmas.Bool.Decides.{nat_tests}
use Rattle.std.proofs.lemmas.List.Folds.{list_all-append}
use Rattle.permit_book.specs.declared.granted_permit.GrantedPermit.{GrantedPermit}
use Rattle.permit_book.specs.Numbers.{slot_of}
use Rattle.permit_book.specs.Outstanding.{is_numbered}
use Rattle.permit_book.proofs.CallerLemmas.{same_number}
use Rattle.authority_cache.specs.declared.site.Flight.{Flight}
use Rattle.authority_cache.specs.declared.turn.Turn.{Turn}
use Rattle.authority_cache.specs.Calls.{one_if}
use Rattle.authority_cache.specs.Lists.{has_number, is_answer_for, is_turn_of, turn_for}
use Rattle.authority_cache.specs.Sites.{is_flying, site_of}
use Rattle.authority_cache.proofs.CallerLemmas.{count-push}
use Rattle.gate_history.specs.declared.base.SlotGrant.{SlotGrant}
use Rattle.gate_history.specs.Base.{Base, is_of_turn, times_turned}
use Rattle.gate_history.specs.Grants.{is_covered, is_in}
use Rattle.gate_history.specs.History.{from}
use Rattle.crawl_audit.specs.declared.first_base.FirstBase.{FirstBase}
use Rattle.crawl_audit.specs.declared.first_base.LastLine.{LastLine}
use Rattle.crawl_audit.specs.declared.first_base.LastLine.TheVariants as lasts
use Rattle.crawl_audit.specs.declared.open_state.OpenState.{OpenState}
use Rattle.crawl_audit.specs.declared.numbers.Phase.{Phase}
use Rattle.crawl_audit.specs.declared.numbers.Phase.TheVariants as phases
use Rattle.history_text.specs.Texts.{IsTextBase}
use Rattle.crawl_audit.specs.FirstBase.{SaysBase, fits, is_behind, is_granted, is_used, last_from, last_of, may_have_begun}
use Rattle.crawl_audit.specs.OpenRows.{OpenRow, Answered, InFlight, Greatest, Unspent, Running, IsOpenRow, MayStand, rows_of, with_row}
use Rattle.crawl_audit.specs.Tables.{Tells, TellsNumbers, lasts_of, phases_of, running_under, unspent_under}
use Rattle.crawl_audit.proofs.Numbering.{covered_is}
use Rattle.gate_history.proofs.CallerLemmas.{nat_tie, same_text, text_tie}
use Rattle.crawl_audit.proofs.RowFronts.{answer_before, grant_before, permit_before, turn_before}
use Rattle.crawl_audit.proofs.RowKinds.{FromKind, grants_are, grants_at, kind, rows_by_kinds, running_are, running_at, stands_behind, turns_are, turns_at, unspent_are, unspent_at}
use Rattle.crawl_audit.proofs.RowOrder.{behind_all, behind_kind, behind_last, kinds_push, last_append, less_behind, none_above, others_none}
use Rattle.crawl_audit.proofs.TextBases.{answers_ordered, grants_ordered, permits_ordered, turns_ordered, with_answer, with_greatest, with_running, with_turn, with_unspent}

-- ---- tests

at_most : (m n : ℕ) → nat_le m n ≡ true → m ≤ n
at_most m n is = grind (arith, nat_tests)

tests_at_most : (m n : ℕ) → m ≤ n → nat_le m n ≡ true
tests_at_most m n is = grind (arith, nat_tests)

none_of : (n : ℕ) → nat_lt 0 n ≡ false → n ≡ 0
none_of n is = grind (arith, nat_tests)

tests_none : (n : ℕ) → n ≡ 0 → nat_lt 0 n ≡ false
tests_none n is = grind (arith, nat_tests)

unnot : (b : Bool) → not b ≡ true → b ≡ false
unnot true e = sym e
unnot false e = refl

both : (a b : Bool) → a ≡ true → b ≡ true → (a && b) ≡ true
both a b p q = λ i. p i && q i

before_by : (m n : ℕ) → nat_lt m n ≡ is_lt (nat_cmp m n)
before_by m n = by (nat_lt m n) (m == n)
  where
    by : (less same : Bool) → less ≡ is_lt (cond less Less (cond same Equal Greater))
    by true same = refl
    by false true = refl
    by false false = refl

pub nothing : {X : Type 0} (xs : List X) → length xs ≡ 0 → xs ≡ []
nothing [] none = refl
nothing (x ∷ xs) none = absurd (omega arith)

all_last : {X : Type 0} (p : X → Bool) (xs : List X) (y : X) → list_all p (xs ++ y ∷ []) ≡ true → p y ≡ true
all_last p xs y all =
    let parts = and_parts (list_all p xs) (list_all p (y ∷ [])) (sym (list_all-append p xs (y ∷ [])) ∙ all) in
    let last = and_parts (p y) true parts.1 in
    last.0

-- ---- what rows of a kind have before them

early_turn : (r : OpenRow) → kind r ≤ 1 → turns_at r ≡ []
early_turn (Answered s) early = refl
early_turn (InFlight t) early = absurd (omega arith)
early_turn (Greatest g) early = refl
early_turn (Unspent p) early = refl
early_turn (Running p) early = refl

early_grant : (r : OpenRow) → kind r ≤ 2 → grants_at r ≡ []
early_grant (Answered s) early = refl
early_grant (InFlight t) early = refl
early_grant (Greatest g) early = absurd (omega arith)
early_grant (Unspent p) early = refl
early_grant (Running p) early = refl

early_unspent : (r : OpenRow) → kind r ≤ 3 → unspent_at r ≡ []
early_unspent (Answered s) early = refl
early_unspent (InFlight t) early = refl
early_unspent (Greatest g) early = refl
early_unspent (Unspent p) early = absurd (omega arith)
early_unspent (Running p) early = refl

early_running : (r : OpenRow) → kind r ≤ 4 → running_at r ≡ []
early_running (Answered s) early = refl
early_running (InFlight t) early = refl
early_running (Greatest g) early = refl
early_running (Unspent p) early = refl
early_running (Running p) early = absurd (omega arith)

module _ (b : Base) (row : OpenRow) (kinds : FromKind 0 (rows_of b ++ row ∷ [])) where
  pub no_turns : kind row ≤ 1 → b.in_flight ≡ []
  no_turns early = sym (turns_are b) ∙ none_above turns_at row (λ r at. early_turn r (omega arith)) 0 (rows_of b) kinds

  pub no_grants : kind row ≤ 2 → b.grants ≡ []
  no_grants early = sym (grants_are b) ∙ none_above grants_at row (λ r at. early_grant r (omega arith)) 0 (rows_of b) kinds

  pub no_unspent : kind row ≤ 3 → b.unspent ≡ []
  no_unspent early = sym (unspent_are b) ∙ none_above unspent_at row (λ r at. early_unspent r (omega arith)) 0 (rows_of b) kinds

  pub no_running : kind row ≤ 4 → b.running ≡ []
  no_running early = sym (running_are b) ∙ none_above running_at row (λ r at. early_running r (omega arith)) 0 (rows_of b) kinds

-- ---- the last line of a base, by its lists

module _ (b : Base) where
  abbrev line_1 : LastLine
  line_1 = last_from lasts.Numbers (map Answered b.standing)

  abbrev line_2 : LastLine
  line_2 = last_from line_1 (map InFlight b.in_flight)

  abbrev line_3 : LastLine
  line_3 = last_from line_2 (map Greatest b.grants)

  abbrev line_4 : LastLine
  line_4 = last_from line_3 (map Unspent b.unspent)

  reached_5 : last_of (rows_of b) ≡ last_from line_4 (map Running b.running)
  reached_5 =
      let ys = map Running b.running in
      let us = map Unspent b.unspent ++ ys in
      let ls = map Greatest b.grants ++ us in
      let is_ = map InFlight b.in_flight ++ ls in
      last_append lasts.Numbers (map Answered b.standing) is_ ∙ last_append line_1 (map InFlight b.in_flight) ls ∙ last_append line_2 (map Greatest b.grants) us ∙ last_append line_3 (map Unspent b.unspent) ys

  reached_4 : b.running ≡ [] → last_of (rows_of b) ≡ line_4
  reached_4 y = reached_5 ∙ (λ i. last_from line_4 (map Running (y i)))

  reached_3 : b.unspent ≡ [] → b.running ≡ [] → last_of (rows_of b) ≡ line_3
  reached_3 u y = reached_4 y ∙ (λ i. last_from line_3 (map Unspent (u i)))

  reached_2 : b.grants ≡ [] → b.unspent ≡ [] → b.running ≡ [] → last_of (rows_of b) ≡ line_2
  reached_2 l u y = reached_3 u y ∙ (λ i. last_from line_2 (map Greatest (l i)))

  reached_1 : b.in_flight ≡ [] → b.grants ≡ [] → b.unspent ≡ [] → b.running ≡ [] → last_of (rows_of b) ≡ line_1
  reached_1 t l u y = reached_2 l u y ∙ (λ i. last_from line_1 (map InFlight (t i)))

  before_turn : (y : Turn) → is_behind line_1 (InFlight y) ≡ true
  before_turn y = behind_all Answered (InFlight y) (λ s. refl) lasts.Numbers refl b.standing

  before_grant : (y : SlotGrant) → is_behind line_2 (Greatest y) ≡ true
  before_grant y = behind_all InFlight (Greatest y) (λ t. refl) line_1 (behind_all Answered (Greatest y) (λ s. refl) lasts.Numbers refl b.standing) b.in_flight

  before_unspent : (y : GrantedPermit) → is_behind line_3 (Unspent y) ≡ true
  before_unspent y =
      behind_all Greatest (Unspent y) (λ g. refl) line_2
      (behind_all InFlight (Unspent y) (λ t. refl) line_1 (behind_all Answered (Unspent y) (λ s. refl) lasts.Numbers refl b.standing) b.in_flight) b.grants

  before_running : (y : GrantedPermit) → is_behind line_4 (Running y) ≡ true
  before_running y =
      behind_all Unspent (Running y) (λ p. refl) line_3
      (behind_all Greatest (Running y) (λ g. refl) line_2
      (behind_all InFlight (Running y) (λ t. refl) line_1 (behind_all Answered (Running y) (λ s. refl) lasts.Numbers refl b.standing) b.in_flight) b.grants) b.unspent

-- ---- the tests that a row passes

flight_none : (authority : List ℕ) (o : Option Flight) (xs : List Turn) → xs ≡ option_to_list (option_map (turn_for authority) o) → is_some o ≡ false → xs ≡ []
flight_none authority None xs are none = are
flight_none authority (Some flight) xs are none = absurd (true≢false none)

none_flight : (authority : List ℕ) (o : Option Flight) (xs : List Turn) → xs ≡ option_to_list (option_map (turn_for authority) o) → length xs ≡ 0 → is_some o ≡ false
none_flight authority None xs are none = refl
none_flight authority (Some flight) xs are none = absurd (omega (arith, ap length are))

none_out : (number : ℕ) (o : Option Phase) (us ys : List GrantedPermit) → us ≡ unspent_under number o → ys ≡ running_under number o → length us ≡ 0 → length ys ≡ 0 → is_some o ≡ false
none_out number None us ys are are' none none' = refl
none_out number (Some (phases.Unspent fetch)) us ys are are' none none' = absurd (omega (arith, ap length are))
none_out number (Some (phases.Running fetch)) us ys are are' none none' = absurd (omega (arith, ap length are'))

out_none : (number : ℕ) (o : Option Phase) (us : List GrantedPermit) → us ≡ unspent_under number o → is_some o ≡ false → us ≡ []
out_none number None us are none = are
out_none number (Some phase) us are none = absurd (true≢false none)

module _ (first : FirstBase) (open_state : OpenState) (b : Base) (says : SaysBase first open_state b) where
  tells : Tells open_state (from b)
  tells = let all = says.tells in all.tells

  numbers_tell : TellsNumbers open_state.numbers (from b)
  numbers_tell = let t = tells in t.numbers_tell

  unused_turn : (turn : ℕ) → not (is_used first turn) ≡ true → times_turned b.standing b.in_flight turn ≡ 0
  unused_turn turn is = none_of (times_turned b.standing b.in_flight turn) (sym (says.turns_are turn) ∙ unnot (is_used first turn) is)

  turn_unused : (turn : ℕ) → times_turned b.standing b.in_flight turn ≡ 0 → not (is_used first turn) ≡ true
  turn_unused turn none = ap not (says.turns_are turn ∙ tests_none (times_turned b.standing b.in_flight turn) none)

  -- the turn is new, and may have begun at this moment
  record BeganSo (turn begun : ℕ) : Type 0 where
    unused : times_turned b.standing b.in_flight turn ≡ 0
    counted : turn ≤ b.begins
    at : nat_le begun b.moment ≡ true

  began_so : (turn begun : ℕ) → may_have_begun first open_state turn begun ≡ true → BeganSo turn begun
  began_so turn begun is =
      let t = tells in
      let parts = and_parts (not (is_used first turn)) (nat_le turn open_state.begins && nat_le begun open_state.clock) is in
      let rest = and_parts (nat_le turn open_state.begins) (nat_le begun open_state.clock) parts.1 in
      record {
        unused = unused_turn turn parts.0;
        counted = at_most turn b.begins (ap (nat_le turn) (sym t.begins_are) ∙ rest.0);
        at = ap (nat_le begun) (sym t.clock_is) ∙ rest.1;
      }

  so_began : (turn begun : ℕ) → BeganSo turn begun → may_have_begun first open_state turn begun ≡ true
  so_began turn begun is =
      let t = tells in
      both (not (is_used first turn)) (nat_le turn open_state.begins && nat_le begun open_state.clock) (turn_unused turn is.unused)
      (both (nat_le turn open_state.begins) (nat_le begun open_state.clock) (ap (nat_le turn) t.begins_are ∙ tests_at_most turn b.begins is.counted) (ap (nat_le begun) t.clock_is ∙ is.at))

  granted_is : (number : ℕ) → is_granted open_state.numbers number ≡ is_covered b.grants number
  granted_is number =
      let n = numbers_tell in
      sym (covered_is b.grants number (lasts_of open_state.numbers (slot_of number)) (n.grants_are (slot_of number)))

  abbrev last : LastLine
  last = last_of (rows_of b)

  kinds : (row : OpenRow) → is_behind last row ≡ true → FromKind 0 (rows_of b ++ row ∷ [])
  kinds row behind = kinds_push lasts.Numbers (rows_of b) row (rows_by_kinds b) (behind_kind last row behind)

  moved : (row : OpenRow) (line : LastLine) → last ≡ line → is_behind last row ≡ true → is_behind line row ≡ true
  moved row line same behind = ap (λ l. is_behind l row) (sym same) ∙ behind

  -- ---- a row that passes them makes a base that a text can have

  passes : (row : OpenRow) → IsOpenRow row → is_behind last row ≡ true → fits first open_state row ≡ true → IsTextBase (with_row b row)
  passes (Answered s) row behind fit =
      let r = Answered s in
      let k = kinds r behind in
      let o = says.is_base.order in
      let began = began_so s.turn s.begun fit in
      with_answer b says.is_base s row
      (less_behind answer_before answers_ordered Answered lasts.Numbers (λ z y. refl) (λ y. refl) b.standing s o.answers
      (moved r (line_1 b) (reached_1 b (no_turns b r k (omega arith)) (no_grants b r k (omega arith)) (no_unspent b r k (omega arith)) (no_running b r k (omega arith))) behind))
      began.unused began.counted began.at
  passes (InFlight y) row behind fit =
      let r = InFlight y in
      let k = kinds r behind in
      let o = says.is_base.order in
      let t = tells in
      let cache = t.cache_tells in
      let parts = and_parts (not (is_flying (site_of open_state.cache y.authority))) (may_have_begun first open_state y.turn y.begun) fit in
      let began = began_so y.turn y.begun parts.1 in
      with_turn b says.is_base y row
      (less_behind turn_before turns_ordered InFlight (line_1 b) (λ z w. before_by z.turn w.turn) (before_turn b) b.in_flight y o.turns
      (moved r (line_2 b) (reached_2 b (no_grants b r k (omega arith)) (no_unspent b r k (omega arith)) (no_running b r k (omega arith))) behind))
      began.unused began.counted began.at
      (flight_none y.authority (site_of open_state.cache y.authority).in_flight (filter (is_turn_of y.authority) b.in_flight) (cache.turns_are y.authority) (unnot (is_flying (site_of open_state.cache y.authority)) parts.0))
  passes (Greatest g) row behind fit =
      let r = Greatest g in
      let k = kinds r behind in
      let o = says.is_base.order in
      let u = no_unspent b r k (omega arith) in
      let y = no_running b r k (omega arith) in
      with_greatest b says.is_base g row
      (less_behind grant_before grants_ordered Greatest (line_2 b) (λ z w. before_by z.slot w.slot) (before_grant b) b.grants g o.grants (moved r (line_3 b) (reached_3 b u y) behind))
      u y
  passes (Unspent p) row behind fit =
      let r = Unspent p in
      let k = kinds r behind in
      let o = says.is_base.order in
      let y = no_running b r k (omega arith) in
      with_unspent b says.is_base p row
      (less_behind permit_before permits_ordered Unspent (line_3 b) (λ z w. before_by z.number w.number) (before_unspent b) b.unspent p o.permits (moved r (line_4 b) (reached_4 b y) behind))
      y (sym (granted_is p.number) ∙ fit)
  passes (Running p) row behind fit =
      let r = Running p in
      let o = says.is_base.order in
      let n = numbers_tell in
      let parts = and_parts (is_granted open_state.numbers p.number) (not (is_some (phases_of open_state.numbers p.number))) fit in
      with_running b says.is_base p row
      (less_behind permit_before permits_ordered Running (line_4 b) (λ z w. before_by z.number w.number) (before_running b) b.running p o.runs (moved r (last_from (line_4 b) (map Running b.running)) (reached_5 b) behind))
      (out_none p.number (phases_of open_state.numbers p.number) (filter (is_numbered p.number) b.unspent) (n.unspent_are p.number) (unnot (is_some (phases_of open_state.numbers p.number)) parts.1))
      (sym (granted_is p.number) ∙ parts.0)

  pub stands_from : (row : OpenRow) → IsOpenRow row → is_behind last row ≡ true → fits first open_state row ≡ true → MayStand b row
  stands_from row fields behind fit = record { behind = stands_behind b row (kinds row behind); base = passes row fields behind fit }

  -- ---- a possible row passes them

  its_kinds : (row : OpenRow) → MayStand b row → FromKind 0 (rows_of b ++ row ∷ [])
  its_kinds row may = subst (FromKind 0) may.behind (rows_by_kinds (with_row b row))

  moved_back : (row : OpenRow) (line : LastLine) → last ≡ line → is_behind line row ≡ true → is_behind last row ≡ true
  moved_back row line same behind = ap (λ l. is_behind l row) same ∙ behind

  pub comes_behind : (row : OpenRow) → MayStand b row → is_behind last row ≡ true
  comes_behind (Answered s) may =
      let r = Answered s in
      let k = its_kinds r may in
      let o = may.base.order in
      let t = may.base.base.turns in
      moved_back r (line_1 b) (reached_1 b (no_turns b r k (omega arith)) (no_grants b r k (omega arith)) (no_unspent b r k (omega arith)) (no_running b r k (omega arith)))
      (behind_last answer_before answers_ordered Answered lasts.Numbers (λ z y. refl) (λ y. refl) (is_answer_for s.authority) b.standing s o.answers (t.answers_once s.authority) (same_text s.authority)
      (λ z p q. ap (λ a. bytes_eq a s.authority) (text_tie z.authority s.authority p q) ∙ same_text s.authority))
  comes_behind (InFlight y) may =
      let r = InFlight y in
      let k = its_kinds r may in
      let o = may.base.order in
      let t = may.base.base.turns in
      moved_back r (line_2 b) (reached_2 b (no_grants b r k (omega arith)) (no_unspent b r k (omega arith)) (no_running b r k (omega arith)))
      (behind_last turn_before turns_ordered InFlight (line_1 b) (λ z w. before_by z.turn w.turn) (before_turn b) (has_number y.turn) b.in_flight y o.turns (let once = t.turns_once y.turn in omega arith) (same_number y.turn)
      (λ z p q. ap (λ n. n == y.turn) (nat_tie z.turn y.turn p q) ∙ same_number y.turn))
  comes_behind (Greatest g) may =
      let r = Greatest g in
      let k = its_kinds r may in
      let o = may.base.order in
      let p = may.base.base.permits in
      moved_back r (line_3 b) (reached_3 b (no_unspent b r k (omega arith)) (no_running b r k (omega arith)))
      (behind_last grant_before grants_ordered Greatest (line_2 b) (λ z w. before_by z.slot w.slot) (before_grant b) (is_in g.slot) b.grants g o.grants (p.slots_once g.slot) (same_number g.slot)
      (λ z v w. ap (λ n. n == g.slot) (nat_tie z.slot g.slot v w) ∙ same_number g.slot))
  comes_behind (Unspent p) may =
      let r = Unspent p in
      let k = its_kinds r may in
      let o = may.base.order in
      let out = may.base.base.permits in
      moved_back r (line_4 b) (reached_4 b (no_running b r k (omega arith)))
      (behind_last permit_before permits_ordered Unspent (line_3 b) (λ z w. before_by z.number w.number) (before_unspent b) (is_numbered p.number) b.unspent p o.permits (let once = out.numbers_once p.number in omega arith) (same_number p.number)
      (λ z v w. ap (λ n. n == p.number) (nat_tie z.number p.number v w) ∙ same_number p.number))
  comes_behind (Running p) may =
      let r = Running p in
      let o = may.base.order in
      let out = may.base.base.permits in
      moved_back r (last_from (line_4 b) (map Running b.running)) (reached_5 b)
      (behind_last permit_before permits_ordered Running (line_4 b) (λ z w. before_by z.number w.number) (before_running b) (is_numbered p.number) b.running p o.runs (let once = out.numbers_once p.number in omega arith) (same_number p.number)
      (λ z v w. ap (λ n. n == p.number) (nat_tie z.number p.number v w) ∙ same_number p.number))

  pub fits_too : (row : OpenRow) → MayStand b row → fits first open_state row ≡ true
  fits_too (Answered s) may =
      let t = may.base.base.turns in
      let once = t.turns_once s.turn in
      so_began s.turn s.begun (record {
        unused = omega (arith, count-push (is_of_turn s.turn) b.standing s, ap one_if (same_number s.turn));
        counted = t.turns_begun s.turn (omega (arith, count-push (is_of_turn s.turn) b.standing s, ap one_if (same_number s.turn)));
        at = all_last (λ x. nat_le x.begun b.moment) b.standing s t.answers_begun;
      })
  fits_too (InFlight y) may =
      let t = may.base.base.turns in
      let once = t.turns_once y.turn in
      let told = tells in
      let cache = told.cache_tells in
      both (not (is_flying (site_of open_state.cache y.authority))) (may_have_begun first open_state y.turn y.begun)
      (ap not (none_flight y.authority (site_of open_state.cache y.authority).in_flight (filter (is_turn_of y.authority) b.in_flight) (cache.turns_are y.authority)
      (others_none (is_turn_of y.authority) b.in_flight y (t.flights_once y.authority) (same_text y.authority))))
      (so_began y.turn y.begun (record {
        unused = omega (arith, count-push (has_number y.turn) b.in_flight y, ap one_if (same_number y.turn));
        counted = t.turns_begun y.turn (omega (arith, count-push (has_number y.turn) b.in_flight y, ap one_if (same_number y.turn)));
        at = all_last (λ x. nat_le x.begun b.moment) b.in_flight y t.flights_begun;
      }))
  fits_too (Greatest g) may = refl
  fits_too (Unspent p) may =
      let out = may.base.base.permits in
      granted_is p.number ∙ out.numbers_granted p.number (omega (arith, count-push (is_numbered p.number) b.unspent p, ap one_if (same_number p.number)))
  fits_too (Running p) may =
      let out = may.base.base.permits in
      let once = out.numbers_once p.number in
      let n = numbers_tell in
      both (is_granted open_state.numbers p.number) (not (is_some (phases_of open_state.numbers p.number)))
      (granted_is p.number ∙ out.numbers_granted p.number (omega (arith, count-push (is_numbered p.number) b.running p, ap one_if (same_number p.number))))
      (ap not (none_out p.number (phases_of open_state.numbers p.number) (filter (is_numbered p.number) b.unspent) (filter (is_numbered p.number) b.running) (n.unspent_are p.number) (n.running_are p.number)
      (omega (arith, count-push (is_numbered p.number) b.running p, ap one_if (same_number p.number)))
      (omega (arith, count-push (is_numbered p.number) b.running p, ap one_if (same_number p.number)))))
