-- A prefix of the rows of a base is again the rows of a base.
-- Used by `BaseFront`.
use Rattle.std.proofs.Common.{◌≡◌, ℕ, ◌+◌, ◌≤◌, All, Bool, true, List, [], ◌∷◌, ◌++◌, length, filter, flat_map, sym, ap, subst, ◌∙◌, arith, append-nil, length-append}
use Rattle.std.specs.Cmp.Lexicographic.{slice_cmp}
use Rattle.std.specs.List.{list_all}
use Rattle.std.specs.List.Sorted.{IsSortedBy}
use Rattle.std.specs.Ordering.{is_lt, nat_cmp}
use Rattle.std.proofs.lemmas.Bool.{and_parts}
use Rattle.std.proofs.lemmas.List.{get_or_append_left}
use Rattle.std.proofs.lemmas.List.Concat.{flat_map-append}
use Rattle.std.proofs.lemmas.List.Elements.{All-cons, All-head, All-nil, All-tail, filter-append}
use Rattle.std.proofs.lemmas.List.Folds.{list_all-append}
use Rattle.permit_book.specs.declared.granted_permit.GrantedPermit.{GrantedPermit}
use Rattle.permit_book.specs.Outstanding.{is_numbered}
use Rattle.authority_cache.specs.declared.standing_answer.StandingAnswer.{StandingAnswer}
use Rattle.authority_cache.specs.declared.turn.Turn.{Turn}
use Rattle.authority_cache.specs.Lists.{has_number, is_answer_for, is_turn_of}
use Rattle.gate_history.specs.declared.base.SlotGrant.{SlotGrant}
use Rattle.gate_history.specs.Base.{ArePermits, AreTurns, Base, is_of_turn, times_out, times_turned}
use Rattle.gate_history.specs.Grants.{IsSlotGrant, is_covered, is_in}
use Rattle.gate_history.specs.Order.{IsInOrder}
use Rattle.history_text.specs.BaseFields.{HasBaseFields, IsAnswerRow, IsGrantRow, IsPermitRow, IsTurnRow}
use Rattle.history_text.specs.Texts.{IsTextBase}
use Rattle.crawl_audit.specs.OpenRows.{OpenRow}
use Rattle.crawl_audit.proofs.RowKinds.{FromKind, answers_at, based_on, grants_at, grants_before, running_at, turns_at, unspent_at}

-- ---- fronts of lists

-- one list is a prefix of the other
record IsFrontOf {X : Type 0} (front whole : List X) : Type 0 where
  rest : List X
  is : whole ≡ front ++ rest

all_front : {X : Type 0} (P : X → Type 0) (front rest : List X) → All P (front ++ rest) → All P front
all_front P [] rest all = All-nil P
all_front P (x ∷ front) rest all = All-cons P x front (All-head P x (front ++ rest) all) (all_front P front rest (All-tail P x (front ++ rest) all))

module _ {X : Type 0} (front whole : List X) (is : IsFrontOf front whole) where
  all_of : (P : X → Type 0) → All P whole → All P front
  all_of P all = all_front P front is.rest (subst (All P) is.is all)

  fewer : (p : X → Bool) → length (filter p front) ≤ length (filter p whole)
  fewer p =
      let more = ap (λ l. length (filter p l)) is.is ∙ ap length (filter-append p front is.rest) ∙ length-append (filter p front) (filter p is.rest) in
      omega arith

  tested : (p : X → Bool) → list_all p whole ≡ true → list_all p front ≡ true
  tested p all = let parts = and_parts (list_all p front) (list_all p is.rest) (sym (list_all-append p front is.rest) ∙ ap (list_all p) (sym is.is) ∙ all) in parts.0

  sorted : (lt : X → X → Bool) → IsSortedBy lt whole → IsSortedBy lt front
  sorted lt up k d from within =
      let up' = subst (IsSortedBy lt) is.is up in
      let long = length-append front is.rest in
      let later = get_or_append_left front is.rest d (k + 1) (omega arith) in
      let here = get_or_append_left front is.rest d k (omega arith) in
      (λ i. lt (sym later i) (sym here i)) ∙ up' k d from (omega arith)

-- ---- the orders of rows of a kind

abbrev pub answer_before : StandingAnswer → StandingAnswer → Bool
answer_before one other = is_lt (slice_cmp nat_cmp one.authority other.authority)

abbrev pub turn_before : Turn → Turn → Bool
turn_before one other = is_lt (nat_cmp one.turn other.turn)

abbrev pub permit_before : GrantedPermit → GrantedPermit → Bool
permit_before one other = is_lt (nat_cmp one.number other.number)

abbrev pub grant_before : SlotGrant → SlotGrant → Bool
grant_before one other = is_lt (nat_cmp one.slot other.slot)

-- ---- fronts of rows

module _ (b : Base) (xs ys : List OpenRow) (kinds : FromKind 0 (xs ++ ys)) where
  part : {X : Type 0} (g : OpenRow → List X) → IsFrontOf (flat_map g xs) (flat_map g (xs ++ ys))
  part g = record { rest = flat_map g ys; is = flat_map-append g xs ys }

  abbrev cut : Base
  cut = based_on b xs

  abbrev whole : Base
  whole = based_on b (xs ++ ys)

  fields_cut : HasBaseFields whole → HasBaseFields cut
  fields_cut f = record {
    standing = all_of cut.standing whole.standing (part answers_at) IsAnswerRow f.standing;
    in_flight = all_of cut.in_flight whole.in_flight (part turns_at) IsTurnRow f.in_flight;
    grants = all_of cut.grants whole.grants (part grants_at) IsGrantRow f.grants;
    unspent = all_of cut.unspent whole.unspent (part unspent_at) IsPermitRow f.unspent;
    running = all_of cut.running whole.running (part running_at) IsPermitRow f.running;
    numbers = record { entries = f.numbers.entries; started = f.numbers.started; begins = f.numbers.begins; moment = f.numbers.moment };
  }

  fewer_out : (number : ℕ) → times_out cut.unspent cut.running number ≤ times_out whole.unspent whole.running number
  fewer_out number =
      let us = fewer cut.unspent whole.unspent (part unspent_at) (is_numbered number) in
      let ys = fewer cut.running whole.running (part running_at) (is_numbered number) in
      omega arith

  fewer_turned : (turn : ℕ) → times_turned cut.standing cut.in_flight turn ≤ times_turned whole.standing whole.in_flight turn
  fewer_turned turn =
      let hs = fewer cut.standing whole.standing (part answers_at) (is_of_turn turn) in
      let is = fewer cut.in_flight whole.in_flight (part turns_at) (has_number turn) in
      omega arith

  permits_cut : ArePermits whole.unspent whole.running whole.grants → ArePermits cut.unspent cut.running cut.grants
  permits_cut p = record {
    numbers_once = λ number. (let once = p.numbers_once number in let few = fewer_out number in omega arith);
    numbers_granted = λ number some.
        (let none = grants_before 0 xs ys number kinds some in
        let few = fewer_out number in
        let same : whole.grants ≡ cut.grants = flat_map-append grants_at xs ys ∙ ap (λ l. flat_map grants_at xs ++ l) none ∙ append-nil (flat_map grants_at xs) in
        ap (λ l. is_covered l number) (sym same) ∙ p.numbers_granted number (omega arith));
    slots_once = λ slot. (let once = p.slots_once slot in let few = fewer cut.grants whole.grants (part grants_at) (is_in slot) in omega arith);
  }

  turns_cut : AreTurns whole.standing whole.in_flight whole.begins whole.moment → AreTurns cut.standing cut.in_flight cut.begins cut.moment
  turns_cut t = record {
    flights_once = λ a. (let once = t.flights_once a in let few = fewer cut.in_flight whole.in_flight (part turns_at) (is_turn_of a) in omega arith);
    answers_once = λ a. (let once = t.answers_once a in let few = fewer cut.standing whole.standing (part answers_at) (is_answer_for a) in omega arith);
    turns_once = λ n. (let once = t.turns_once n in let few = fewer_turned n in omega arith);
    turns_begun = λ n some. (let few = fewer_turned n in t.turns_begun n (omega arith));
    flights_begun = tested cut.in_flight whole.in_flight (part turns_at) _ t.flights_begun;
    answers_begun = tested cut.standing whole.standing (part answers_at) _ t.answers_begun;
    lives = tested cut.standing whole.standing (part answers_at) _ t.lives;
  }

  order_cut : IsInOrder whole → IsInOrder cut
  order_cut o = record {
    answers = sorted cut.standing whole.standing (part answers_at) answer_before o.answers;
    turns = sorted cut.in_flight whole.in_flight (part turns_at) turn_before o.turns;
    permits = sorted cut.unspent whole.unspent (part unspent_at) permit_before o.permits;
    runs = sorted cut.running whole.running (part running_at) permit_before o.runs;
    grants = sorted cut.grants whole.grants (part grants_at) grant_before o.grants;
  }

  pub text_base_cut : IsTextBase whole → IsTextBase cut
  text_base_cut is =
      let base = is.base in
      record {
        fields = fields_cut is.fields;
        slots = all_of cut.grants whole.grants (part grants_at) IsSlotGrant is.slots;
        base = record { permits = permits_cut base.permits; turns = turns_cut base.turns; counts = base.counts };
        order = order_cut is.order;
        some = is.some;
      }
