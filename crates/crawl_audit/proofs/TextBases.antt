-- A base that a text can have, with one row more.
-- Used by `StandingRows`.
use Rattle.std.proofs.Common.{◌≡◌, ℕ, ◌<◌, ◌≤◌, ◌==◌, ◌^◌, All, Bool, true, false, List, [], ◌∷◌, ◌++◌, inl, inr, length, filter, refl, sym, ap, subst, ◌∙◌, true≢false, arith}
use Rattle.std.specs.Prelude.{nat_le}
use Rattle.std.specs.Cmp.{IsStrictWeakOrder}
use Rattle.std.proofs.lemmas.Bool.Decides.{eqb_tells}
use Rattle.std.proofs.lemmas.Cmp.{nat_cmp_total, nat_list_cmp_total}
use Rattle.std.proofs.lemmas.List.Elements.{All-push}
use Rattle.std.proofs.lemmas.List.Sorted.{ranks_by}
use Rattle.std.proofs.lemmas.Slice.Eq.{bytes_eq-Decides}
use Rattle.permit_book.specs.declared.granted_permit.GrantedPermit.{GrantedPermit}
use Rattle.permit_book.specs.Outstanding.{is_numbered}
use Rattle.authority_cache.specs.declared.standing_answer.StandingAnswer.{StandingAnswer}
use Rattle.authority_cache.specs.declared.turn.Turn.{Turn}
use Rattle.authority_cache.specs.Calls.{one_if}
use Rattle.authority_cache.specs.Lists.{has_number, is_answer_for, is_turn_of}
use Rattle.authority_cache.proofs.CallerLemmas.{all-push, count-push}
use Rattle.gate_history.specs.declared.base.SlotGrant.{SlotGrant}
use Rattle.gate_history.specs.Base.{Base, has_its_life, is_of_turn, times_out, times_turned}
use Rattle.gate_history.specs.Grants.{IsSlotGrant, is_covered, is_in}
use Rattle.history_text.specs.BaseFields.{HasNumbers, IsAnswerRow, IsGrantRow, IsPermitRow, IsTurnRow}
use Rattle.history_text.specs.Texts.{IsTextBase}
use Rattle.crawl_audit.specs.OpenRows.{Answered, InFlight, Greatest, Unspent, Running, IsOpenRow, with_row}
use Rattle.gate_history.proofs.CallerLemmas.{irreflexive}
use Rattle.crawl_audit.proofs.RowFronts.{answer_before, grant_before, permit_before, turn_before}
use Rattle.crawl_audit.proofs.RowOrder.{none_like, once_push, push_sorted}

-- ---- the orders of rows of a kind

pub answers_ordered : IsStrictWeakOrder answer_before
answers_ordered = ranks_by nat_list_cmp_total (λ (s : StandingAnswer). s.authority)

pub turns_ordered : IsStrictWeakOrder turn_before
turns_ordered = ranks_by nat_cmp_total (λ (t : Turn). t.turn)

pub permits_ordered : IsStrictWeakOrder permit_before
permits_ordered = ranks_by nat_cmp_total (λ (p : GrantedPermit). p.number)

pub grants_ordered : IsStrictWeakOrder grant_before
grants_ordered = ranks_by nat_cmp_total (λ (g : SlotGrant). g.slot)

number_is : (n m : ℕ) → (n == m) ≡ true → n ≡ m
number_is n m is = elim (eqb_tells n m) [ inl e ↦ e.1 | inr d ↦ absurd (true≢false (sym is ∙ d.0)) ]

same_answer : (a : List ℕ) (x y : StandingAnswer) → is_answer_for a x ≡ true → is_answer_for a y ≡ true → answer_before x y ≡ false
same_answer a x y is own =
    let e = (bytes_eq-Decides x.authority a).0 is in
    let f = (bytes_eq-Decides y.authority a).0 own in
    ap (λ k. answer_before (record x { authority = k }) y) (e ∙ sym f) ∙ irreflexive answer_before answers_ordered y

same_permit : (n : ℕ) (x y : GrantedPermit) → is_numbered n x ≡ true → is_numbered n y ≡ true → permit_before x y ≡ false
same_permit n x y is own =
    ap (λ k. permit_before (record x { number = k }) y) (number_is x.number n is ∙ sym (number_is y.number n own)) ∙ irreflexive permit_before permits_ordered y

same_grant : (n : ℕ) (x y : SlotGrant) → is_in n x ≡ true → is_in n y ≡ true → grant_before x y ≡ false
same_grant n x y is own =
    ap (λ k. grant_before (record x { slot = k }) y) (number_is x.slot n is ∙ sym (number_is y.slot n own)) ∙ irreflexive grant_before grants_ordered y

pub no_permit : (y : GrantedPermit) (xs : List GrantedPermit) → All (λ x. permit_before x y ≡ true) xs → (n : ℕ) → is_numbered n y ≡ true → filter (is_numbered n) xs ≡ []
no_permit y xs less n own = none_like permit_before permits_ordered (is_numbered n) y (λ x is. same_permit n x y is own) xs less

pub no_answer_for : (y : StandingAnswer) (xs : List StandingAnswer) → All (λ x. answer_before x y ≡ true) xs → (a : List ℕ) → is_answer_for a y ≡ true → filter (is_answer_for a) xs ≡ []
no_answer_for y xs less a own = none_like answer_before answers_ordered (is_answer_for a) y (λ x is. same_answer a x y is own) xs less

pub no_grant_in : (y : SlotGrant) (xs : List SlotGrant) → All (λ x. grant_before x y ≡ true) xs → (n : ℕ) → is_in n y ≡ true → filter (is_in n) xs ≡ []
no_grant_in y xs less n own = none_like grant_before grants_ordered (is_in n) y (λ x is. same_grant n x y is own) xs less

-- ---- one row more

counted_as : (b b' : Base) → b'.entries ≡ b.entries → b'.started ≡ b.started → b'.begins ≡ b.begins → b'.moment ≡ b.moment → HasNumbers b → HasNumbers b'
counted_as b b' e s g m is = record {
  entries = subst (λ n. n < 2 ^ 64) (sym e) is.entries;
  started = subst (λ n. n < 2 ^ 64) (sym s) is.started;
  begins = subst (λ n. n < 2 ^ 64) (sym g) is.begins;
  moment = subst (λ n. n < 2 ^ 64) (sym m) is.moment;
}

module _ (b : Base) (is : IsTextBase b) where
  numbers_kept : (b' : Base) → b'.entries ≡ b.entries → b'.started ≡ b.started → b'.begins ≡ b.begins → b'.moment ≡ b.moment → HasNumbers b'
  numbers_kept b' e s g m = let f = is.fields in counted_as b b' e s g m f.numbers

  -- ---- an answer

  pub with_answer : (s : StandingAnswer) → IsOpenRow (Answered s) → All (λ x. answer_before x s ≡ true) b.standing → times_turned b.standing b.in_flight s.turn ≡ 0 →
      s.turn ≤ b.begins → nat_le s.begun b.moment ≡ true → IsTextBase (with_row b (Answered s))
  with_answer s row less unused begun at =
      let f = is.fields in
      let base = is.base in
      let t = base.turns in
      let o = is.order in
      record {
        fields = record {
          standing = All-push IsAnswerRow b.standing s f.standing row.0;
          in_flight = f.in_flight;
          grants = f.grants;
          unspent = f.unspent;
          running = f.running;
          numbers = numbers_kept (with_row b (Answered s)) refl refl refl refl;
        };
        slots = is.slots;
        base = record {
          permits = base.permits;
          turns = record {
            flights_once = t.flights_once;
            answers_once = once_push is_answer_for b.standing s t.answers_once (no_answer_for s b.standing less);
            turns_once = λ n. turned n (s.turn == n) refl;
            turns_begun = λ n some. known n some (s.turn == n) refl;
            flights_begun = t.flights_begun;
            answers_begun = all-push (λ x. nat_le x.begun b.moment) b.standing s t.answers_begun at;
            lives = all-push has_its_life b.standing s t.lives row.1;
          };
          counts = base.counts;
        };
        order = record {
          answers = push_sorted answer_before answers_ordered b.standing s o.answers less;
          turns = o.turns;
          permits = o.permits;
          runs = o.runs;
          grants = o.grants;
        };
        some = is.some;
      }
    where
      turned : (n : ℕ) (e : Bool) → (s.turn == n) ≡ e → times_turned (b.standing ++ s ∷ []) b.in_flight n ≤ 1
      turned n true same =
          let none = ap (times_turned b.standing b.in_flight) (sym (number_is s.turn n same)) ∙ unused in
          omega (arith, count-push (is_of_turn n) b.standing s, ap one_if same)
      turned n false apart = let base = is.base in let t = base.turns in let once = t.turns_once n in omega (arith, count-push (is_of_turn n) b.standing s, ap one_if apart)

      known : (n : ℕ) → 0 < times_turned (b.standing ++ s ∷ []) b.in_flight n → (e : Bool) → (s.turn == n) ≡ e → n ≤ b.begins
      known n some true same = let e = number_is s.turn n same in omega arith
      known n some false apart = let base = is.base in let t = base.turns in t.turns_begun n (omega (arith, count-push (is_of_turn n) b.standing s, ap one_if apart))

  -- ---- a turn in flight

  pub with_turn : (y : Turn) → IsTurnRow y → All (λ x. turn_before x y ≡ true) b.in_flight → times_turned b.standing b.in_flight y.turn ≡ 0 →
      y.turn ≤ b.begins → nat_le y.begun b.moment ≡ true → filter (is_turn_of y.authority) b.in_flight ≡ [] → IsTextBase (with_row b (InFlight y))
  with_turn y row less unused begun at idle =
      let f = is.fields in
      let base = is.base in
      let t = base.turns in
      let o = is.order in
      record {
        fields = record {
          standing = f.standing;
          in_flight = All-push IsTurnRow b.in_flight y f.in_flight row;
          grants = f.grants;
          unspent = f.unspent;
          running = f.running;
          numbers = numbers_kept (with_row b (InFlight y)) refl refl refl refl;
        };
        slots = is.slots;
        base = record {
          permits = base.permits;
          turns = record {
            flights_once = once_push is_turn_of b.in_flight y t.flights_once (λ a own. ap (λ k. filter (is_turn_of k) b.in_flight) (sym ((bytes_eq-Decides y.authority a).0 own)) ∙ idle);
            answers_once = t.answers_once;
            turns_once = λ n. turned n (y.turn == n) refl;
            turns_begun = λ n some. known n some (y.turn == n) refl;
            flights_begun = all-push (λ x. nat_le x.begun b.moment) b.in_flight y t.flights_begun at;
            answers_begun = t.answers_begun;
            lives = t.lives;
          };
          counts = base.counts;
        };
        order = record {
          answers = o.answers;
          turns = push_sorted turn_before turns_ordered b.in_flight y o.turns less;
          permits = o.permits;
          runs = o.runs;
          grants = o.grants;
        };
        some = is.some;
      }
    where
      turned : (n : ℕ) (e : Bool) → (y.turn == n) ≡ e → times_turned b.standing (b.in_flight ++ y ∷ []) n ≤ 1
      turned n true same =
          let none = ap (times_turned b.standing b.in_flight) (sym (number_is y.turn n same)) ∙ unused in
          omega (arith, count-push (has_number n) b.in_flight y, ap one_if same)
      turned n false apart = let base = is.base in let t = base.turns in let once = t.turns_once n in omega (arith, count-push (has_number n) b.in_flight y, ap one_if apart)

      known : (n : ℕ) → 0 < times_turned b.standing (b.in_flight ++ y ∷ []) n → (e : Bool) → (y.turn == n) ≡ e → n ≤ b.begins
      known n some true same = let e = number_is y.turn n same in omega arith
      known n some false apart = let base = is.base in let t = base.turns in t.turns_begun n (omega (arith, count-push (has_number n) b.in_flight y, ap one_if apart))

  -- ---- the greatest generation of a slot

  pub with_greatest : (g : SlotGrant) → IsOpenRow (Greatest g) → All (λ x. grant_before x g ≡ true) b.grants → b.unspent ≡ [] → b.running ≡ [] → IsTextBase (with_row b (Greatest g))
  with_greatest g row less none none' =
      let f = is.fields in
      let base = is.base in
      let p = base.permits in
      let o = is.order in
      record {
        fields = record {
          standing = f.standing;
          in_flight = f.in_flight;
          grants = All-push IsGrantRow b.grants g f.grants row.0;
          unspent = f.unspent;
          running = f.running;
          numbers = numbers_kept (with_row b (Greatest g)) refl refl refl refl;
        };
        slots = All-push IsSlotGrant b.grants g is.slots row.1;
        base = record {
          permits = record {
            numbers_once = p.numbers_once;
            numbers_granted = λ n some.
                (let us = ap (λ l. length (filter (is_numbered n) l)) none in
                let ys = ap (λ l. length (filter (is_numbered n) l)) none' in
                absurd (omega arith));
            slots_once = once_push is_in b.grants g p.slots_once (no_grant_in g b.grants less);
          };
          turns = base.turns;
          counts = base.counts;
        };
        order = record {
          answers = o.answers;
          turns = o.turns;
          permits = o.permits;
          runs = o.runs;
          grants = push_sorted grant_before grants_ordered b.grants g o.grants less;
        };
        some = is.some;
      }

  -- ---- an outstanding permit

  pub with_unspent : (y : GrantedPermit) → IsPermitRow y → All (λ x. permit_before x y ≡ true) b.unspent → b.running ≡ [] → is_covered b.grants y.number ≡ true → IsTextBase (with_row b (Unspent y))
  with_unspent y row less none covered =
      let f = is.fields in
      let base = is.base in
      let p = base.permits in
      let o = is.order in
      record {
        fields = record {
          standing = f.standing;
          in_flight = f.in_flight;
          grants = f.grants;
          unspent = All-push IsPermitRow b.unspent y f.unspent row;
          running = f.running;
          numbers = numbers_kept (with_row b (Unspent y)) refl refl refl refl;
        };
        slots = is.slots;
        base = record {
          permits = record {
            numbers_once = λ n. once n (y.number == n) refl;
            numbers_granted = λ n some. granted n some (y.number == n) refl;
            slots_once = p.slots_once;
          };
          turns = base.turns;
          counts = base.counts;
        };
        order = record {
          answers = o.answers;
          turns = o.turns;
          permits = push_sorted permit_before permits_ordered b.unspent y o.permits less;
          runs = o.runs;
          grants = o.grants;
        };
        some = is.some;
      }
    where
      once : (n : ℕ) (e : Bool) → (y.number == n) ≡ e → times_out (b.unspent ++ y ∷ []) b.running n ≤ 1
      once n true same =
          let us = ap length (no_permit y b.unspent less n same) in
          let ys = ap (λ l. length (filter (is_numbered n) l)) none in
          omega (arith, count-push (is_numbered n) b.unspent y, ap one_if same)
      once n false apart = let base = is.base in let p = base.permits in let before = p.numbers_once n in omega (arith, count-push (is_numbered n) b.unspent y, ap one_if apart)

      granted : (n : ℕ) → 0 < times_out (b.unspent ++ y ∷ []) b.running n → (e : Bool) → (y.number == n) ≡ e → is_covered b.grants n ≡ true
      granted n some true same = ap (is_covered b.grants) (sym (number_is y.number n same)) ∙ covered
      granted n some false apart = let base = is.base in let p = base.permits in p.numbers_granted n (omega (arith, count-push (is_numbered n) b.unspent y, ap one_if apart))

  pub with_running : (y : GrantedPermit) → IsPermitRow y → All (λ x. permit_before x y ≡ true) b.running → filter (is_numbered y.number) b.unspent ≡ [] → is_covered b.grants y.number ≡ true → IsTextBase (with_row b (Running y))
  with_running y row less none covered =
      let f = is.fields in
      let base = is.base in
      let p = base.permits in
      let o = is.order in
      record {
        fields = record {
          standing = f.standing;
          in_flight = f.in_flight;
          grants = f.grants;
          unspent = f.unspent;
          running = All-push IsPermitRow b.running y f.running row;
          numbers = numbers_kept (with_row b (Running y)) refl refl refl refl;
        };
        slots = is.slots;
        base = record {
          permits = record {
            numbers_once = λ n. once n (y.number == n) refl;
            numbers_granted = λ n some. granted n some (y.number == n) refl;
            slots_once = p.slots_once;
          };
          turns = base.turns;
          counts = base.counts;
        };
        order = record {
          answers = o.answers;
          turns = o.turns;
          permits = o.permits;
          runs = push_sorted permit_before permits_ordered b.running y o.runs less;
          grants = o.grants;
        };
        some = is.some;
      }
    where
      once : (n : ℕ) (e : Bool) → (y.number == n) ≡ e → times_out b.unspent (b.running ++ y ∷ []) n ≤ 1
      once n true same =
          let ys = ap length (no_permit y b.running less n same) in
          let us = ap (λ k. length (filter (is_numbered k) b.unspent)) (sym (number_is y.number n same)) ∙ ap length none in
          omega (arith, count-push (is_numbered n) b.running y, ap one_if same)
      once n false apart = let base = is.base in let p = base.permits in let before = p.numbers_once n in omega (arith, count-push (is_numbered n) b.running y, ap one_if apart)

      granted : (n : ℕ) → 0 < times_out b.unspent (b.running ++ y ∷ []) n → (e : Bool) → (y.number == n) ≡ e → is_covered b.grants n ≡ true
      granted n some true same = ap (is_covered b.grants) (sym (number_is y.number n same)) ∙ covered
      granted n some false apart = let base = is.base in let p = base.permits in p.numbers_granted n (omega (arith, count-push (is_numbered n) b.running y, ap one_if apart))
