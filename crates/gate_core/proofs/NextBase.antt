-- A base made of a book's tables says what its history does.
-- Used by `Book::next_base` and `Book::seal`.
use Rattle.std.proofs.Common.{◌≡◌, ℕ, ◌<◌, ◌≤◌, All, Bool, true, false, true≢false, cond, List, [], ◌∷◌, length, filter, inl, inr, refl, sym, ap, ◌∙◌, arith, eqb-true}
use Rattle.std.specs.Prelude.{◌&&◌, nat_le, nat_lt}
use Rattle.std.specs.List.{list_all}
use Rattle.std.proofs.lemmas.Bool.{and_parts, ltb-true}
use Rattle.std.proofs.lemmas.Bool.Decides.{eqb_tells, leb_tells}
use Rattle.std.proofs.lemmas.List.{get_or_past}
use Rattle.std.proofs.lemmas.List.Elements.{All-cons, All-nil}
use Rattle.authority_cache.specs.Lists.{ListsAnswers, ListsTurns}
use Rattle.permit_book.specs.Numbers.{last_generation}
use Rattle.permit_book.specs.Outstanding.{ListsRunning, ListsUnspent}
use Rattle.permit_book.specs.Table.{last_in, unused}
use Rattle.gate_history.specs.declared.base.SlotGrant.{SlotGrant}
use Rattle.gate_history.specs.Base.{Base}
use Rattle.gate_history.specs.Grants.{generation_in, greatest_of, is_in, IsSlotGrant}
use Rattle.gate_history.specs.History.{entry_count, from}
use Rattle.gate_history.specs.Outstanding.{grants, running, unspent}
use Rattle.gate_history.specs.Seal.{SaySame, SaysAs}
use Rattle.gate_history.specs.Standing.{in_flight, standing}
use Rattle.gate_history.proofs.CallerLemmas.{covered_alike, granted_covered, greatest_alike, greatest_is, keys_say, says-all, stands_once}
use Rattle.gate_core.specs.declared.book.Book.TheInside.{Inside}
use Rattle.gate_core.specs.declared.config.Limits.{Limits}
use Rattle.gate_core.specs.Kept.{IsKept, is_grant_of}
use Rattle.gate_core.specs.Sealing.{ListsGrants, grants_at}
use Rattle.gate_core.proofs.Keeping.{told}
use Rattle.gate_core.proofs.ListedGrants.{none_at, some_at}

none_greatest : (limits : Limits) (slot : ℕ) (xs : List SlotGrant) → length (filter (is_in slot) xs) ≡ 0 → greatest_of xs slot ≡ 0
none_greatest limits slot [] none = refl
none_greatest limits slot (x ∷ xs) none = by (is_in slot x) refl (none_greatest limits slot xs) none
  where
    by : (t : Bool) → is_in slot x ≡ t → (length (filter (is_in slot) xs) ≡ 0 → greatest_of xs slot ≡ 0) →
        length (cond t (x ∷ filter (is_in slot) xs) (filter (is_in slot) xs)) ≡ 0 → greatest_of (x ∷ xs) slot ≡ 0
    by true is rest none = absurd (omega (arith, none))
    by false is rest none = let here : generation_in slot x ≡ 0 = rw is refl in omega (arith, here, rest none)

no_elements : {X : Type 0} (xs : List X) → length xs ≡ 0 → xs ≡ []
no_elements [] none = refl
no_elements (x ∷ xs) none = absurd (omega (arith, none))

listed_once : (limits : Limits) (slot : ℕ) (xs : List SlotGrant) → list_all (is_grant_of limits) xs ≡ true → length (filter (is_in slot) xs) ≤ 1 →
    filter (is_in slot) xs ≡ grants_at slot (greatest_of xs slot)
listed_once limits slot [] all once = refl
listed_once limits slot (x ∷ xs) all once =
    let parts = and_parts (is_grant_of limits x) (list_all (is_grant_of limits) xs) all in
    let own = and_parts (nat_lt 0 x.generation) (nat_le x.generation last_generation) (and_parts (nat_lt x.slot limits.slots) (nat_lt 0 x.generation && nat_le x.generation last_generation) parts.0).1 in
    by (is_in slot x) refl (ltb-true 0 x.generation own.0) (listed_once limits slot xs parts.1) once
  where
    by : (t : Bool) → is_in slot x ≡ t → 0 < x.generation → (length (filter (is_in slot) xs) ≤ 1 → filter (is_in slot) xs ≡ grants_at slot (greatest_of xs slot)) →
        length (cond t (x ∷ filter (is_in slot) xs) (filter (is_in slot) xs)) ≤ 1 →
        cond t (x ∷ filter (is_in slot) xs) (filter (is_in slot) xs) ≡ grants_at slot (greatest_of (x ∷ xs) slot)
    by true is some rest once =
        let none : length (filter (is_in slot) xs) ≡ 0 = omega (arith, once) in
        let here : generation_in slot x ≡ x.generation = rw is refl in
        let greatest : greatest_of (x ∷ xs) slot ≡ x.generation = omega (arith, here, none_greatest limits slot xs none) in
        let same : x.slot ≡ slot = eqb-true x.slot slot is in
        ap (λ gs. x ∷ gs) (no_elements (filter (is_in slot) xs) none)
        ∙ ((λ i. record { slot = same i; generation = x.generation } ∷ []) ∙ (sym (some_at slot x.generation some) ∙ ap (grants_at slot) (sym greatest)))
    by false is some rest once =
        let here : generation_in slot x ≡ 0 = rw is refl in
        let greatest : greatest_of (x ∷ xs) slot ≡ greatest_of xs slot = omega (arith, here) in
        rest once ∙ ap (grants_at slot) (sym greatest)

not_listed : (limits : Limits) (slot : ℕ) (xs : List SlotGrant) → list_all (is_grant_of limits) xs ≡ true → limits.slots ≤ slot → filter (is_in slot) xs ≡ []
not_listed limits slot [] all past = refl
not_listed limits slot (x ∷ xs) all past =
    let parts = and_parts (is_grant_of limits x) (list_all (is_grant_of limits) xs) all in
    let within = ltb-true x.slot limits.slots (and_parts (nat_lt x.slot limits.slots) (nat_lt 0 x.generation && nat_le x.generation last_generation) parts.0).0 in
    elim (eqb_tells x.slot slot) [
      | inl e ↦ absurd (omega (arith, within, past, e.1))
      | inr d ↦ rw d.0 (not_listed limits slot xs parts.1 past)
    ]

module _ (b : Inside) (kept : IsKept b) where
  grants_told : (slot : ℕ) → filter (is_in slot) (grants (told b)) ≡ grants_at slot (last_in b.permits slot)
  grants_told slot = elim (leb_tells (length b.permits.slots) slot) [
    | inl past ↦ not_listed b.limits slot (grants (told b)) kept.grants (omega (arith, kept.slots, past.1))
        ∙ sym (none_at slot (last_in b.permits slot) (omega (arith, ap (λ s. s.last) (get_or_past b.permits.slots slot unused past.1))))
    | inr low ↦ listed_once b.limits slot (grants (told b)) kept.grants ((stands_once (told b) kept.legal).permits.slots_once slot)
        ∙ ap (grants_at slot) (greatest_is (told b) slot ∙ sym (kept.permits.last slot (omega (arith, low.1))))
  ]

  pub given_says : (given : Base) → ListsAnswers b.cache given.standing → ListsTurns b.cache given.in_flight → ListsUnspent b.permits given.unspent →
      ListsRunning b.permits given.running → ListsGrants b.permits given.grants → given.begins ≡ b.begins → given.moment ≡ b.clock →
      given.entries ≡ entry_count (told b) → given.started ≡ b.starts → SaysAs (from given) (told b)
  given_says given answers turns permits runs slots begun moment entries started = record {
    answers = keys_say.answers given.standing (standing (told b)) (λ a. answers a ∙ sym (kept.cache.answers_are a));
    turns = keys_say.turns given.in_flight (in_flight (told b)) (λ a. turns a ∙ sym (kept.cache.turns_are a));
    permits = keys_say.permits given.unspent (unspent (told b)) (λ n. permits n ∙ sym (kept.permits.unspent_under n));
    runs = keys_say.permits given.running (running (told b)) (λ n. runs n ∙ sym (kept.permits.running_under n));
    slots = same;
    greatest = λ slot. greatest_alike given.grants (grants (told b)) same slot ∙ greatest_is (told b) slot;
    granted = λ n is. covered_alike given.grants (grants (told b)) same n ∙ granted_covered (told b) n is;
    begun = begun ∙ kept.begins;
    moment = moment ∙ kept.clock;
    entries = entries;
    started = started ∙ kept.starts;
  }
    where
      same : SaySame is_in given.grants (grants (told b))
      same = keys_say.grants given.grants (grants (told b)) (λ slot. slots slot ∙ sym (grants_told slot))

pub grants_fit : (b : Inside) → IsKept b → (base : Base) → SaysAs (from base) (told b) → All IsSlotGrant base.grants
grants_fit b kept base says = fit base.grants (says-all is_in base.grants (grants (told b)) says.slots (is_grant_of b.limits) kept.grants)
  where
    one : (g : SlotGrant) → is_grant_of b.limits g ≡ true → IsSlotGrant g
    one g is =
        let parts = and_parts (nat_lt g.slot b.limits.slots) (nat_lt 0 g.generation && nat_le g.generation last_generation) is in
        let later = and_parts (nat_lt 0 g.generation) (nat_le g.generation last_generation) parts.1 in
        let few = kept.limits.slots in
        (let low = ltb-true g.slot b.limits.slots parts.0 in omega arith, elim (leb_tells g.generation last_generation) [ inl e ↦ e.1 | inr d ↦ absurd (true≢false (sym later.1 ∙ d.0)) ])

    fit : (gs : List SlotGrant) → list_all (is_grant_of b.limits) gs ≡ true → All IsSlotGrant gs
    fit [] all = All-nil IsSlotGrant
    fit (g ∷ gs) all =
        let parts = and_parts (is_grant_of b.limits g) (list_all (is_grant_of b.limits) gs) all in
        All-cons IsSlotGrant g gs (one g parts.0) (fit gs parts.1)
