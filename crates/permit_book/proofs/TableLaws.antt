-- What a table keeps when one of its slots is written.
-- Used by the proofs of `permits.rt`, `drafts.rt` and `ends.rt`.
use Rattle.std.proofs.Common.{subst, ◌≡◌, ◌≢◌, ℕ, ◌+◌, ◌*◌, ◌<◌, ◌≤◌, ◌==◌, ◌&&◌, Bool, true, false, cond, nat_lt, List, zero, suc, replicate, length, filter, count_by, get_or, set, inl, inr, refl, sym, ◌∙◌, true≢false, arith}
use Rattle.std.proofs.lemmas.Bool.{lt-ltb, ltb-true}
use Rattle.std.proofs.lemmas.Bool.Decides.{eqb_tells, leb_tells}
use Rattle.std.proofs.lemmas.List.{get_or-set_same, get_or-set_other, get_or_past, length-set, length-replicate}
use Rattle.std.proofs.lemmas.List.Sums.{length-filter, count_by-le-length, get_or-le-sum_by, sum_by-set}
use Rattle.permit_book.specs.declared.out.SlotContent.{SlotContent}
use Rattle.permit_book.specs.declared.out.SlotContent.TheVariants.{Nothing, Unspent, Running}
use Rattle.permit_book.specs.declared.out.Slot.{Slot}
use Rattle.permit_book.specs.Numbers.{slot_of, generation_of, most_slots, last_generation}
use Rattle.permit_book.specs.Bits.{bit_of, AreFirst}
use Rattle.permit_book.specs.Table.{Table, unused, vacated, is_unspent, is_running, slot_at, last_in, out_under, decided, is_free, is_nothing, is_unspent_out, is_running_out}
use Rattle.permit_book.specs.Next.{is_free_in}
use Rattle.permit_book.specs.Kept.{IsKept, ShowsFree, Vacates}

pub same_number : (n : ℕ) → (n == n) ≡ true
same_number n = elim (eqb_tells n n) [ inl e ↦ e.0 | inr d ↦ absurd (d.1 refl) ]

and_false : (b : Bool) → (b && false) ≡ false
and_false true = refl
and_false false = refl

-- 1 where a test passes
abbrev pub one_if : Bool → ℕ
one_if passes = cond passes 1 0

-- the table with this slot in this place
abbrev pub with_slot : Table → ℕ → Slot → Table
with_slot t place slot = record { first_generation = t.first_generation; slots = set t.slots place slot }

pub count-set : {X : Type 0} (test : X → Bool) (xs : List X) (i : ℕ) (y d : X) → i < length xs →
    length (filter test (set xs i y)) + one_if (test (get_or xs i d)) ≡ length (filter test xs) + one_if (test y)
count-set test xs i y d within =
    rw (length-filter test (set xs i y), length-filter test xs) (sum_by-set (λ x. one_if (test x)) xs i y d within)

pub count-bound : {X : Type 0} (test : X → Bool) (xs : List X) → length (filter test xs) ≤ length xs
count-bound test xs = rw (length-filter test xs) (count_by-le-length test xs)

pub within_table : (t : Table) (place : ℕ) → is_nothing (slot_at t place).out ≡ false → place < length t.slots
within_table t place some = elim (leb_tells (length t.slots) place) [
  | inl e ↦ (let past : slot_at t place ≡ unused = get_or_past t.slots place unused e.1 in
      let nothing : is_nothing (slot_at t place).out ≡ true = rw past refl in cc)
  | inr d ↦ d.1
]

pub out_there : (t : Table) (number : ℕ) → is_nothing (out_under t number) ≡ false →
    (last_in t (slot_of number) ≡ generation_of number) × (out_under t number ≡ (slot_at t (slot_of number)).out)
    × (slot_of number < length t.slots)
out_there t number some = elim (eqb_tells (last_in t (slot_of number)) (generation_of number)) [
  | inl e ↦ (
      let out : out_under t number ≡ (slot_at t (slot_of number)).out = rw e.0 refl in
      (e.1, out, within_table t (slot_of number) (rw (← out) some))
      )
  | inr d ↦ (let out : out_under t number ≡ Nothing = rw d.0 refl in
      let nothing : is_nothing (out_under t number) ≡ true = rw out refl in cc)
]

ShowsFree-set : (t : Table) (bits bits' : List ℕ) (place : ℕ) (slot : Slot) → ShowsFree bits t → place < length t.slots →
    ((j : ℕ) → j ≢ place → bit_of bits' j ≡ bit_of bits j) → bit_of bits' place ≡ one_if (is_free slot) →
    ShowsFree bits' (with_slot t place slot)
ShowsFree-set t bits bits' place slot shown within others here j = elim (eqb_tells j place) [
  | inl e ↦ rw (e.1, get_or-set_same t.slots place slot unused within, length-set t.slots place slot, is_within) here
  | inr d ↦ rw (get_or-set_other t.slots place j slot unused d.1, length-set t.slots place slot) (others j d.1 ∙ shown j)
]
  where
    is_within : nat_lt place (length t.slots) ≡ true
    is_within = lt-ltb place (length t.slots) within

pub IsKept-set : (t : Table) (bits bits' : List ℕ) (unspent running unspent' running' place : ℕ) (slot : Slot) →
    IsKept t bits unspent running → place < length t.slots →
    ((j : ℕ) → j ≢ place → bit_of bits' j ≡ bit_of bits j) → bit_of bits' place ≡ one_if (is_free slot) → length bits' ≡ length bits →
    unspent' + one_if (is_unspent_out (slot_at t place).out) ≡ unspent + one_if (is_unspent_out slot.out) →
    running' + one_if (is_running_out (slot_at t place).out) ≡ running + one_if (is_running_out slot.out) →
    slot.last ≤ last_generation → IsKept (with_slot t place slot) bits' unspent' running'
IsKept-set t bits bits' unspent running unspent' running' place slot kept within others here room more_unspent more_running low = record {
  within = record {
    some_generation = kept.within.some_generation;
    generations = kept.within.generations;
    slots = rw (length-set t.slots place slot) kept.within.slots;
  };
  free = ShowsFree-set t bits bits' place slot kept.free within others here;
  room = rw (length-set t.slots place slot, room) kept.room;
  unspent_is =
      let counted = count-set (λ s. is_unspent_out s.out) t.slots place slot unused within in
      let was = kept.unspent_is in omega arith;
  running_is =
      let counted = count-set (λ s. is_running_out s.out) t.slots place slot unused within in
      let was = kept.running_is in omega arith;
  lasts = λ j. elim (eqb_tells j place) [
    | inl e ↦ subst (λ (k : ℕ). last_in (with_slot t place slot) k ≤ last_generation) (sym e.1)
        (subst (λ (s : Slot). s.last ≤ last_generation) (sym (get_or-set_same t.slots place slot unused within)) low)
    | inr d ↦ subst (λ (s : Slot). s.last ≤ last_generation) (sym (get_or-set_other t.slots place j slot unused d.1)) (kept.lasts j)
  ];
}

pub unused_at : (n place : ℕ) → get_or (replicate n unused) place unused ≡ unused
unused_at zero place = refl
unused_at (suc n) zero = refl
unused_at (suc n) (suc place) = unused_at n place

pub none_pass : (test : Slot → Bool) → test unused ≡ false → (n : ℕ) → length (filter test (replicate n unused)) ≡ 0
none_pass test fails zero = refl
none_pass test fails (suc n) = rw fails (none_pass test fails n)

pub IsKept-new : (count first : ℕ) (bits : List ℕ) → count ≤ most_slots → 1 ≤ first → first ≤ last_generation →
    AreFirst bits count → count ≤ 64 * length bits →
    IsKept (record { first_generation = first; slots = replicate count unused }) bits 0 0
IsKept-new count first bits few some last bits_are room = record {
  within = record { some_generation = some; generations = last; slots = rw (length-replicate count unused) few };
  free = λ place. rw (length-replicate count unused, unused_at count place, and_true (nat_lt place count)) (bits_are place);
  room = rw (length-replicate count unused) room;
  unspent_is = sym (none_pass (λ slot. is_unspent_out slot.out) refl count);
  running_is = sym (none_pass (λ slot. is_running_out slot.out) refl count);
  lasts = λ slot. subst (λ (s : Slot). s.last ≤ last_generation) (sym (unused_at count slot)) (omega arith);
}
  where
    and_true : (b : Bool) → (b && true) ≡ b
    and_true true = refl
    and_true false = refl

pub free_there : (t : Table) (place : ℕ) → is_free_in t place ≡ true →
    (place < length t.slots) × (is_nothing (slot_at t place).out ≡ true)
free_there t place free = by (nat_lt place (length t.slots)) (is_nothing (slot_at t place).out) refl refl
  where
    by : (a b : Bool) → nat_lt place (length t.slots) ≡ a → is_nothing (slot_at t place).out ≡ b →
        (place < length t.slots) × (is_nothing (slot_at t place).out ≡ true)
    by true true inside nothing = (ltb-true place (length t.slots) inside, nothing)
    by false b inside nothing = absurd (true≢false (sym free ∙ rw inside refl))
    by true false inside nothing = absurd (true≢false (sym free ∙ rw (inside, nothing) refl))

pub nothing_unspent : (out : SlotContent) → is_nothing out ≡ true → is_unspent_out out ≡ false
nothing_unspent Nothing nothing = refl
nothing_unspent (Unspent fetch) nothing = absurd (true≢false (sym nothing))
nothing_unspent (Running fetch) nothing = absurd (true≢false (sym nothing))

pub nothing_running : (out : SlotContent) → is_nothing out ≡ true → is_running_out out ≡ false
nothing_running Nothing nothing = refl
nothing_running (Unspent fetch) nothing = absurd (true≢false (sym nothing))
nothing_running (Running fetch) nothing = absurd (true≢false (sym nothing))

pub unspent_something : (out : SlotContent) → is_unspent_out out ≡ true → (is_nothing out ≡ false) × (is_running_out out ≡ false)
unspent_something (Unspent fetch) unspent = (refl, refl)
unspent_something (Running fetch) unspent = absurd (true≢false (sym unspent))
unspent_something Nothing unspent = absurd (true≢false (sym unspent))

pub running_something : (out : SlotContent) → is_running_out out ≡ true → (is_nothing out ≡ false) × (is_unspent_out out ≡ false)
running_something (Running fetch) running = (refl, refl)
running_something (Unspent fetch) running = absurd (true≢false (sym running))
running_something Nothing running = absurd (true≢false (sym running))

pub IsKept-vacated : (t : Table) (bits bits' : List ℕ) (slots : List Slot) (unspent running unspent' running' place : ℕ) →
    IsKept t bits unspent running → is_nothing (slot_at t place).out ≡ false → Vacates t.slots bits place slots bits' →
    unspent' + one_if (is_unspent_out (slot_at t place).out) ≡ unspent →
    running' + one_if (is_running_out (slot_at t place).out) ≡ running →
    IsKept (record { first_generation = t.first_generation; slots = slots }) bits' unspent' running'
IsKept-vacated t bits bits' slots unspent running unspent' running' place kept some ends less_unspent less_running =
    rw ends.slots (IsKept-set t bits bits' unspent running unspent' running' place (vacated (slot_at t place)) kept
    (within_table t place some) others here ends.room (omega arith) (omega arith) (kept.lasts place))
  where
    others : (j : ℕ) → j ≢ place → bit_of bits' j ≡ bit_of bits j
    others j apart = ends.free j ∙ elim (eqb_tells j place) [ inl e ↦ absurd (apart e.1) | inr d ↦ rw d.0 refl ]

    was_taken : bit_of bits place ≡ 0
    was_taken = kept.free place ∙ rw (some, and_false (nat_lt place (length t.slots))) refl

    now_free : (b : Bool) → is_free (vacated (slot_at t place)) ≡ b → bit_of bits' place ≡ one_if b
    now_free true free = ends.free place ∙ rw (same_number place, free) refl
    now_free false taken = ends.free place ∙ rw (same_number place, taken) was_taken

    here : bit_of bits' place ≡ one_if (is_free (vacated (slot_at t place)))
    here = now_free (is_free (vacated (slot_at t place))) refl

pub counts_one : (t : Table) (test : Slot → Bool) (place : ℕ) → place < length t.slots → test (slot_at t place) ≡ true →
    1 ≤ length (filter test t.slots)
counts_one t test place within passes =
    let part : one_if (test (slot_at t place)) ≤ count_by test t.slots = get_or-le-sum_by (λ slot. one_if (test slot)) t.slots place unused within in
    rw (length-filter test t.slots) (rw passes at part)

pub unspent_there : (t : Table) (number : ℕ) → is_unspent t number ≡ true →
    (is_unspent_out (slot_at t (slot_of number)).out ≡ true) × (is_running_out (slot_at t (slot_of number)).out ≡ false)
    × (is_nothing (slot_at t (slot_of number)).out ≡ false) × (slot_of number < length t.slots)
unspent_there t number unspent =
    let kinds = unspent_something (out_under t number) unspent in
    let there = out_there t number kinds.0 in
    (rw (← there.1) unspent, rw (← there.1) kinds.1, rw (← there.1) kinds.0, there.2)

pub running_there : (t : Table) (number : ℕ) → is_running t number ≡ true →
    (is_unspent_out (slot_at t (slot_of number)).out ≡ false) × (is_running_out (slot_at t (slot_of number)).out ≡ true)
    × (is_nothing (slot_at t (slot_of number)).out ≡ false) × (slot_of number < length t.slots)
running_there t number running =
    let kinds = running_something (out_under t number) running in
    let there = out_there t number kinds.0 in
    (rw (← there.1) kinds.1, rw (← there.1) running, rw (← there.1) kinds.0, there.2)

started_out : (out : SlotContent) → is_unspent_out out ≡ true →
    (is_unspent_out (decided true out) ≡ false) × (is_running_out (decided true out) ≡ true) × (is_nothing (decided true out) ≡ false)
started_out (Unspent fetch) unspent = (refl, refl, refl)
started_out (Running fetch) unspent = absurd (true≢false (sym unspent))
started_out Nothing unspent = absurd (true≢false (sym unspent))

pub IsKept-started : (t : Table) (bits : List ℕ) (unspent running unspent' running' place : ℕ) (slot : Slot) →
    IsKept t bits unspent running → is_unspent_out (slot_at t place).out ≡ true → slot ≡ slot_at t place →
    unspent' + 1 ≡ unspent → running' ≡ running + 1 →
    IsKept (with_slot t place (record { last = slot.last; out = decided true slot.out })) bits unspent' running'
IsKept-started t bits unspent running unspent' running' place slot kept is same less more =
    let was = unspent_something (slot_at t place).out is in
    let now = started_out (slot_at t place).out is in
    let started : Slot = record { last = last_in t place; out = decided true (slot_at t place).out } in
    let here : bit_of bits place ≡ one_if (is_free started) = kept.free place ∙ rw (was.0, now.2, and_false (nat_lt place (length t.slots))) refl in
    rw same (IsKept-set t bits bits unspent running unspent' running' place started kept (within_table t place was.0) (λ j apart. refl) here refl
    (rw (is, now.0) (omega arith)) (rw (was.1, now.1) (omega arith)) (kept.lasts place))

pub IsKept-noted : (t : Table) (bits bits' : List ℕ) (unspent running place last : ℕ) → IsKept t bits unspent running → place < length t.slots →
    is_nothing (slot_at t place).out ≡ true → last ≤ last_generation →
    ((j : ℕ) → j ≢ place → bit_of bits' j ≡ bit_of bits j) → bit_of bits' place ≡ one_if (nat_lt last last_generation) → length bits' ≡ length bits →
    IsKept (with_slot t place (record { last = last; out = (slot_at t place).out })) bits' unspent running
IsKept-noted t bits bits' unspent running place last kept within nothing low others here room =
    IsKept-set t bits bits' unspent running unspent running place (record { last = last; out = (slot_at t place).out }) kept within others
    (rw nothing here) room refl refl low

pub free_before : (t : Table) (bits : List ℕ) (unspent running place last : ℕ) → IsKept t bits unspent running → place < length t.slots →
    is_nothing (slot_at t place).out ≡ true → last_in t place ≤ last → last < last_generation → bit_of bits place ≡ one_if (nat_lt last last_generation)
free_before t bits unspent running place last kept within nothing more low =
    kept.free place ∙ rw (lt-ltb place (length t.slots) within, nothing, lt-ltb (last_in t place) last_generation (omega (arith, more, low)), lt-ltb last last_generation low) refl
