-- How each change of a table changes the lists that agree with it.
-- Used by `changes_tell` of `laws.rt`, and by crates above.
use Rattle.std.proofs.Common.{◌≡◌, ◌≢◌, ℕ, ◌+◌, ◌<◌, ◌≤◌, ◌==◌, Bool, true, false, max, if◌then◌else◌, List, [], ◌∷◌, ◌++◌, replicate, length, filter, set, inl, inr, refl, sym, ap, subst, ◌∙◌, true≢false, arith}
use Rattle.std.proofs.lemmas.Bool.Decides.{eqb_tells}
use Rattle.std.proofs.lemmas.List.{get_or-set_same, get_or-set_other, length-set}
use Rattle.permit_book.specs.declared.out.Fetch.{Fetch}
use Rattle.permit_book.specs.declared.out.SlotContent.{SlotContent}
use Rattle.permit_book.specs.declared.out.SlotContent.TheVariants.{Nothing, Unspent, Running}
use Rattle.permit_book.specs.declared.out.Slot.{Slot}
use Rattle.permit_book.specs.declared.granted_permit.GrantedPermit.{GrantedPermit}
use Rattle.permit_book.specs.Numbers.{slot_of, generation_of}
use Rattle.permit_book.specs.Table.{Table, is_nothing, is_running_out, is_unspent_out, last_in, out_under, slot_at, unused, with_out}
use Rattle.permit_book.specs.Next.{generation_after}
use Rattle.permit_book.specs.Outstanding.{TellsPermits, count_for, granted_in, is_numbered, is_running_for, is_unspent_for, permit_for, running_in, unspent_in, without}
use Rattle.permit_book.specs.Laws.{NewTells, GrantTells, StartTells, ReturnTells, FinishTells}
use Rattle.permit_book.proofs.TableLaws.{one_if, same_number, count-set, free_there, out_there, unspent_something, running_something, unused_at, none_pass}
use Rattle.permit_book.proofs.Filters.{count_for-added, count_for-without, numbered-added, numbered-gone, numbered-new, numbered-without}

other_generation : (m n : ℕ) → slot_of m ≡ slot_of n → m ≢ n → generation_of n ≢ generation_of m
other_generation m n slot apart same = apart (omega arith)

slot_here : (t : Table) (n : ℕ) (out : SlotContent) → slot_of n < length t.slots →
    slot_at (with_out t n out) (slot_of n) ≡ record { last = generation_of n; out = out }
slot_here t n out within = get_or-set_same t.slots (slot_of n) (record { last = generation_of n; out = out }) unused within

slot_elsewhere : (t : Table) (n : ℕ) (out : SlotContent) (place : ℕ) → place ≢ slot_of n → slot_at (with_out t n out) place ≡ slot_at t place
slot_elsewhere t n out place apart = get_or-set_other t.slots (slot_of n) place (record { last = generation_of n; out = out }) unused apart

-- what a slot has outstanding under a number
abbrev held_under : ℕ → Slot → SlotContent
held_under m slot = if slot.last == generation_of m then slot.out else Nothing

pub unequal : {a b : ℕ} → a ≢ b → (a == b) ≡ false
unequal {a} {b} apart = elim (eqb_tells a b) [ inl e ↦ absurd (apart e.1) | inr d ↦ d.0 ]

out_under-with_out : (t : Table) (n : ℕ) (out : SlotContent) → slot_of n < length t.slots →
    ((m : ℕ) → slot_of m ≡ slot_of n → m ≢ n → out_under t m ≡ Nothing) → (m : ℕ) →
    out_under (with_out t n out) m ≡ (if m == n then out else out_under t m)
out_under-with_out t n out within others m = elim (eqb_tells m n) [
  | inl e ↦ rw e.0 (subst (λ k. out_under (with_out t n out) k ≡ out) (sym e.1) here)
  | inr d ↦ rw d.0 (elim (eqb_tells (slot_of m) (slot_of n)) [
    | inl same ↦ (beside same.1 d.1 ∙ sym (others m same.1 d.1))
    | inr far ↦ (ap (held_under m) (slot_elsewhere t n out (slot_of m) far.1))
  ])
]
  where
    here : out_under (with_out t n out) n ≡ out
    here = ap (held_under n) (slot_here t n out within) ∙ rw (same_number (generation_of n)) refl

    beside : slot_of m ≡ slot_of n → m ≢ n → out_under (with_out t n out) m ≡ Nothing
    beside same apart =
        ap (held_under m) (ap (slot_at (with_out t n out)) same ∙ slot_here t n out within)
        ∙ rw (unequal (other_generation m n same apart)) refl

pub nothing_is : (out : SlotContent) → is_nothing out ≡ true → out ≡ Nothing
nothing_is Nothing nothing = refl
nothing_is (Unspent fetch) nothing = absurd (true≢false (sym nothing))
nothing_is (Running fetch) nothing = absurd (true≢false (sym nothing))

pub nothing_under : (t : Table) (m : ℕ) → is_nothing (slot_at t (slot_of m)).out ≡ true → out_under t m ≡ Nothing
nothing_under t m nothing = elim (eqb_tells (last_in t (slot_of m)) (generation_of m)) [
  | inl e ↦ rw e.0 (nothing_is (slot_at t (slot_of m)).out nothing)
  | inr d ↦ rw d.0 refl
]

apart_under : (t : Table) (n m : ℕ) → last_in t (slot_of n) ≡ generation_of n → slot_of m ≡ slot_of n → m ≢ n → out_under t m ≡ Nothing
apart_under t n m last same apart = elim (eqb_tells (last_in t (slot_of m)) (generation_of m)) [
  | inl e ↦ absurd (other_generation m n same apart (sym last ∙ (ap (last_in t) (sym same) ∙ e.1)))
  | inr d ↦ rw d.0 refl
]

-- a list of permits after one number's part changed: that number has this part, the others stay, and each test's
-- count changes by it
pub record Changes (old new : List GrantedPermit) (number : ℕ) (part : List GrantedPermit) (less more : (Fetch → Bool) → ℕ) : Type 0 where
  pub own : filter (is_numbered number) new ≡ part
  pub others : (m : ℕ) → m ≢ number → filter (is_numbered m) new ≡ filter (is_numbered m) old
  pub counted : (test : Fetch → Bool) → count_for test new + less test ≡ count_for test old + more test

pub step : (t : Table) (unspent running unspent' running' : List GrantedPermit) (greatest greatest' : ℕ → ℕ) (n : ℕ) (old out : SlotContent) →
    TellsPermits t unspent running greatest → slot_of n < length t.slots → (slot_at t (slot_of n)).out ≡ old →
    ((m : ℕ) → slot_of m ≡ slot_of n → m ≢ n → out_under t m ≡ Nothing) →
    Changes unspent unspent' n (unspent_in n out) (λ test. one_if (is_unspent_for test old)) (λ test. one_if (is_unspent_for test out)) →
    Changes running running' n (running_in n out) (λ test. one_if (is_running_for test old)) (λ test. one_if (is_running_for test out)) →
    ((slot : ℕ) → slot < length t.slots → slot ≢ slot_of n → greatest' slot ≡ greatest slot) → greatest' (slot_of n) ≡ generation_of n →
    TellsPermits (with_out t n out) unspent' running' greatest'
step t unspent running unspent' running' greatest greatest' n old out tells within held others opened started far near = record {
  within = record {
    some_generation = tells.within.some_generation;
    generations = tells.within.generations;
    slots = rw (length-set t.slots (slot_of n) written) tells.within.slots;
  };
  last = λ slot inside. elim (eqb_tells slot (slot_of n)) [
    | inl e ↦ (ap (last_in (with_out t n out)) e.1 ∙ (ap (λ s. s.last) (slot_here t n out within) ∙ (sym near ∙ ap greatest' (sym e.1))))
    | inr d ↦ (let old : slot < length t.slots = rw (← length-set t.slots (slot_of n) written) inside in
        ap (λ s. s.last) (slot_elsewhere t n out slot d.1) ∙ (tells.last slot old ∙ sym (far slot old d.1)))
  ];
  unspent_under = λ m. rw (out_under-with_out t n out within others m) (elim (eqb_tells m n) [
    | inl e ↦ rw (e.0, e.1) opened.own
    | inr d ↦ rw d.0 (opened.others m d.1 ∙ tells.unspent_under m)
  ]);
  running_under = λ m. rw (out_under-with_out t n out within others m) (elim (eqb_tells m n) [
    | inl e ↦ rw (e.0, e.1) started.own
    | inr d ↦ rw d.0 (started.others m d.1 ∙ tells.running_under m)
  ]);
  unspent_for = λ test.
      let counted = subst (λ o. length (filter (λ slot. is_unspent_for test slot.out) (set t.slots (slot_of n) written)) + one_if (is_unspent_for test o)
      ≡ length (filter (λ slot. is_unspent_for test slot.out) t.slots) + one_if (is_unspent_for test out)) held
      (count-set (λ slot. is_unspent_for test slot.out) t.slots (slot_of n) written unused within) in
      let was = tells.unspent_for test in let change = opened.counted test in omega arith;
  running_for = λ test.
      let counted = subst (λ o. length (filter (λ slot. is_running_for test slot.out) (set t.slots (slot_of n) written)) + one_if (is_running_for test o)
      ≡ length (filter (λ slot. is_running_for test slot.out) t.slots) + one_if (is_running_for test out)) held
      (count-set (λ slot. is_running_for test slot.out) t.slots (slot_of n) written unused within) in
      let was = tells.running_for test in let change = started.counted test in omega arith;
}
  where
    written : Slot
    written = record { last = generation_of n; out = out }

Changes-added : (permits : List GrantedPermit) (n : ℕ) (fetch : Fetch) → filter (is_numbered n) permits ≡ [] →
    Changes permits (permits ++ permit_for n fetch ∷ []) n (permit_for n fetch ∷ []) (λ _. 0) (λ test. one_if (test fetch))
Changes-added permits n fetch none = record {
  own = numbered-new permits (permit_for n fetch) none;
  others = λ m apart. numbered-added permits (permit_for n fetch) m apart;
  counted = λ test. let more = count_for-added test permits (permit_for n fetch) in omega arith;
}

Changes-without : (permits : List GrantedPermit) (n : ℕ) (fetch : Fetch) → filter (is_numbered n) permits ≡ permit_for n fetch ∷ [] →
    Changes permits (without n permits) n [] (λ test. one_if (test fetch)) (λ _. 0)
Changes-without permits n fetch is = record {
  own = numbered-gone permits n;
  others = λ m apart. numbered-without permits n m apart;
  counted = λ test. let less = count_for-without test permits (permit_for n fetch) is in omega arith;
}

pub Changes-nothing : (permits : List GrantedPermit) (n : ℕ) (part : List GrantedPermit) → filter (is_numbered n) permits ≡ part →
    Changes permits permits n part (λ _. 0) (λ _. 0)
Changes-nothing permits n part is = record { own = is; others = λ m apart. refl; counted = λ test. refl }

unspent_fetch : (out : SlotContent) → is_unspent_out out ≡ true → (fetch : Fetch) × (out ≡ Unspent fetch)
unspent_fetch (Unspent fetch) is = (fetch, refl)
unspent_fetch (Running fetch) is = absurd (true≢false (sym is))
unspent_fetch Nothing is = absurd (true≢false (sym is))

running_fetch : (out : SlotContent) → is_running_out out ≡ true → (fetch : Fetch) × (out ≡ Running fetch)
running_fetch (Running fetch) is = (fetch, refl)
running_fetch (Unspent fetch) is = absurd (true≢false (sym is))
running_fetch Nothing is = absurd (true≢false (sym is))

granted_far : (n : ℕ) (greatest : ℕ → ℕ) (slot : ℕ) → slot ≢ slot_of n → max (granted_in n slot) (greatest slot) ≡ greatest slot
granted_far n greatest slot apart = rw (unequal (λ same. apart (sym same))) (omega arith)

granted_near : (n first : ℕ) (greatest : ℕ → ℕ) → generation_of n ≡ generation_after first (greatest (slot_of n)) →
    max (granted_in n (slot_of n)) (greatest (slot_of n)) ≡ generation_of n
granted_near n first greatest next =
    let above : greatest (slot_of n) ≤ generation_of n = elim (eqb_tells (greatest (slot_of n)) 0) [
      | inl e ↦ (let none : greatest (slot_of n) ≡ 0 = e.1 in omega arith)
      | inr d ↦ (let after : generation_of n ≡ greatest (slot_of n) + 1 = next ∙ rw d.0 refl in omega arith)
    ] in
    rw (same_number (slot_of n)) (omega arith)

pub granted : GrantTells
granted t unspent running greatest n fetch tells next =
    let there = free_there t (slot_of n) next.free in
    let nothing : (slot_at t (slot_of n)).out ≡ Nothing = nothing_is (slot_at t (slot_of n)).out there.1 in
    let none : (m : ℕ) → slot_of m ≡ slot_of n → out_under t m ≡ Nothing = λ m same. nothing_under t m (rw same there.1) in
    step t unspent running (unspent ++ permit_for n fetch ∷ []) running greatest _ n Nothing (Unspent fetch) tells there.0 nothing
    (λ m same apart. none m same)
    (Changes-added unspent n fetch (tells.unspent_under n ∙ ap (unspent_in n) (none n refl)))
    (Changes-nothing running n [] (tells.running_under n ∙ ap (running_in n) (none n refl)))
    (λ slot inside apart. granted_far n greatest slot apart)
    (granted_near n t.first_generation greatest (next.generation ∙ ap (generation_after t.first_generation) (tells.last (slot_of n) there.0)))

pub started : StartTells
started t unspent running greatest n tells is =
    let there = out_there t n (unspent_something (out_under t n) is).0 in
    let fetch = unspent_fetch (out_under t n) is in
    let listed : filter (is_numbered n) unspent ≡ permit_for n fetch.0 ∷ [] = tells.unspent_under n ∙ ap (unspent_in n) fetch.1 in
    let unlisted : filter (is_numbered n) running ≡ [] = tells.running_under n ∙ ap (running_in n) fetch.1 in
    rw (fetch.1, listed) (step t unspent running (without n unspent) (running ++ permit_for n fetch.0 ∷ []) greatest greatest n (Unspent fetch.0) (Running fetch.0) tells
    there.2 (sym there.1 ∙ fetch.1) (λ m same apart. apart_under t n m there.0 same apart)
    (Changes-without unspent n fetch.0 listed) (Changes-added running n fetch.0 unlisted)
    (λ slot inside apart. refl) (sym (tells.last (slot_of n) there.2) ∙ there.0))

pub returned : ReturnTells
returned t unspent running greatest n tells is =
    let there = out_there t n (unspent_something (out_under t n) is).0 in
    let fetch = unspent_fetch (out_under t n) is in
    let listed : filter (is_numbered n) unspent ≡ permit_for n fetch.0 ∷ [] = tells.unspent_under n ∙ ap (unspent_in n) fetch.1 in
    let unlisted : filter (is_numbered n) running ≡ [] = tells.running_under n ∙ ap (running_in n) fetch.1 in
    step t unspent running (without n unspent) running greatest greatest n (Unspent fetch.0) Nothing tells
    there.2 (sym there.1 ∙ fetch.1) (λ m same apart. apart_under t n m there.0 same apart)
    (Changes-without unspent n fetch.0 listed) (Changes-nothing running n [] unlisted)
    (λ slot inside apart. refl) (sym (tells.last (slot_of n) there.2) ∙ there.0)

pub finished : FinishTells
finished t unspent running greatest n tells is =
    let there = out_there t n (running_something (out_under t n) is).0 in
    let fetch = running_fetch (out_under t n) is in
    let listed : filter (is_numbered n) running ≡ permit_for n fetch.0 ∷ [] = tells.running_under n ∙ ap (running_in n) fetch.1 in
    let unlisted : filter (is_numbered n) unspent ≡ [] = tells.unspent_under n ∙ ap (unspent_in n) fetch.1 in
    step t unspent running unspent (without n running) greatest greatest n (Running fetch.0) Nothing tells
    there.2 (sym there.1 ∙ fetch.1) (λ m same apart. apart_under t n m there.0 same apart)
    (Changes-nothing unspent n [] unlisted) (Changes-without running n fetch.0 listed)
    (λ slot inside apart. refl) (sym (tells.last (slot_of n) there.2) ∙ there.0)

pub new : NewTells
new first slots within = record {
  within = within;
  last = λ slot inside. ap (λ s. s.last) (unused_at slots slot);
  unspent_under = λ number. sym (ap (unspent_in number) (nothing number));
  running_under = λ number. sym (ap (running_in number) (nothing number));
  unspent_for = λ test. sym (none_pass (λ slot. is_unspent_for test slot.out) refl slots);
  running_for = λ test. sym (none_pass (λ slot. is_running_for test slot.out) refl slots);
}
  where
    nothing : (number : ℕ) → out_under (record { first_generation = first; slots = replicate slots unused }) number ≡ Nothing
    nothing number = nothing_under (record { first_generation = first; slots = replicate slots unused }) number (rw (unused_at slots (slot_of number)) refl)
