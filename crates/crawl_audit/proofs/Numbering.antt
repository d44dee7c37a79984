-- How each entry changes the tables of numbers.
-- Used by the calls of the open_state.
use Rattle.std.proofs.Common.{◌≡◌, ◌≢◌, ℕ, ◌==◌, Bool, true, false, cond, max, not, List, [], ◌∷◌, ◌++◌, filter, inl, inr, refl, sym, ap, subst, ◌∙◌, true≢false, append-nil, arith}
use Rattle.std.specs.Prelude.{◌||◌, ◌&&◌, nat_le, nat_lt, Option, Some, None, unwrap_or}
use Rattle.std.specs.List.{list_any}
use Rattle.std.proofs.lemmas.Bool.Decides.{eqb_tells, nat_tests}
use Rattle.std.proofs.lemmas.List.Elements.{filter-append}
use Rattle.permit_book.specs.declared.out.Fetch.{Fetch}
use Rattle.permit_book.specs.Numbers.{generation_of, slot_of}
use Rattle.permit_book.specs.Outstanding.{is_numbered, permit_for}
use Rattle.permit_book.proofs.CallerLemmas.{filter-dropped, filter-kept, list_any-filter, numbered-added, numbered-gone, numbered-new, numbered-without, same_number}
use Rattle.gate_history.specs.declared.base.SlotGrant.{SlotGrant}
use Rattle.gate_history.specs.declared.entry.Entry.TheVariants.{Granted, Started, StartDenied, Returned, Finished}
use Rattle.gate_history.specs.declared.outcome.Cause.{Cause}
use Rattle.gate_history.specs.declared.outcome.Reason.{Reason}
use Rattle.gate_history.specs.Grants.{generation_in, greatest_of, is_covered, is_in, with_grant}
use Rattle.gate_history.specs.History.{History, ◌▸◌}
use Rattle.gate_history.specs.Outstanding.{grants, running, unspent, was_granted}
use Rattle.gate_history.proofs.CallerLemmas.{granted_covered}
use Rattle.crawl_audit.specs.declared.numbers.PermitNumbers.{PermitNumbers}
use Rattle.crawl_audit.specs.declared.numbers.Phase.{Phase}
use Rattle.crawl_audit.specs.declared.numbers.Phase.TheVariants.{Unspent, Running}
use Rattle.gate_history.specs.Grants.{IsSlotGrant}
use Rattle.crawl_audit.specs.Tables.{Grants, grants_under, greatest_with, is_above, is_new, is_noted, lasts_of, phases_of, Puts, running_under, TellsNumbers, unspent_under}

-- ---- a slot

of_slot : (xs : List SlotGrant) (slot : ℕ) → greatest_of xs slot ≡ greatest_of (filter (is_in slot) xs) slot
of_slot [] slot = refl
of_slot (x ∷ xs) slot = by (is_in slot x) refl (of_slot xs slot)
  where
    by : (b : Bool) → is_in slot x ≡ b → greatest_of xs slot ≡ greatest_of (filter (is_in slot) xs) slot →
        max (generation_in slot x) (greatest_of xs slot) ≡ greatest_of (cond b (x ∷ filter (is_in slot) xs) (filter (is_in slot) xs)) slot
    by true is rest = ap (max (generation_in slot x)) rest
    by false is rest = let none : generation_in slot x ≡ 0 = rw is refl in omega arith

greatest_one : (slot last : ℕ) → greatest_of (grants_under slot (Some last)) slot ≡ last
greatest_one slot last = rw (same_number slot) (omega arith)

greatest_some : (gs : List SlotGrant) (slot last : ℕ) → filter (is_in slot) gs ≡ grants_under slot (Some last) → greatest_of gs slot ≡ last
greatest_some gs slot last is = of_slot gs slot ∙ ap (λ l. greatest_of l slot) is ∙ greatest_one slot last

greatest_here : (gs : List SlotGrant) (slot generation : ℕ) (last : Option ℕ) → filter (is_in slot) gs ≡ grants_under slot last → max generation (greatest_of gs slot) ≡ greatest_with generation last
greatest_here gs slot generation None is = ap (max generation) (of_slot gs slot ∙ ap (λ l. greatest_of l slot) is) ∙ (let e : max generation 0 ≡ generation = omega arith in e)
greatest_here gs slot generation (Some last) is = ap (max generation) (greatest_some gs slot last is)

not_less : (a b : ℕ) → nat_le a b ≡ not (nat_lt b a)
not_less a b = by (nat_lt b a) refl
  where
    by : (t : Bool) → nat_lt b a ≡ t → nat_le a b ≡ not t
    by true is = grind (arith, nat_tests)
    by false is = grind (arith, nat_tests)

pub covered_is : (gs : List SlotGrant) (n : ℕ) (last : Option ℕ) → filter (is_in (slot_of n)) gs ≡ grants_under (slot_of n) last → is_covered gs n ≡ not (is_above (generation_of n) last)
covered_is gs n None is =
    let none : list_any (is_in (slot_of n)) gs ≡ false = list_any-filter (is_in (slot_of n)) gs ∙ ap (list_any (λ _. true)) is in
    ap (λ b. b && nat_le (generation_of n) (greatest_of gs (slot_of n))) none
covered_is gs n (Some last) is =
    let some : list_any (is_in (slot_of n)) gs ≡ true = list_any-filter (is_in (slot_of n)) gs ∙ ap (list_any (λ _. true)) is in
    ap (λ b. b && nat_le (generation_of n) (greatest_of gs (slot_of n))) some ∙ ap (nat_le (generation_of n)) (greatest_some gs (slot_of n) last is) ∙ not_less (generation_of n) last

unequal : (n m : ℕ) → m ≢ n → (n == m) ≡ false
unequal n m apart = elim (eqb_tells n m) [ inl e ↦ absurd (apart (sym e.1)) | inr d ↦ d.0 ]

granted_slots : (gs : List SlotGrant) (n slot : ℕ) (last : ℕ → Option ℕ) → ((s : ℕ) → filter (is_in s) gs ≡ grants_under s (last s)) →
    filter (is_in slot) (with_grant n gs) ≡ grants_under slot (cond (slot_of n == slot) (Some (greatest_with (generation_of n) (last (slot_of n)))) (last slot))
granted_slots gs n slot last are = elim (eqb_tells (slot_of n) slot) [
  | inl e ↦ rw e.0 (subst (λ s. filter (is_in s) (with_grant n gs) ≡ grants_under s (Some (greatest_with (generation_of n) (last (slot_of n))))) e.1 own)
  | inr d ↦ rw d.0 (other d.0 (λ e. d.1 (sym e)))
]
  where
    new : SlotGrant
    new = record { slot = slot_of n; generation = max (generation_of n) (greatest_of gs (slot_of n)) }

    own : filter (is_in (slot_of n)) (with_grant n gs) ≡ grants_under (slot_of n) (Some (greatest_with (generation_of n) (last (slot_of n))))
    own =
        filter-append (is_in (slot_of n)) (filter (λ g. not (is_in (slot_of n) g)) gs) (new ∷ [])
        ∙ rw (filter-dropped (is_in (slot_of n)) (λ g. not (is_in (slot_of n) g)) gs (λ g is. rw is refl), same_number (slot_of n))
        (ap (λ k. (let g : SlotGrant = record { slot = slot_of n; generation = k } in g) ∷ []) (greatest_here gs (slot_of n) (generation_of n) (last (slot_of n)) (are (slot_of n))))

    passes : slot ≢ slot_of n → (g : SlotGrant) → is_in slot g ≡ true → not (is_in (slot_of n) g) ≡ true
    passes apart g is = elim (eqb_tells g.slot (slot_of n)) [
      | inl e ↦ absurd (elim (eqb_tells g.slot slot) [ inl f ↦ apart (sym f.1 ∙ e.1) | inr d ↦ true≢false (sym is ∙ d.0) ])
      | inr d ↦ rw d.0 refl
    ]

    other : (slot_of n == slot) ≡ false → slot ≢ slot_of n → filter (is_in slot) (with_grant n gs) ≡ grants_under slot (last slot)
    other not_here apart =
        filter-append (is_in slot) (filter (λ g. not (is_in (slot_of n) g)) gs) (new ∷ [])
        ∙ rw (not_here, filter-kept (is_in slot) (λ g. not (is_in (slot_of n) g)) gs (passes apart)) (append-nil (filter (is_in slot) gs) ∙ are slot)

-- ---- what the tables say

pub still : (numbers : PermitNumbers) (h h' : History) → unspent h' ≡ unspent h → running h' ≡ running h → grants h' ≡ grants h → ((n : ℕ) → was_granted h' n ≡ was_granted h n) → TellsNumbers numbers h → TellsNumbers numbers h'
still numbers h h' permits runs slots granted t = record {
  unspent_are = λ n. ap (filter (is_numbered n)) permits ∙ t.unspent_are n;
  running_are = λ n. ap (filter (is_numbered n)) runs ∙ t.running_are n;
  grants_are = λ s. ap (filter (is_in s)) slots ∙ t.grants_are s;
  granted_are = λ any n. granted n ∙ t.granted_are any n;
  out_noted = t.out_noted;
  out_covered = t.out_covered;
  slots_fit = t.slots_fit;
}

none_some : {A : Type 0} (x : A) (o : Option A) → o ≡ Some x → o ≡ None → ⊥
none_some x o some none = clash (sym some ∙ none)
  where
    clash : Some x ≡ None → ⊥
    clash e = cc

step : (p p' : PermitNumbers) (h h' : History) (n : ℕ) (y : Phase) (x : Option Phase) → TellsNumbers p h → phases_of p n ≡ Some y → Puts p n x p' →
    filter (is_numbered n) (unspent h') ≡ unspent_under n x → ((m : ℕ) → m ≢ n → filter (is_numbered m) (unspent h') ≡ filter (is_numbered m) (unspent h)) →
    filter (is_numbered n) (running h') ≡ running_under n x → ((m : ℕ) → m ≢ n → filter (is_numbered m) (running h') ≡ filter (is_numbered m) (running h)) →
    grants h' ≡ grants h → ((m : ℕ) → was_granted h' m ≡ was_granted h m) → TellsNumbers p' h'
step p p' h h' n y x tells was puts own others runs others_run slots granted = record {
  unspent_are = λ m. elim (eqb_tells n m) [
    | inl e ↦ rw (puts.phases m, e.0) (subst (λ k. filter (is_numbered k) (unspent h') ≡ unspent_under k x) e.1 own)
    | inr d ↦ rw (puts.phases m, d.0) (others m (λ e. d.1 (sym e)) ∙ tells.unspent_are m)
  ];
  running_are = λ m. elim (eqb_tells n m) [
    | inl e ↦ rw (puts.phases m, e.0) (subst (λ k. filter (is_numbered k) (running h') ≡ running_under k x) e.1 runs)
    | inr d ↦ rw (puts.phases m, d.0) (others_run m (λ e. d.1 (sym e)) ∙ tells.running_are m)
  ];
  grants_are = λ s. ap (filter (is_in s)) slots ∙ tells.grants_are s ∙ ap (grants_under s) (sym (lasts s));
  granted_are = λ any m. granted m ∙ tells.granted_are (any_before any) m ∙ sym (noted m);
  out_noted = λ any m none. elim (eqb_tells n m) [
    | inl e ↦ absurd (none_some y (phases_of p n) was (tells.out_noted (any_before any) n (ap (is_noted p) e.1 ∙ sym (noted m) ∙ none)))
    | inr d ↦ puts.phases m ∙ ap (λ b. cond b x (phases_of p m)) d.0 ∙ tells.out_noted (any_before any) m (sym (noted m) ∙ none)
  ];
  out_covered = λ m above. elim (eqb_tells n m) [
    | inl e ↦ absurd (none_some y (phases_of p n) was (tells.out_covered n (ap (λ k. is_above (generation_of k) (lasts_of p (slot_of k))) e.1 ∙ above_before m above)))
    | inr d ↦ puts.phases m ∙ ap (λ b. cond b x (phases_of p m)) d.0 ∙ tells.out_covered m (above_before m above)
  ];
  slots_fit = λ s generation is. tells.slots_fit s generation (sym (lasts s) ∙ is);
}
  where
    lasts : (s : ℕ) → lasts_of p' s ≡ lasts_of p s
    lasts s = ap (λ table. lasts_of (record p { by_slot = table }) s) puts.slots

    noted : (m : ℕ) → is_noted p' m ≡ is_noted p m
    noted m = ap (λ table. is_noted (record p { granted = table }) m) puts.granted

    any_before : p'.rising ≡ false → p.rising ≡ false
    any_before any = sym puts.rising ∙ any

    above_before : (m : ℕ) → is_above (generation_of m) (lasts_of p' (slot_of m)) ≡ true → is_above (generation_of m) (lasts_of p (slot_of m)) ≡ true
    above_before m above = ap (is_above (generation_of m)) (sym (lasts (slot_of m))) ∙ above

not_above_own : (k : ℕ) (o : Option ℕ) → is_above k (Some (greatest_with k o)) ≡ false
not_above_own k None = grind (arith, nat_tests)
not_above_own k (Some last) = grind (arith, nat_tests)

above_less : (g k : ℕ) (o : Option ℕ) → is_above g (Some (greatest_with k o)) ≡ true → is_above g o ≡ true
above_less g k None above = refl
above_less g k (Some last) above = grind (arith, nat_tests)

or_parts : (a b : Bool) → (a || b) ≡ false → b ≡ false
or_parts true b is = absurd (true≢false is)
or_parts false b is = is

module _ (p p' : PermitNumbers) (h : History) (n : ℕ) (tells : TellsNumbers p h) where
  pub new_free : is_new p n ≡ true → phases_of p n ≡ None
  new_free new = by p.rising refl new
    where
      by : (b : Bool) → p.rising ≡ b → cond b (is_above (generation_of n) (lasts_of p (slot_of n))) (not (is_noted p n)) ≡ true → phases_of p n ≡ None
      by true is new = tells.out_covered n new
      by false is new = tells.out_noted is n (unnot (is_noted p n) new)
        where
          unnot : (b : Bool) → not b ≡ true → b ≡ false
          unnot true e = sym e
          unnot false e = refl

  pub granted_tells : (moment : ℕ) (fetch : Fetch) → is_new p n ≡ true → Grants p n fetch p' → TellsNumbers p' (h ▸ Granted moment n fetch)
  granted_tells moment fetch new keeps = record {
    unspent_are = λ m. elim (eqb_tells n m) [
      | inl e ↦ rw (keeps.phases m, e.0) (subst (λ k. filter (is_numbered k) (unspent h ++ permit_for n fetch ∷ []) ≡ unspent_under k (Some (Unspent fetch))) e.1
          (numbered-new (unspent h) (permit_for n fetch) (tells.unspent_are n ∙ ap (unspent_under n) none)))
      | inr d ↦ rw (keeps.phases m, d.0) (numbered-added (unspent h) (permit_for n fetch) m (λ e. d.1 (sym e)) ∙ tells.unspent_are m)
    ];
    running_are = λ m. elim (eqb_tells n m) [
      | inl e ↦ rw (keeps.phases m, e.0) (subst (λ k. filter (is_numbered k) (running h) ≡ []) e.1 (tells.running_are n ∙ ap (running_under n) none))
      | inr d ↦ rw (keeps.phases m, d.0) (tells.running_are m)
    ];
    grants_are = λ s. granted_slots (grants h) n s (lasts_of p) tells.grants_are ∙ ap (grants_under s) (sym (keeps.lasts s));
    granted_are = λ any m. ap (λ b. n == m || b) (tells.granted_are (sym keeps.rising ∙ any) m) ∙ sym (keeps.granted (sym keeps.rising ∙ any) m);
    out_noted = λ any m unnoted. elim (eqb_tells n m) [
      | inl e ↦ absurd (true≢false (sym (keeps.granted (sym keeps.rising ∙ any) m ∙ ap (λ b. b || is_noted p m) e.0) ∙ unnoted))
      | inr d ↦ keeps.phases m ∙ ap (λ b. cond b (Some (Unspent fetch)) (phases_of p m)) d.0
          ∙ tells.out_noted (sym keeps.rising ∙ any) m (or_parts (n == m) (is_noted p m) (sym (keeps.granted (sym keeps.rising ∙ any) m) ∙ unnoted))
    ];
    out_covered = λ m above. elim (eqb_tells n m) [
      | inl e ↦ absurd (true≢false (sym above ∙ ap (is_above (generation_of m)) (keeps.lasts (slot_of m)) ∙ own m e.1))
      | inr d ↦ keeps.phases m ∙ ap (λ b. cond b (Some (Unspent fetch)) (phases_of p m)) d.0
          ∙ tells.out_covered m (before m (slot_of n == slot_of m) refl (ap (is_above (generation_of m)) (sym (keeps.lasts (slot_of m))) ∙ above))
    ];
    slots_fit = λ s generation is. elim (eqb_tells (slot_of n) s) [
      | inl e ↦ subst (λ k. IsSlotGrant (record { slot = k; generation = generation })) e.1
          (subst (λ k. IsSlotGrant (record { slot = slot_of n; generation = k })) (ap (λ o. unwrap_or o 0) (sym (keeps.lasts s ∙ ap (λ b. cond b top (lasts_of p s)) e.0) ∙ is)) (top_fits (lasts_of p (slot_of n)) refl))
      | inr d ↦ tells.slots_fit s generation (sym (keeps.lasts s ∙ ap (λ b. cond b top (lasts_of p s)) d.0) ∙ is)
    ];
  }
    where
      none : phases_of p n ≡ None
      none = new_free new

      top : Option ℕ
      top = Some (greatest_with (generation_of n) (lasts_of p (slot_of n)))

      top_fits : (o : Option ℕ) → lasts_of p (slot_of n) ≡ o → IsSlotGrant (record { slot = slot_of n; generation = greatest_with (generation_of n) o })
      top_fits None is = keeps.fits
      top_fits (Some last) is = let before = tells.slots_fit (slot_of n) last is in (keeps.fits.0, omega (arith, keeps.fits.1, before.1))

      own : (m : ℕ) → n ≡ m → is_above (generation_of m) (cond (slot_of n == slot_of m) top (lasts_of p (slot_of m))) ≡ false
      own m same = subst (λ k. is_above (generation_of k) (cond (slot_of n == slot_of k) top (lasts_of p (slot_of k))) ≡ false) same (rw (same_number (slot_of n)) (not_above_own (generation_of n) (lasts_of p (slot_of n))))

      before : (m : ℕ) (b : Bool) → (slot_of n == slot_of m) ≡ b → is_above (generation_of m) (cond b top (lasts_of p (slot_of m))) ≡ true → is_above (generation_of m) (lasts_of p (slot_of m)) ≡ true
      before m true is above = elim (eqb_tells (slot_of n) (slot_of m)) [
        | inl e ↦ ap (λ s. is_above (generation_of m) (lasts_of p s)) (sym e.1) ∙ above_less (generation_of m) (generation_of n) (lasts_of p (slot_of n)) above
        | inr d ↦ absurd (true≢false (sym is ∙ d.0))
      ]
      before m false is above = above

  pub started_tells : (moment : ℕ) (reason : Reason) (fetch : Fetch) → phases_of p n ≡ Some (Unspent fetch) → Puts p n (Some (Running fetch)) p' → TellsNumbers p' (h ▸ Started moment n reason)
  started_tells moment reason fetch some puts =
      let permits : filter (is_numbered n) (unspent h) ≡ permit_for n fetch ∷ [] = tells.unspent_are n ∙ ap (unspent_under n) some in
      step p p' h (h ▸ Started moment n reason) n (Unspent fetch) (Some (Running fetch)) tells some puts
      (numbered-gone (unspent h) n) (λ m apart. numbered-without (unspent h) n m apart)
      (ap (λ added. filter (is_numbered n) (running h ++ added)) permits ∙ numbered-new (running h) (permit_for n fetch) (tells.running_are n ∙ ap (running_under n) some))
      (λ m apart. ap (λ added. filter (is_numbered m) (running h ++ added)) permits ∙ numbered-added (running h) (permit_for n fetch) m apart)
      refl (λ m. refl)

  pub start_denied_tells : (moment : ℕ) (cause : Cause) (fetch : Fetch) → phases_of p n ≡ Some (Unspent fetch) → Puts p n None p' → TellsNumbers p' (h ▸ StartDenied moment n cause)
  start_denied_tells moment cause fetch some puts =
      step p p' h (h ▸ StartDenied moment n cause) n (Unspent fetch) None tells some puts
      (numbered-gone (unspent h) n) (λ m apart. numbered-without (unspent h) n m apart)
      (tells.running_are n ∙ ap (running_under n) some) (λ m apart. refl) refl (λ m. refl)

  pub returned_tells : (fetch : Fetch) → phases_of p n ≡ Some (Unspent fetch) → Puts p n None p' → TellsNumbers p' (h ▸ Returned n)
  returned_tells fetch some puts =
      step p p' h (h ▸ Returned n) n (Unspent fetch) None tells some puts
      (numbered-gone (unspent h) n) (λ m apart. numbered-without (unspent h) n m apart)
      (tells.running_are n ∙ ap (running_under n) some) (λ m apart. refl) refl (λ m. refl)

  pub finished_tells : (fetch : Fetch) → phases_of p n ≡ Some (Running fetch) → Puts p n None p' → TellsNumbers p' (h ▸ Finished n)
  finished_tells fetch some puts =
      step p p' h (h ▸ Finished n) n (Running fetch) None tells some puts
      (tells.unspent_are n ∙ ap (unspent_under n) some) (λ m apart. refl)
      (numbered-gone (running h) n) (λ m apart. numbered-without (running h) n m apart) refl (λ m. refl)

  -- ---- whether a number may be granted

  slot_covered : is_covered (grants h) n ≡ not (is_above (generation_of n) (lasts_of p (slot_of n)))
  slot_covered = covered_is (grants h) n (lasts_of p (slot_of n)) (tells.grants_are (slot_of n))

  pub new_ungranted : is_new p n ≡ true → was_granted h n ≡ false
  new_ungranted new = by p.rising refl new
    where
      never : (b : Bool) → was_granted h n ≡ b → is_covered (grants h) n ≡ false → b ≡ false
      never true is none = absurd (true≢false (sym (granted_covered h n is) ∙ none))
      never false is none = refl

      by : (b : Bool) → p.rising ≡ b → cond b (is_above (generation_of n) (lasts_of p (slot_of n))) (not (is_noted p n)) ≡ true → was_granted h n ≡ false
      by true is above = never (was_granted h n) refl (slot_covered ∙ ap not above)
      by false is new = tells.granted_are is n ∙ unnot (is_noted p n) new
        where
          unnot : (b : Bool) → not b ≡ true → b ≡ false
          unnot true e = sym e
          unnot false e = refl

  pub new_rises : is_new p n ≡ true → p.rising ≡ true → is_covered (grants h) n ≡ false
  new_rises new rising = slot_covered ∙ ap not (sym (ap (λ b. cond b (is_above (generation_of n) (lasts_of p (slot_of n))) (not (is_noted p n))) rising) ∙ new)

  pub old_refused : is_new p n ≡ false → was_granted h n ≡ false → (p.rising ≡ true → is_covered (grants h) n ≡ false) → ⊥
  old_refused old never rises = by p.rising refl old
    where
      by : (b : Bool) → p.rising ≡ b → cond b (is_above (generation_of n) (lasts_of p (slot_of n))) (not (is_noted p n)) ≡ false → ⊥
      by true is below = true≢false (sym (slot_covered ∙ ap not below) ∙ rises is)
      by false is noted = true≢false (sym (ap not (sym (tells.granted_are is n) ∙ never)) ∙ noted)
