-- A row with a permit or a slot's greatest generation was loaded, so the open_state agrees with the base that has it.
-- Used by `first_base` that load such a row.
use Rattle.std.proofs.Common.{◌≡◌, ◌≢◌, ℕ, true, false, cond, not, [], ◌∷◌, ◌++◌, inl, inr, length, filter, refl, sym, ap, subst, ◌∙◌, true≢false, append-nil, arith}
use Rattle.std.specs.Prelude.{Option, Some, None, unwrap_or}
use Rattle.std.proofs.lemmas.Bool.Decides.{eqb_tells}
use Rattle.std.proofs.lemmas.List.Elements.{filter-append}
use Rattle.permit_book.specs.declared.out.Fetch.{Fetch}
use Rattle.permit_book.specs.declared.granted_permit.GrantedPermit.{GrantedPermit}
use Rattle.permit_book.specs.Numbers.{generation_of, slot_of}
use Rattle.permit_book.specs.Outstanding.{is_numbered, permit_for}
use Rattle.permit_book.proofs.CallerLemmas.{numbered-added, numbered-new, same_number}
use Rattle.authority_cache.specs.Calls.{one_if}
use Rattle.authority_cache.proofs.CallerLemmas.{count-push}
use Rattle.gate_history.specs.declared.base.SlotGrant.{SlotGrant}
use Rattle.gate_history.specs.Base.{Base}
use Rattle.gate_history.specs.Grants.{IsSlotGrant, is_covered, is_in}
use Rattle.gate_history.specs.History.{from}
use Rattle.crawl_audit.specs.declared.first_base.FirstBase.{FirstBase}
use Rattle.crawl_audit.specs.declared.first_base.LastLine.TheVariants as lasts
use Rattle.crawl_audit.specs.declared.open_state.OpenState.{OpenState}
use Rattle.crawl_audit.specs.declared.numbers.PermitNumbers.{PermitNumbers}
use Rattle.crawl_audit.specs.declared.numbers.Phase.{Phase}
use Rattle.crawl_audit.specs.declared.numbers.Phase.TheVariants as phases
use Rattle.crawl_audit.specs.FirstBase.{SaysBase, is_used, key_of, permit_row}
use Rattle.crawl_audit.specs.Loading.{Sets, with_numbers}
use Rattle.crawl_audit.specs.OpenRows.{Greatest, Unspent, Running, IsOpenRow, MayStand, with_row}
use Rattle.crawl_audit.specs.Tables.{Puts, Tells, TellsNumbers, grants_under, is_above, lasts_of, phases_of, running_under, unspent_under}
use Rattle.crawl_audit.proofs.Numbering.{covered_is}
use Rattle.crawl_audit.proofs.LoadedRows.{by_kind, loaded}
use Rattle.crawl_audit.proofs.RowOrder.{others_none}
use Rattle.crawl_audit.proofs.StandingRows.{no_running, no_unspent, nothing}

-- ---- the open_state with other numbers of permits

module _ (first first' : FirstBase) (open_state : OpenState) (numbers : PermitNumbers) (b : Base) (says : SaysBase first open_state b) where
  told : Tells open_state (from b)
  told = let all = says.tells in all.tells

  numbers_told : TellsNumbers open_state.numbers (from b)
  numbers_told = let t = told in t.numbers_tell

  -- ---- a slot's greatest generation

  nothing_out : (o : Option Phase) (number : ℕ) → [] ≡ unspent_under number o → [] ≡ running_under number o → o ≡ None
  nothing_out None number us ys = refl
  nothing_out (Some (phases.Unspent fetch)) number us ys = absurd (omega (arith, ap length us))
  nothing_out (Some (phases.Running fetch)) number us ys = absurd (omega (arith, ap length ys))

  module _ (grant : SlotGrant) (sets : Sets open_state.numbers grant numbers) (fields : IsOpenRow (Greatest grant)) (may : MayStand b (Greatest grant)) where
    phases_kept : (number : ℕ) → phases_of numbers number ≡ phases_of open_state.numbers number
    phases_kept number = ap (λ table. phases_of (record numbers { out = table }) number) sets.out

    new_slot : filter (is_in grant.slot) b.grants ≡ []
    new_slot =
        let once = may.base.base.permits.slots_once grant.slot in
        nothing (filter (is_in grant.slot) b.grants) (others_none (is_in grant.slot) b.grants grant once (same_number grant.slot))

    of_slot : (slot : ℕ) → filter (is_in slot) (b.grants ++ grant ∷ []) ≡ grants_under slot (lasts_of numbers slot)
    of_slot slot = elim (eqb_tells grant.slot slot) [
      | inl e ↦ filter-append (is_in slot) b.grants (grant ∷ [])
          ∙ (λ i. filter (is_in (sym e.1 i)) b.grants ++ cond (e.0 i) (grant ∷ []) [])
          ∙ ap (λ l. l ++ grant ∷ []) new_slot
          ∙ (λ i. (let g : SlotGrant = record { slot = e.1 i; generation = grant.generation } in g) ∷ [])
          ∙ ap (grants_under slot) (sym (sets.lasts slot ∙ ap (λ t. cond t (Some grant.generation) (lasts_of open_state.numbers slot)) e.0))
      | inr d ↦ filter-append (is_in slot) b.grants (grant ∷ [])
          ∙ ap (λ t. filter (is_in slot) b.grants ++ cond t (grant ∷ []) []) d.0
          ∙ append-nil (filter (is_in slot) b.grants) ∙ numbers_told.grants_are slot
          ∙ ap (grants_under slot) (sym (sets.lasts slot ∙ ap (λ t. cond t (Some grant.generation) (lasts_of open_state.numbers slot)) d.0))
    ]

    any : numbers.rising ≡ false → ⊥
    any is = true≢false (sym (sets.rising ∙ says.rising) ∙ is)

    grant_numbers : TellsNumbers numbers (from (with_row b (Greatest grant)))
    grant_numbers =
        let n = numbers_told in
        let us = no_unspent b (Greatest grant) (by_kind b (Greatest grant) may) (omega arith) in
        let ys = no_running b (Greatest grant) (by_kind b (Greatest grant) may) (omega arith) in
        record {
          unspent_are = λ number. n.unspent_are number ∙ ap (unspent_under number) (sym (phases_kept number));
          running_are = λ number. n.running_are number ∙ ap (running_under number) (sym (phases_kept number));
          grants_are = of_slot;
          granted_are = λ is. absurd (any is);
          out_noted = λ is. absurd (any is);
          out_covered = λ number above. phases_kept number
              ∙ nothing_out (phases_of open_state.numbers number) number (ap (filter (is_numbered number)) (sym us) ∙ n.unspent_are number) (ap (filter (is_numbered number)) (sym ys) ∙ n.running_are number);
          slots_fit = λ slot generation is. elim (eqb_tells grant.slot slot) [
            | inl e ↦ subst (λ k. IsSlotGrant (record { slot = k; generation = generation })) e.1
                (subst (λ k. IsSlotGrant (record { slot = grant.slot; generation = k })) (ap (λ o. unwrap_or o 0) (sym (sets.lasts slot ∙ ap (λ t. cond t (Some grant.generation) (lasts_of open_state.numbers slot)) e.0) ∙ is)) fields.1)
            | inr d ↦ n.slots_fit slot generation (sym (sets.lasts slot ∙ ap (λ t. cond t (Some grant.generation) (lasts_of open_state.numbers slot)) d.0) ∙ is)
          ];
        }

    pub grant_loaded : first'.last ≡ Some (lasts.Greatest grant.slot) → ((turn : ℕ) → is_used first' turn ≡ is_used first turn) → SaysBase first' (with_numbers open_state numbers) (with_row b (Greatest grant))
    grant_loaded last used =
        let all = says.tells in
        let t = told in
        loaded first first' open_state (with_numbers open_state numbers) b (Greatest grant) says fields may
        (record {
          tells = record { clock_is = t.clock_is; begins_are = t.begins_are; cache_tells = t.cache_tells; numbers_tell = grant_numbers };
          entries_are = all.entries_are;
          started_are = all.started_are;
          few = all.few;
        })
        (sets.rising ∙ says.rising) last (λ turn. used turn ∙ says.turns_are turn)

  -- ---- an outstanding permit

  put_tells : (b' : Base) (number : ℕ) (phase : Option Phase) → Puts open_state.numbers number phase numbers → is_covered b.grants number ≡ true →
      filter (is_numbered number) b'.unspent ≡ unspent_under number phase → ((m : ℕ) → m ≢ number → filter (is_numbered m) b'.unspent ≡ filter (is_numbered m) b.unspent) →
      filter (is_numbered number) b'.running ≡ running_under number phase → ((m : ℕ) → m ≢ number → filter (is_numbered m) b'.running ≡ filter (is_numbered m) b.running) →
      b'.grants ≡ b.grants → TellsNumbers numbers (from b')
  put_tells b' number phase puts covered own others runs others_run grants =
      let n = numbers_told in
      record {
        unspent_are = λ m. elim (eqb_tells number m) [
          | inl e ↦ rw (puts.phases m, e.0) (subst (λ k. filter (is_numbered k) b'.unspent ≡ unspent_under k phase) e.1 own)
          | inr d ↦ rw (puts.phases m, d.0) (others m (λ e. d.1 (sym e)) ∙ n.unspent_are m)
        ];
        running_are = λ m. elim (eqb_tells number m) [
          | inl e ↦ rw (puts.phases m, e.0) (subst (λ k. filter (is_numbered k) b'.running ≡ running_under k phase) e.1 runs)
          | inr d ↦ rw (puts.phases m, d.0) (others_run m (λ e. d.1 (sym e)) ∙ n.running_are m)
        ];
        grants_are = λ slot. ap (filter (is_in slot)) grants ∙ n.grants_are slot ∙ ap (grants_under slot) (sym (slots_kept slot));
        granted_are = λ is. absurd (none_any is);
        out_noted = λ is. absurd (none_any is);
        out_covered = λ m above. elim (eqb_tells number m) [
          | inl e ↦ absurd (true≢false (sym covered ∙ ap (is_covered b.grants) e.1 ∙ covered_is b.grants m (lasts_of open_state.numbers (slot_of m)) (n.grants_are (slot_of m))
              ∙ ap (λ o. not (is_above (generation_of m) o)) (sym (slots_kept (slot_of m))) ∙ ap not above))
          | inr d ↦ puts.phases m ∙ ap (λ t. cond t phase (phases_of open_state.numbers m)) d.0 ∙ n.out_covered m (ap (is_above (generation_of m)) (sym (slots_kept (slot_of m))) ∙ above)
        ];
        slots_fit = λ slot generation is. n.slots_fit slot generation (sym (slots_kept slot) ∙ is);
      }
    where
      slots_kept : (slot : ℕ) → lasts_of numbers slot ≡ lasts_of open_state.numbers slot
      slots_kept slot = ap (λ table. lasts_of (record numbers { by_slot = table }) slot) puts.slots

      none_any : numbers.rising ≡ false → ⊥
      none_any is = true≢false (sym (puts.rising ∙ says.rising) ∙ is)

  module _ (number : ℕ) (fetch : Fetch) where
    abbrev permit : GrantedPermit
    permit = permit_for number fetch

    unspent_loaded : Puts open_state.numbers number (Some (phases.Unspent fetch)) numbers → first'.last ≡ Some (lasts.Unspent number) → ((turn : ℕ) → is_used first' turn ≡ is_used first turn) →
        IsOpenRow (Unspent permit) → MayStand b (Unspent permit) → SaysBase first' (with_numbers open_state numbers) (with_row b (Unspent permit))
    unspent_loaded puts last used fields may =
        let all = says.tells in
        let t = told in
        let out = may.base.base.permits in
        let once = out.numbers_once number in
        let one = ap one_if (same_number number) in
        let us = nothing (filter (is_numbered number) b.unspent) (omega (arith, count-push (is_numbered number) b.unspent permit)) in
        let ys = nothing (filter (is_numbered number) b.running) (omega (arith, count-push (is_numbered number) b.unspent permit)) in
        let covered = out.numbers_granted number (omega (arith, count-push (is_numbered number) b.unspent permit)) in
        loaded first first' open_state (with_numbers open_state numbers) b (Unspent permit) says fields may
        (record {
          tells = record {
            clock_is = t.clock_is;
            begins_are = t.begins_are;
            cache_tells = t.cache_tells;
            numbers_tell = put_tells (with_row b (Unspent permit)) number (Some (phases.Unspent fetch)) puts covered
                (numbered-new b.unspent permit us) (λ m apart. numbered-added b.unspent permit m apart) ys (λ m apart. refl) refl;
          };
          entries_are = all.entries_are;
          started_are = all.started_are;
          few = all.few;
        })
        (puts.rising ∙ says.rising) last (λ turn. used turn ∙ says.turns_are turn)

    running_loaded : Puts open_state.numbers number (Some (phases.Running fetch)) numbers → first'.last ≡ Some (lasts.Running number) → ((turn : ℕ) → is_used first' turn ≡ is_used first turn) →
        IsOpenRow (Running permit) → MayStand b (Running permit) → SaysBase first' (with_numbers open_state numbers) (with_row b (Running permit))
    running_loaded puts last used fields may =
        let all = says.tells in
        let t = told in
        let out = may.base.base.permits in
        let once = out.numbers_once number in
        let one = ap one_if (same_number number) in
        let us = nothing (filter (is_numbered number) b.unspent) (omega (arith, count-push (is_numbered number) b.running permit)) in
        let ys = nothing (filter (is_numbered number) b.running) (omega (arith, count-push (is_numbered number) b.running permit)) in
        let covered = out.numbers_granted number (omega (arith, count-push (is_numbered number) b.running permit)) in
        loaded first first' open_state (with_numbers open_state numbers) b (Running permit) says fields may
        (record {
          tells = record {
            clock_is = t.clock_is;
            begins_are = t.begins_are;
            cache_tells = t.cache_tells;
            numbers_tell = put_tells (with_row b (Running permit)) number (Some (phases.Running fetch)) puts covered
                us (λ m apart. refl) (numbered-new b.running permit ys) (λ m apart. numbered-added b.running permit m apart) refl;
          };
          entries_are = all.entries_are;
          started_are = all.started_are;
          few = all.few;
        })
        (puts.rising ∙ says.rising) last (λ turn. used turn ∙ says.turns_are turn)

  pub permit_loaded : (number : ℕ) (phase : Phase) → Puts open_state.numbers number (Some phase) numbers → first'.last ≡ Some (key_of (permit_row number phase)) → ((turn : ℕ) → is_used first' turn ≡ is_used first turn) →
      IsOpenRow (permit_row number phase) → MayStand b (permit_row number phase) → SaysBase first' (with_numbers open_state numbers) (with_row b (permit_row number phase))
  permit_loaded number (phases.Unspent fetch) = unspent_loaded number fetch
  permit_loaded number (phases.Running fetch) = running_loaded number fetch
