-- How each kind of entry changes what a book keeps beside its history.
-- Used by the calls that make entries.
use Rattle.std.proofs.Common.{◌≡◌, ℕ, ◌+◌, ◌<◌, ◌≤◌, ◌==◌, Bool, true, false, inl, inr, All, Vec, Global, max, not, List, [], ◌∷◌, ◌++◌, length, filter, replicate, refl, sym, ap, ◌∙◌, subst, arith, eqb-true}
use Rattle.std.specs.Prelude.{◌&&◌, ◌||◌, nat_le, nat_lt, Option, Result, Some, None, cond, vec_capacity}
use Rattle.std.specs.List.{list_all, list_any}
use Rattle.std.proofs.lemmas.Bool.{and_parts, eq-eqb, le-leb, leb-true, lt-ltb, ltb-true, true≢false}
use Rattle.std.proofs.lemmas.Bool.Decides.{eqb_tells, nat_tests}
use Rattle.robots_text.proofs.CallerLemmas.{any_passes, passes_any}
use Rattle.std.proofs.lemmas.List.{length-replicate, length-set}
use Rattle.std.proofs.lemmas.List.Elements.{All-cons, All-contains, All-head, All-push, All-tail}
use Rattle.std.proofs.lemmas.Slice.Eq.{bytes_eq-Decides}
use Rattle.path_normal.specs.PageText.{authority_of}
use Rattle.authority_cache.specs.declared.site.Flight.{Flight}
use Rattle.authority_cache.specs.declared.turn.Turn.{Turn}
use Rattle.authority_cache.specs.Lists.{TellsCache, has_number, is_turn_of, known_by, turn_for}
use Rattle.authority_cache.specs.Lives.{IsOwnLife, Timed}
use Rattle.authority_cache.specs.Sites.{IsApart, Known, arrived, flight_count, has_turn, is_flying, known_count, site_of, with_flight}
use Rattle.authority_cache.specs.Calls.{Changes, Sweeps}
use Rattle.authority_cache.proofs.CallerLemmas as cache_laws
use Rattle.permit_book.specs.declared.out.Fetch.{Fetch}
use Rattle.permit_book.specs.declared.out.SlotContent.{SlotContent}
use Rattle.permit_book.specs.declared.out.SlotContent.TheVariants.{Nothing, Running, Unspent}
use Rattle.permit_book.specs.declared.granted_permit.GrantedPermit.{GrantedPermit}
use Rattle.permit_book.specs.Next.{IsNext, NoneFree, generation_after}
use Rattle.permit_book.specs.Numbers.{generation_of, last_generation, slot_of}
use Rattle.permit_book.specs.Outstanding.{fetch_of, holds_slot, is_listed, is_listed_for, is_numbered, IsNextBy, NoneFreeBy, TellsPermits}
use Rattle.permit_book.specs.Laws.{ReadsAlike}
use Rattle.permit_book.specs.Table.{Table, is_fetch_of, decided, held_count, is_nothing, is_running, is_running_out, is_unspent, is_unspent_out, out_under, running_count, unspent_count, unused, with_out}
use Rattle.permit_book.proofs.CallerLemmas as permit_laws
use Rattle.gate_history.specs.declared.entry.Entry.{Entry}
use Rattle.gate_history.specs.declared.entry.Entry.TheVariants.{Begun, Arrived, Granted, AskDenied, Started, StartDenied, Returned, Finished, Swept}
use Rattle.gate_history.specs.declared.outcome.Cause.{Cause}
use Rattle.gate_history.specs.declared.outcome.Reason.{Reason}
use Rattle.gate_history.specs.History.{History, ◌▸◌, at_moment, begins, entry_count, followed_by, from, now, started_count}
use Rattle.gate_history.specs.Legal.{AllRise, IsLegal, MayFollow, Rises, SpendsAs}
use Rattle.gate_history.specs.declared.base.SlotGrant.{SlotGrant}
use Rattle.gate_history.specs.Grants.{generation_in, greatest_of, is_covered, is_in, with_grant}
use Rattle.gate_history.specs.Outstanding.{grants, greatest_in, running, unspent, was_granted}
use Rattle.gate_history.specs.Laws.{StandsOnce}
use Rattle.gate_history.specs.Standing.{has_turn as standing_turn, in_flight, is_fetching, past_count, standing}
use Rattle.gate_history.proofs.CallerLemmas.{all-append, all-filter, each_entry_counts, followed_count, followed_push, leads_to_base, rise_push, stands_once}
use Rattle.gate_history.proofs.CallerLemmas as history_laws
use Rattle.gate_history.specs.Base.{Base, empty_base, IsBase}
use Rattle.gate_core.specs.declared.book.Book.TheInside.{Inside}
use Rattle.gate_core.specs.declared.config.Limits.{Limits}
use Rattle.gate_core.specs.declared.turn_names.TurnNames.{TurnNames}
use Rattle.gate_core.specs.declared.place_counts.PlaceCounts.{PlaceCounts}
use Rattle.gate_core.specs.Gate.{Adds, Gate, held, history, most_room, promised}
use Rattle.gate_core.specs.Kept.{gate_of, is_grant_of, IsKept}
use Rattle.gate_core.specs.Limits.{AreLimits, greatest_number}
use Rattle.gate_core.specs.TurnNames.{HasNames, KeepsName, names_by, NamesBy}
use Rattle.gate_core.specs.PlaceCounts.{AddsOne, held_by, HeldBy, LeavesPlace, one_at}

-- the history of a book
abbrev pub told : Inside → History
told b = history (gate_of b)

pub kept_after : (b b' : Inside) (e : Entry) → IsKept b → MayFollow (told b) e → Rises (told b) e → b'.limits ≡ b.limits → b'.base ≡ b.base → b'.entries.items ≡ b.entries.items ++ e ∷ [] →
    b'.clock ≡ now (told b ▸ e) → b'.begins ≡ begins (told b ▸ e) → b'.begins ≤ b.base.entries + length b.entries.items + 1 → b'.starts ≡ started_count (told b ▸ e) →
    TellsCache b'.cache (standing (told b ▸ e)) (in_flight (told b ▸ e)) → b'.cache.limit ≡ b.cache.limit →
    TellsPermits b'.permits (unspent (told b ▸ e)) (running (told b ▸ e)) (greatest_in (told b ▸ e)) →
    length b'.permits.slots ≡ length b.permits.slots → b'.permits.first_generation ≡ b.permits.first_generation →
    list_all (is_grant_of b.limits) (grants (told b ▸ e)) ≡ true → HasNames (names_by b'.names) (in_flight (told b ▸ e)) → ((authority : List ℕ) → held_by b'.places authority ≡ held_count b'.permits authority) →
    length b.entries.items + 1 + promised (told b ▸ e) ≤ most_room b.limits b.base → length b.entries.items + 1 + promised (told b ▸ e) ≤ vec_capacity b'.entries → IsKept b'
kept_after b b' e kept fit rise same_limits same_base more clock count few starts cache limit permits slots first grant names places logged room =
    let is : told b' ≡ told b ▸ e = (λ i. followed_by (from (same_base i)) (more i)) ∙ followed_push (from b.base) b.entries.items e in
    let many : length b'.entries.items ≡ length b.entries.items + 1 = ap length more ∙ pushed b.entries.items e in
    let same_promise = ap promised is in
    let same_room : most_room b'.limits b'.base ≡ most_room b.limits b.base = λ i. most_room (same_limits i) (same_base i) in
    record {
      limits = subst AreLimits (sym same_limits) kept.limits;
      legal = subst IsLegal (sym is) (kept.legal, fit);
      rises = subst (λ (base : Base). AllRise (from base) b'.entries.items) (sym same_base)
          (subst (AllRise (from b.base)) (sym more) (rise_push (from b.base) b.entries.items e kept.rises rise));
      clock = clock ∙ ap now (sym is);
      begins = count ∙ ap begins (sym is);
      few_begins = omega (arith, few, many, ap (λ (base : Base). base.entries) same_base);
      starts = starts ∙ ap started_count (sym is);
      sealed = subst (λ (base : Base). base.entries ≤ greatest_number) (sym same_base) kept.sealed;
      cache = subst (λ h. TellsCache b'.cache (standing h) (in_flight h)) (sym is) cache;
      authorities = limit ∙ kept.authorities ∙ ap (λ l. l.authority_limit) (sym same_limits);
      permits = subst (λ h. TellsPermits b'.permits (unspent h) (running h) (greatest_in h)) (sym is) permits;
      grants = subst (λ h. list_all (is_grant_of b'.limits) (grants h) ≡ true) (sym is) (subst (λ l. list_all (is_grant_of l) (grants (told b ▸ e)) ≡ true) (sym same_limits) grant);
      slots = slots ∙ kept.slots ∙ ap (λ l. l.slots) (sym same_limits);
      first = first ∙ kept.first ∙ ap (λ l. l.first_generation) (sym same_limits);
      names = subst (λ h. HasNames (names_by b'.names) (in_flight h)) (sym is) names;
      places = places;
      logged = omega (arith, logged, many, same_promise, same_room);
      entry_room = omega (arith, room, many, same_promise);
    }
  where
    pushed : (es : List Entry) (e : Entry) → length (es ++ e ∷ []) ≡ length es + 1
    pushed [] e = refl
    pushed (first ∷ es) e = omega (arith, pushed es e)

-- ---- what one entry more leaves

-- the book after an entry of the permits
abbrev pub after : Inside → Vec Entry Global → ℕ → ℕ → Table → PlaceCounts → Inside
after b entries clock starts permits places = record {
  limits = b.limits;
  base = b.base;
  entries = entries;
  clock = clock;
  begins = b.begins;
  starts = starts;
  cache = b.cache;
  permits = permits;
  names = b.names;
  places = places;
}

late_is : (moment clock : ℕ) → clock ≤ moment → moment ≡ max moment clock
late_is moment clock late = omega arith

early_is : (clock : ℕ) → clock ≡ max 0 clock
early_is clock = omega arith

unspent_some : (out : SlotContent) → is_unspent_out out ≡ true → is_nothing out ≡ false
unspent_some (Unspent fetch) is = refl
unspent_some (Running fetch) is = refl
unspent_some Nothing is = absurd (true≢false (sym is))

running_some : (out : SlotContent) → is_running_out out ≡ true → is_nothing out ≡ false
running_some (Running fetch) is = refl
running_some (Unspent fetch) is = refl
running_some Nothing is = absurd (true≢false (sym is))

generation_bounds : (first last : ℕ) → 1 ≤ first → first ≤ last_generation → last < last_generation → (0 < generation_after first last) × (generation_after first last ≤ last_generation)
generation_bounds first last some low small = elim (eqb_tells last 0) [
  | inl e ↦ rw e.0 (omega (arith, some), low)
  | inr d ↦ rw d.0 (omega arith, omega (arith, small))
]

greatest_low : (limits : Limits) (xs : List SlotGrant) (slot : ℕ) → list_all (is_grant_of limits) xs ≡ true → greatest_of xs slot ≤ last_generation
greatest_low limits [] slot all = omega arith
greatest_low limits (x ∷ xs) slot all =
    let parts = and_parts (is_grant_of limits x) (list_all (is_grant_of limits) xs) all in
    let own = and_parts (nat_lt 0 x.generation) (nat_le x.generation last_generation) (and_parts (nat_lt x.slot limits.slots) (nat_lt 0 x.generation && nat_le x.generation last_generation) parts.0).1 in
    let rest = greatest_low limits xs slot parts.1 in
    let low = leb-true x.generation last_generation own.1 in
    by (is_in slot x) refl rest low
  where
    by : (t : Bool) → is_in slot x ≡ t → greatest_of xs slot ≤ last_generation → x.generation ≤ last_generation → greatest_of (x ∷ xs) slot ≤ last_generation
    by true is rest low = let here : generation_in slot x ≡ x.generation = rw is refl in omega (arith, here, rest, low)
    by false is rest low = let here : generation_in slot x ≡ 0 = rw is refl in omega (arith, here, rest)

with_grant_of : (limits : Limits) (number : ℕ) (xs : List SlotGrant) → list_all (is_grant_of limits) xs ≡ true → slot_of number < limits.slots →
    0 < generation_of number → generation_of number ≤ last_generation → list_all (is_grant_of limits) (with_grant number xs) ≡ true
with_grant_of limits number xs all within some low =
    all-append (is_grant_of limits) (filter (λ grant. not (is_in (slot_of number) grant)) xs) (one ∷ [])
    (all-filter (is_grant_of limits) (λ grant. not (is_in (slot_of number) grant)) xs all)
    (rw (lt-ltb (slot_of number) limits.slots within, lt-ltb 0 one.generation (omega (arith, some)), le-leb one.generation last_generation (let rest = greatest_low limits xs (slot_of number) all in omega (arith, low, rest))) refl)
  where
    one : SlotGrant
    one = record { slot = slot_of number; generation = max (generation_of number) (greatest_of xs (slot_of number)) }

module _ (b : Inside) (kept : IsKept b) (entries : Vec Entry Global) where
  pub reads : ReadsAlike b.permits (unspent (told b)) (running (told b))
  reads = permit_laws.reads_alike b.permits (unspent (told b)) (running (told b)) (greatest_in (told b)) kept.permits

  ends_held : (number : ℕ) (permits : Table) (places : PlaceCounts) → is_nothing (out_under b.permits number) ≡ false → permits ≡ with_out b.permits number Nothing →
      LeavesPlace (held_by b.places) (out_under b.permits number) (held_by places) → (authority : List ℕ) → held_by places authority ≡ held_count permits authority
  ends_held number permits places some is left authority =
      let ended = permit_laws.held_ended b.permits number authority some in
      let was = kept.places authority in
      let less = left authority in
      let same = ap (λ (t : Table). held_count t authority) is in
      omega (arith, ended, was, less, same)

  pub started_kept : (moment number : ℕ) (reason : Reason) (permits : Table) → MayFollow (told b) (Started moment number reason) → is_unspent b.permits number ≡ true →
      entries.items ≡ b.entries.items ++ Started moment number reason ∷ [] → vec_capacity entries ≡ vec_capacity b.entries →
      permits ≡ with_out b.permits number (decided true (out_under b.permits number)) → IsKept (after b entries moment (b.starts + 1) permits b.places)
  started_kept moment number reason permits fit out more room is =
      let e : Entry = Started moment number reason in
      let counts = each_entry_counts (told b) e kept.legal fit in
      let logged = kept.logged in
      let entry_room = kept.entry_room in
      kept_after b (after b entries moment (b.starts + 1) permits b.places) e kept fit tt refl refl more (late_is moment (now (told b)) fit.0) kept.begins (let few = kept.few_begins in omega arith) (ap (λ n. n + 1) kept.starts)
      kept.cache refl
      (subst (λ (t : Table). TellsPermits t (unspent (told b ▸ e)) (running (told b ▸ e)) (greatest_in (told b ▸ e))) (sym is)
      (permit_laws.started b.permits (unspent (told b)) (running (told b)) (greatest_in (told b)) number kept.permits out))
      (ap (λ (t : Table). length t.slots) is ∙ length-set b.permits.slots _ _) (ap (λ (t : Table). t.first_generation) is) kept.grants kept.names
      (λ authority. kept.places authority ∙ (sym (permit_laws.held_started b.permits number authority out) ∙ ap (λ (t : Table). held_count t authority) (sym is)))
      (omega (arith, logged, counts.unspent_are, counts.running_are, counts.flights_are)) (omega (arith, entry_room, room, counts.unspent_are, counts.running_are, counts.flights_are))

  pub spends_out : (number moment : ℕ) (outcome : Result Reason Cause) → SpendsAs (told b) number moment outcome → is_unspent b.permits number ≡ true
  spends_out number moment outcome spends = reads.unspent_numbers number ∙ listed (unspent (told b)) spends.1.1.0
    where
      listed : (permits : List GrantedPermit) → is_listed_for permits number spends.0 spends.1.0 ≡ true → is_listed permits number ≡ true
      listed permits is =
          let one = any_passes (λ p. is_numbered number p && is_fetch_of spends.0 spends.1.0 (fetch_of p)) permits is in
          passes_any (is_numbered number) permits one.one one.stands (and_parts (is_numbered number one.one) (is_fetch_of spends.0 spends.1.0 (fetch_of one.one)) one.passes).0

  pub spends_some : (number moment : ℕ) (outcome : Result Reason Cause) → SpendsAs (told b) number moment outcome → 0 < length (unspent (told b))
  spends_some number moment outcome spends = some (unspent (told b)) spends.1.1.0
    where
      some : (permits : List GrantedPermit) → is_listed_for permits number spends.0 spends.1.0 ≡ true → 0 < length permits
      some [] is = absurd (true≢false (sym is))
      some (p ∷ permits) is = omega arith

  pub denied_kept : (moment number : ℕ) (cause : Cause) (permits : Table) (places : PlaceCounts) → MayFollow (told b) (StartDenied moment number cause) → is_unspent b.permits number ≡ true →
      entries.items ≡ b.entries.items ++ StartDenied moment number cause ∷ [] → vec_capacity entries ≡ vec_capacity b.entries →
      permits ≡ with_out b.permits number (decided false (out_under b.permits number)) →
      LeavesPlace (held_by b.places) (out_under b.permits number) (held_by places) → IsKept (after b entries moment b.starts permits places)
  denied_kept moment number cause permits places fit out more room is left =
      let e : Entry = StartDenied moment number cause in
      let counts = each_entry_counts (told b) e kept.legal fit in
      let logged = kept.logged in
      let entry_room = kept.entry_room in
      kept_after b (after b entries moment b.starts permits places) e kept fit tt refl refl more (late_is moment (now (told b)) fit.0) kept.begins (let few = kept.few_begins in omega arith) kept.starts
      kept.cache refl
      (subst (λ (t : Table). TellsPermits t (unspent (told b ▸ e)) (running (told b ▸ e)) (greatest_in (told b ▸ e))) (sym is)
      (permit_laws.returned b.permits (unspent (told b)) (running (told b)) (greatest_in (told b)) number kept.permits out))
      (ap (λ (t : Table). length t.slots) is ∙ length-set b.permits.slots _ _) (ap (λ (t : Table). t.first_generation) is) kept.grants kept.names
      (ends_held number permits places (unspent_some (out_under b.permits number) out) is left)
      (omega (arith, logged, counts.unspent_are, counts.running_are, counts.flights_are)) (omega (arith, entry_room, room, counts.unspent_are, counts.running_are, counts.flights_are))

  pub returned_kept : (number : ℕ) (permits : Table) (places : PlaceCounts) → is_unspent b.permits number ≡ true →
      entries.items ≡ b.entries.items ++ Returned number ∷ [] → vec_capacity entries ≡ vec_capacity b.entries →
      permits ≡ with_out b.permits number Nothing →
      LeavesPlace (held_by b.places) (out_under b.permits number) (held_by places) → IsKept (after b entries b.clock b.starts permits places)
  returned_kept number permits places out more room is left =
      let e : Entry = Returned number in
      let fit = sym (reads.unspent_numbers number) ∙ out in
      let counts = each_entry_counts (told b) e kept.legal fit in
      let logged = kept.logged in
      let entry_room = kept.entry_room in
      kept_after b (after b entries b.clock b.starts permits places) e kept fit tt refl refl more (kept.clock ∙ early_is (now (told b))) kept.begins (let few = kept.few_begins in omega arith) kept.starts
      kept.cache refl
      (subst (λ (t : Table). TellsPermits t (unspent (told b ▸ e)) (running (told b ▸ e)) (greatest_in (told b ▸ e))) (sym is)
      (permit_laws.returned b.permits (unspent (told b)) (running (told b)) (greatest_in (told b)) number kept.permits out))
      (ap (λ (t : Table). length t.slots) is ∙ length-set b.permits.slots _ _) (ap (λ (t : Table). t.first_generation) is) kept.grants kept.names
      (ends_held number permits places (unspent_some (out_under b.permits number) out) is left)
      (omega (arith, logged, counts.unspent_are, counts.running_are, counts.flights_are)) (omega (arith, entry_room, room, counts.unspent_are, counts.running_are, counts.flights_are))

  pub finished_kept : (number : ℕ) (permits : Table) (places : PlaceCounts) → is_running b.permits number ≡ true →
      entries.items ≡ b.entries.items ++ Finished number ∷ [] → vec_capacity entries ≡ vec_capacity b.entries →
      permits ≡ with_out b.permits number Nothing →
      LeavesPlace (held_by b.places) (out_under b.permits number) (held_by places) → IsKept (after b entries b.clock b.starts permits places)
  finished_kept number permits places out more room is left =
      let e : Entry = Finished number in
      let fit = sym (reads.running_numbers number) ∙ out in
      let counts = each_entry_counts (told b) e kept.legal fit in
      let logged = kept.logged in
      let entry_room = kept.entry_room in
      kept_after b (after b entries b.clock b.starts permits places) e kept fit tt refl refl more (kept.clock ∙ early_is (now (told b))) kept.begins (let few = kept.few_begins in omega arith) kept.starts
      kept.cache refl
      (subst (λ (t : Table). TellsPermits t (unspent (told b ▸ e)) (running (told b ▸ e)) (greatest_in (told b ▸ e))) (sym is)
      (permit_laws.finished b.permits (unspent (told b)) (running (told b)) (greatest_in (told b)) number kept.permits out))
      (ap (λ (t : Table). length t.slots) is ∙ length-set b.permits.slots _ _) (ap (λ (t : Table). t.first_generation) is) kept.grants kept.names
      (ends_held number permits places (running_some (out_under b.permits number) out) is left)
      (omega (arith, logged, counts.unspent_are, counts.running_are, counts.flights_are)) (omega (arith, entry_room, room, counts.unspent_are, counts.running_are, counts.flights_are))

  pub ask_denied_kept : (moment : ℕ) (fetch : Fetch) (cause : Cause) → MayFollow (told b) (AskDenied moment fetch cause) →
      entries.items ≡ b.entries.items ++ AskDenied moment fetch cause ∷ [] → length b.entries.items + 1 + promised (told b) ≤ vec_capacity entries →
      length b.entries.items + promised (told b) + 3 ≤ most_room b.limits b.base → IsKept (after b entries moment b.starts b.permits b.places)
  ask_denied_kept moment fetch cause fit more room free =
      let e : Entry = AskDenied moment fetch cause in
      kept_after b (after b entries moment b.starts b.permits b.places) e kept fit tt refl refl more (late_is moment (now (told b)) fit.0) kept.begins (let few = kept.few_begins in omega arith) kept.starts
      kept.cache refl kept.permits refl refl kept.grants kept.names kept.places (omega (arith, free)) room

  pub next_is : (number : ℕ) → IsNext b.permits number → IsNextBy b.limits.slots b.limits.first_generation (unspent (told b)) (running (told b)) (greatest_in (told b)) number
  next_is number is =
      subst (λ (slots : ℕ). IsNextBy slots b.limits.first_generation (unspent (told b)) (running (told b)) (greatest_in (told b)) number) kept.slots
      (subst (λ (first : ℕ). IsNextBy (length b.permits.slots) first (unspent (told b)) (running (told b)) (greatest_in (told b)) number) kept.first
      ((permit_laws.next_alike b.permits (unspent (told b)) (running (told b)) (greatest_in (told b)) number kept.permits).0 is))

  granted_grants : (number : ℕ) → IsNext b.permits number → list_all (is_grant_of b.limits) (with_grant number (grants (told b))) ≡ true
  granted_grants number is =
      let next = next_is number is in
      let free = and_parts (not (holds_slot (unspent (told b)) (slot_of number) || holds_slot (running (told b)) (slot_of number))) (nat_lt (greatest_in (told b) (slot_of number)) last_generation) next.free in
      let bounds = generation_bounds b.limits.first_generation (greatest_in (told b) (slot_of number)) kept.limits.first kept.limits.last (ltb-true (greatest_in (told b) (slot_of number)) last_generation free.1) in
      with_grant_of b.limits number (grants (told b)) kept.grants next.in_range (omega (arith, next.generation, bounds.0)) (omega (arith, next.generation, bounds.1))

  -- a next number is above all earlier ones of its slot, and was never granted
  next_free : (number : ℕ) → IsNext b.permits number → (is_covered (grants (told b)) number ≡ false) × (was_granted (told b) number ≡ false)
  next_free number is = history_laws.next_new (told b) b.limits.slots b.limits.first_generation number (let some = kept.limits.first in omega arith) (next_is number is)

  next_rises : (number : ℕ) → IsNext b.permits number → is_covered (grants (told b)) number ≡ false
  next_rises number is = (next_free number is).0

  pub next_new : (number : ℕ) → IsNext b.permits number → was_granted (told b) number ≡ false
  next_new number is = (next_free number is).1

  pub granted_kept : (moment number : ℕ) (fetch : Fetch) (permits : Table) (places : PlaceCounts) → MayFollow (told b) (Granted moment number fetch) → IsNext b.permits number →
      entries.items ≡ b.entries.items ++ Granted moment number fetch ∷ [] → length b.entries.items + 3 + promised (told b) ≤ vec_capacity entries →
      length b.entries.items + promised (told b) + 3 ≤ most_room b.limits b.base →
      permits ≡ with_out b.permits number (Unspent fetch) → AddsOne (held_by b.places) (authority_of fetch.url) (held_by places) → IsKept (after b entries moment b.starts permits places)
  granted_kept moment number fetch permits places fit is_next more room free is adds =
      let e : Entry = Granted moment number fetch in
      let counts = each_entry_counts (told b) e kept.legal fit in
      kept_after b (after b entries moment b.starts permits places) e kept fit (next_rises number is_next) refl refl more (late_is moment (now (told b)) fit.0) kept.begins (let few = kept.few_begins in omega arith) kept.starts
      kept.cache refl
      (subst (λ (t : Table). TellsPermits t (unspent (told b ▸ e)) (running (told b ▸ e)) (greatest_in (told b ▸ e))) (sym is)
      (permit_laws.granted b.permits (unspent (told b)) (running (told b)) (greatest_in (told b)) number fetch kept.permits is_next))
      (ap (λ (t : Table). length t.slots) is ∙ length-set b.permits.slots _ _) (ap (λ (t : Table). t.first_generation) is) (granted_grants number is_next) kept.names
      (λ authority. adds authority ∙ (ap (λ count. count + one_at (authority_of fetch.url) authority) (kept.places authority)
      ∙ (sym (permit_laws.held_granted b.permits number fetch authority is_next) ∙ ap (λ (t : Table). held_count t authority) (sym is))))
      (omega (arith, free, counts.unspent_are, counts.running_are, counts.flights_are)) (omega (arith, room, counts.unspent_are, counts.running_are, counts.flights_are))

  pub none_free_is : NoneFree b.permits → NoneFreeBy b.limits.slots (unspent (told b)) (running (told b)) (greatest_in (told b))
  none_free_is none =
      subst (λ (slots : ℕ). NoneFreeBy slots (unspent (told b)) (running (told b)) (greatest_in (told b))) kept.slots
      ((permit_laws.none_free_alike b.permits (unspent (told b)) (running (told b)) (greatest_in (told b)) kept.permits).0 none)

pub adds_of : (b : Inside) (g : Gate) (e : Entry) (entries : List Entry) → gate_of b ≡ g → entries ≡ b.entries.items ++ e ∷ [] → MayFollow (told b) e →
    Adds g e (record { limits = b.limits; base = b.base; entries = entries })
adds_of b g e entries is more fit =
    subst (λ (old : Gate). Adds old e (record { limits = b.limits; base = b.base; entries = entries })) is
    (record { adds = λ i. record { limits = b.limits; base = b.base; entries = more i }; fit = fit })

-- ---- what the tables count

module _ (b : Inside) (kept : IsKept b) where
  pub flights_many : IsApart b.cache → flight_count b.cache ≡ length (in_flight (told b))
  flights_many apart = (cache_laws.counts_alike b.cache (standing (told b)) (in_flight (told b)) kept.cache apart).flights

  pub authorities_many : IsApart b.cache → known_count b.cache ≡ known_by (standing (told b)) (in_flight (told b))
  authorities_many apart = (cache_laws.counts_alike b.cache (standing (told b)) (in_flight (told b)) kept.cache apart).known

  pub unspent_many : unspent_count b.permits ≡ length (unspent (told b))
  unspent_many = (reads b kept b.entries).unspent_many

  pub running_many : running_count b.permits ≡ length (running (told b))
  running_many = (reads b kept b.entries).running_many

  pub few_promised : length b.entries.items + promised (told b) ≤ 1000000
  few_promised = let logged = kept.logged in let few = kept.limits.entries in omega arith

  -- at most as many entries were ever made as a number holds, and no more starts than entries
  pub entries_many : entry_count (told b) ≡ b.base.entries + length b.entries.items
  entries_many = followed_count (from b.base) b.entries.items

  pub few_starts : b.starts ≤ entry_count (told b)
  few_starts = let counts = (leads_to_base (told b) kept.legal).counts in let starts = kept.starts in omega arith

-- ---- a book that is new

pub kept_new : (limits : Limits) (base : Base) (entries : Vec Entry Global) (cache : Known) (permits : Table) (names : TurnNames) (places : PlaceCounts) → AreLimits limits → base ≡ empty_base → IsBase base →
    entries.items ≡ [] → cache.limit ≡ limits.authority_limit → cache.sites ≡ [] → permits.slots ≡ replicate limits.slots unused → permits.first_generation ≡ limits.first_generation →
    ((authority : List ℕ) → held_by places authority ≡ 0) →
    IsKept (record { limits = limits; base = base; entries = entries; clock = 0; begins = 0; starts = 0; cache = cache; permits = permits; names = names; places = places })
kept_new limits base entries cache permits names places are base_is is_base none limit sites slots first none_held =
    let h : followed_by (from base) entries.items ≡ from empty_base = λ i. followed_by (from (base_is i)) (none i) in
    let empty : length entries.items ≡ 0 = ap length none in
    let table : permits ≡ record { first_generation = limits.first_generation; slots = replicate limits.slots unused } = λ i. record { first_generation = first i; slots = slots i } in
    let known : cache ≡ record { limit = limits.authority_limit; sites = [] } = λ i. record { limit = limit i; sites = sites i } in
    let many : length permits.slots ≡ limits.slots = ap length slots ∙ length-replicate limits.slots unused in
    let nothing : promised (followed_by (from base) entries.items) ≡ 0 = ap promised h in
    record {
      limits = are;
      legal = subst IsLegal (sym h) (subst IsBase base_is is_base);
      rises = subst (AllRise (from base)) (sym none) tt;
      clock = sym (ap now h);
      begins = sym (ap begins h);
      few_begins = omega arith;
      starts = sym (ap started_count h);
      sealed = omega (arith, ap (λ (b : Base). b.entries) base_is);
      cache = subst (λ (g : History). TellsCache cache (standing g) (in_flight g)) (sym h) (subst (λ (k : Known). TellsCache k [] []) (sym known) (cache_laws.new limits.authority_limit));
      authorities = limit;
      permits = subst (λ (g : History). TellsPermits permits (unspent g) (running g) (greatest_in g)) (sym h)
          (subst (λ (t : Table). TellsPermits t [] [] (λ _. 0)) (sym table)
          (permit_laws.new limits.first_generation limits.slots (record { some_generation = are.first; generations = are.last; slots = omega (arith, are.slots, length-replicate limits.slots unused) })));
      grants = ap (λ (g : History). list_all (is_grant_of limits) (grants g)) h;
      slots = many;
      first = first;
      names = subst (λ (g : History). HasNames (names_by names) (in_flight g)) (sym h) (λ k d low. absurd (omega (arith, low)));
      places = λ authority. none_held authority ∙ (sym (permit_laws.held_new limits.first_generation limits.slots authority) ∙ ap (λ (t : Table). held_count t authority) (sym table));
      logged = let some = are.some_entry in omega (arith, empty, nothing, ap (λ (b : Base). b.entries) base_is);
      entry_room = omega (arith, empty, nothing);
    }

-- ---- entries of turns and answers

-- the book after an entry of the cache
abbrev pub after_turn : Inside → Vec Entry Global → ℕ → ℕ → Known → TurnNames → Inside
after_turn b entries clock begins cache names = record {
  limits = b.limits;
  base = b.base;
  entries = entries;
  clock = clock;
  begins = begins;
  starts = b.starts;
  cache = cache;
  permits = b.permits;
  names = names;
  places = b.places;
}

-- no turn of the number is among these
abbrev NoneOf : ℕ → List Turn → Type 0
NoneOf turn turns = All (λ t. (turn == t.turn) ≡ false) turns

kept_others : (old new : NamesBy) (turn : ℕ) (name : Option (List ℕ)) (turns : List Turn) → KeepsName old turn name new → NoneOf turn turns → HasNames old turns → HasNames new turns
kept_others old new turn name [] keeps none has = λ k d low. absurd (omega (arith, low))
kept_others old new turn name (t ∷ turns) keeps none has =
    All-cons (λ t. new t.turn ≡ Some t.authority) t turns
    (keeps t.turn ∙ ap (λ (b : Bool). cond b name (old t.turn)) (All-head (λ t. (turn == t.turn) ≡ false) t turns none) ∙ All-head (λ t. old t.turn ≡ Some t.authority) t turns has)
    (kept_others old new turn name turns keeps (All-tail (λ t. (turn == t.turn) ≡ false) t turns none) (All-tail (λ t. old t.turn ≡ Some t.authority) t turns has))

itself : (n : ℕ) → (n == n) ≡ true
itself n = eq-eqb n n refl

earlier : (turn begun : ℕ) (turns : List Turn) → begun < turn → ((n : ℕ) → 0 < length (filter (has_number n) turns) → n ≤ begun) → NoneOf turn turns
earlier turn begun [] less few = λ k d low. absurd (omega (arith, low))
earlier turn begun (t ∷ turns) less few =
    All-cons (λ t. (turn == t.turn) ≡ false) t turns here (earlier turn begun turns less (λ n some. few n (more n some)))
  where
    first_by : (b : Bool) → (t.turn == t.turn) ≡ b → 0 < length (cond b (t ∷ filter (has_number t.turn) turns) (filter (has_number t.turn) turns))
    first_by true is = omega arith
    first_by false is = absurd (true≢false (sym (itself t.turn) ∙ is))

    first : 0 < length (filter (has_number t.turn) (t ∷ turns))
    first = first_by (t.turn == t.turn) refl

    here : (turn == t.turn) ≡ false
    here = let bound = few t.turn first in grind (arith, nat_tests)

    more_by : (n : ℕ) (b : Bool) → 0 < length (filter (has_number n) turns) → 0 < length (cond b (t ∷ filter (has_number n) turns) (filter (has_number n) turns))
    more_by n true some = omega arith
    more_by n false some = some

    more : (n : ℕ) → 0 < length (filter (has_number n) turns) → 0 < length (filter (has_number n) (t ∷ turns))
    more n some = more_by n (t.turn == n) some

others_left : (turn : ℕ) (turns : List Turn) → NoneOf turn (filter (λ t. not (has_number turn t)) turns)
others_left turn [] = λ k d low. absurd (omega (arith, low))
others_left turn (t ∷ turns) = by (t.turn == turn) refl (others_left turn turns)
  where
    by : (b : Bool) → (t.turn == turn) ≡ b → NoneOf turn (filter (λ t. not (has_number turn t)) turns) →
        All (λ t. (turn == t.turn) ≡ false) (cond (not b) (t ∷ filter (λ t. not (has_number turn t)) turns) (filter (λ t. not (has_number turn t)) turns))
    by true is rest = rest
    by false is rest = All-cons (λ t. (turn == t.turn) ≡ false) t (filter (λ t. not (has_number turn t)) turns) (grind (arith, nat_tests)) rest

names_left : (names : NamesBy) (test : Turn → Bool) (turns : List Turn) → HasNames names turns → HasNames names (filter test turns)
names_left names test [] has = has
names_left names test (t ∷ turns) has = by (test t) (names_left names test turns (All-tail (λ t. names t.turn ≡ Some t.authority) t turns has))
  where
    by : (b : Bool) → HasNames names (filter test turns) → HasNames names (cond b (t ∷ filter test turns) (filter test turns))
    by true rest = All-cons (λ t. names t.turn ≡ Some t.authority) t (filter test turns) (All-head (λ t. names t.turn ≡ Some t.authority) t turns has) rest
    by false rest = rest

module _ (b : Inside) (kept : IsKept b) (entries : Vec Entry Global) (cache : Known) (names : TurnNames) where
  once : StandsOnce (told b)
  once = stands_once (told b) kept.legal

  pub begun_kept : (moment : ℕ) (authority : List ℕ) → now (told b) ≤ moment → is_fetching (told b) authority ≡ false →
      is_flying (site_of b.cache authority) ≡ false → Changes b.cache authority (with_flight (record { turn = b.begins + 1; begun = moment }) (site_of b.cache authority)) cache →
      KeepsName (names_by b.names) (b.begins + 1) (Some authority) (names_by names) →
      entries.items ≡ b.entries.items ++ Begun moment authority (b.begins + 1) ∷ [] → length b.entries.items + 2 + promised (told b) ≤ vec_capacity entries →
      length b.entries.items + promised (told b) + 2 ≤ most_room b.limits b.base → IsKept (after_turn b entries moment (b.begins + 1) cache names)
  begun_kept moment authority late idle flying changes keeps more room free =
      let e : Entry = Begun moment authority (b.begins + 1) in
      let flight : Flight = record { turn = b.begins + 1; begun = moment } in
      let fit : MayFollow (told b) e = (late, idle, ap (λ n. n + 1) kept.begins) in
      let counts = each_entry_counts (told b) e kept.legal fit in
      kept_after b (after_turn b entries moment (b.begins + 1) cache names) e kept fit tt refl refl more (late_is moment (now (told b)) late) (ap (λ n. n + 1) kept.begins)
      (let few = kept.few_begins in omega arith) kept.starts
      (cache_laws.begun b.cache cache (standing (told b)) (in_flight (told b)) authority flight kept.cache flying changes) changes.limit
      kept.permits refl refl kept.grants
      (All-push (λ t. names_by names t.turn ≡ Some t.authority) (in_flight (told b)) (turn_for authority flight)
      (kept_others (names_by b.names) (names_by names) (b.begins + 1) (Some authority) (in_flight (told b)) keeps
      (earlier (b.begins + 1) b.begins (in_flight (told b)) (omega arith)
      (λ n some. let bound = once.turns.turns_begun n (omega (arith, some)) in let count = kept.begins in omega arith)) kept.names)
      (keeps (b.begins + 1) ∙ ap (λ (t : Bool). cond t (Some authority) (names_by b.names (b.begins + 1))) (itself (b.begins + 1))))
      kept.places
      (omega (arith, free, counts.unspent_are, counts.running_are, counts.flights_are)) (omega (arith, room, counts.unspent_are, counts.running_are, counts.flights_are))

  pub arrived_kept : (moment turn : ℕ) (authority : List ℕ) (answer : Timed) → IsOwnLife answer → now (told b) ≤ moment → has_turn turn (site_of b.cache authority) ≡ true →
      Changes b.cache authority (arrived turn answer.says answer.life (site_of b.cache authority)) cache → KeepsName (names_by b.names) turn None (names_by names) →
      entries.items ≡ b.entries.items ++ Arrived answer.life moment authority turn answer.says ∷ [] → vec_capacity entries ≡ vec_capacity b.entries →
      IsKept (after_turn b entries moment b.begins cache names)
  arrived_kept moment turn authority answer own late flying changes keeps more room =
      let e : Entry = Arrived answer.life moment authority turn answer.says in
      let stands = sym ((cache_laws.reads_alike b.cache (standing (told b)) (in_flight (told b)) kept.cache).turns authority turn) ∙ flying in
      let fit : MayFollow (told b) e = (late, stands, own) in
      let counts = each_entry_counts (told b) e kept.legal fit in
      let logged = kept.logged in
      let entry_room = kept.entry_room in
      kept_after b (after_turn b entries moment b.begins cache names) e kept fit tt refl refl more (late_is moment (now (told b)) late) kept.begins (let few = kept.few_begins in omega arith) kept.starts
      (cache_laws.arrives b.cache cache (standing (told b)) (in_flight (told b)) authority turn answer.life answer.says kept.cache flying (once.own_turn authority turn stands) changes) changes.limit
      kept.permits refl refl kept.grants
      (kept_others (names_by b.names) (names_by names) turn None (filter (λ t. not (has_number turn t)) (in_flight (told b))) keeps (others_left turn (in_flight (told b)))
      (names_left (names_by b.names) (λ t. not (has_number turn t)) (in_flight (told b)) kept.names))
      kept.places
      (omega (arith, logged, counts.unspent_are, counts.running_are, counts.flights_are)) (omega (arith, entry_room, room, counts.unspent_are, counts.running_are, counts.flights_are))

  pub swept_kept : (moment count : ℕ) → now (told b) ≤ moment → count ≡ past_count (told b) moment → Sweeps b.cache moment count cache →
      entries.items ≡ b.entries.items ++ Swept moment count ∷ [] → length b.entries.items + 1 + promised (told b) ≤ vec_capacity entries →
      length b.entries.items + promised (told b) + 1 ≤ most_room b.limits b.base → IsKept (after_turn b entries moment b.begins cache b.names)
  swept_kept moment count late is sweeps more room free =
      let e : Entry = Swept moment count in
      kept_after b (after_turn b entries moment b.begins cache b.names) e kept (late, is) tt refl refl more (late_is moment (now (told b)) late) kept.begins (let few = kept.few_begins in omega arith) kept.starts
      (cache_laws.swept_away b.cache cache (standing (told b)) (in_flight (told b)) moment count kept.cache sweeps) sweeps.limit
      kept.permits refl refl kept.grants kept.names kept.places (omega (arith, free)) room

pub late_moment : (b : Inside) (g : Gate) → gate_of b ≡ g → (handed_in moment : ℕ) → moment ≡ at_moment (history g) handed_in → now (told b) ≤ moment
late_moment b g is handed_in moment same = omega (arith, same, ap (λ (g : Gate). now (history g)) is)

pub swept_many : (b : Inside) → IsKept b → (moment count : ℕ) (cache : Known) → Sweeps b.cache moment count cache → IsApart b.cache → count ≡ past_count (told b) moment
swept_many b kept moment count cache sweeps apart = sweeps.dropped ∙ (cache_laws.counts_alike b.cache (standing (told b)) (in_flight (told b)) kept.cache apart).past moment

pub kept_unchanged : (b : Inside) → IsKept b → (entries : Vec Entry Global) (cache : Known) (names : TurnNames) → entries.items ≡ b.entries.items → vec_capacity b.entries ≤ vec_capacity entries →
    cache ≡ b.cache → HasNames (names_by names) (in_flight (told b)) → IsKept (after_turn b entries b.clock b.begins cache names)
kept_unchanged b kept entries cache names same room still named =
    let h : followed_by (from b.base) entries.items ≡ told b = ap (followed_by (from b.base)) same in
    let many : length entries.items ≡ length b.entries.items = ap length same in
    let logged = kept.logged in
    let entry_room = kept.entry_room in
    let few = kept.few_begins in
    record {
      limits = kept.limits;
      legal = subst IsLegal (sym h) kept.legal;
      rises = subst (AllRise (from b.base)) (sym same) kept.rises;
      clock = kept.clock ∙ ap now (sym h);
      begins = kept.begins ∙ ap begins (sym h);
      few_begins = omega (arith, few, many);
      starts = kept.starts ∙ ap started_count (sym h);
      sealed = kept.sealed;
      cache = subst (λ (g : History). TellsCache cache (standing g) (in_flight g)) (sym h) (subst (λ (k : Known). TellsCache k (standing (told b)) (in_flight (told b))) (sym still) kept.cache);
      authorities = ap (λ (k : Known). k.limit) still ∙ kept.authorities;
      permits = subst (λ (g : History). TellsPermits b.permits (unspent g) (running g) (greatest_in g)) (sym h) kept.permits;
      grants = subst (λ (g : History). list_all (is_grant_of b.limits) (grants g) ≡ true) (sym h) kept.grants;
      slots = kept.slots;
      first = kept.first;
      names = subst (λ (g : History). HasNames (names_by names) (in_flight g)) (sym h) named;
      places = kept.places;
      logged = omega (arith, logged, many, ap promised h);
      entry_room = omega (arith, entry_room, room, many, ap promised h);
    }

pub kept_refused : (b : Inside) → IsKept b → (entries : Vec Entry Global) (permits : Table) (places : PlaceCounts) → entries.items ≡ b.entries.items → vec_capacity b.entries ≤ vec_capacity entries →
    permits ≡ b.permits → held_by places ≡ held_by b.places → IsKept (after b entries b.clock b.starts permits places)
kept_refused b kept entries permits places same room still counted =
    let u = kept_unchanged b kept entries b.cache b.names same room refl kept.names in
    subst (λ (t : Table). IsKept (after b entries b.clock b.starts t places)) (sym still) (record {
      limits = u.limits;
      legal = u.legal;
      rises = u.rises;
      clock = u.clock;
      begins = u.begins;
      few_begins = u.few_begins;
      starts = u.starts;
      sealed = u.sealed;
      cache = u.cache;
      authorities = u.authorities;
      permits = u.permits;
      grants = u.grants;
      slots = u.slots;
      first = u.first;
      names = u.names;
      places = λ authority. ap (λ (count : HeldBy). count authority) counted ∙ kept.places authority;
      logged = u.logged;
      entry_room = u.entry_room;
    })

pub still_named : (b : Inside) → IsKept b → (names : TurnNames) (name : Option (List ℕ)) → KeepsName (names_by b.names) (b.begins + 1) name (names_by names) →
    HasNames (names_by names) (in_flight (told b))
still_named b kept names name keeps =
    kept_others (names_by b.names) (names_by names) (b.begins + 1) name (in_flight (told b)) keeps
    (earlier (b.begins + 1) b.begins (in_flight (told b)) (omega arith)
    (λ n some. let bound = (stands_once (told b) kept.legal).turns.turns_begun n (omega (arith, some)) in let count = kept.begins in omega arith)) kept.names

pub held_many : (b : Inside) → IsKept b → (authority : List ℕ) → held_by b.places authority ≡ held (told b) authority
held_many b kept authority = kept.places authority ∙ (reads b kept b.entries).held authority

pub turn_named : (b : Inside) → IsKept b → (authority : List ℕ) (turn : ℕ) → has_turn turn (site_of b.cache authority) ≡ true → names_by b.names turn ≡ Some authority
turn_named b kept authority turn flying =
    let stands = sym ((cache_laws.reads_alike b.cache (standing (told b)) (in_flight (told b)) kept.cache).turns authority turn) ∙ flying in
    let one = any_passes (λ t. has_number turn t && is_turn_of authority t) (in_flight (told b)) stands in
    let parts = and_parts (has_number turn one.one) (is_turn_of authority one.one) one.passes in
    let named = All-contains (λ t. names_by b.names t.turn ≡ Some t.authority) (in_flight (told b)) one.one kept.names one.stands in
    ap (names_by b.names) (sym (eqb-true one.one.turn turn parts.0)) ∙ named ∙ ap (λ (a : List ℕ). Some a) ((bytes_eq-Decides one.one.authority authority).0 parts.1)

pub turn_promised : (b : Inside) → IsKept b → (authority : List ℕ) (turn : ℕ) → has_turn turn (site_of b.cache authority) ≡ true → length b.entries.items < vec_capacity b.entries
turn_promised b kept authority turn flying =
    let stands = sym ((cache_laws.reads_alike b.cache (standing (told b)) (in_flight (told b)) kept.cache).turns authority turn) ∙ flying in
    let some = any_some (in_flight (told b)) stands in
    let room = kept.entry_room in
    omega arith
  where
    any_some : (turns : List Turn) → list_any (λ t. has_number turn t && is_turn_of authority t) turns ≡ true → 0 < length turns
    any_some [] is = absurd (true≢false (sym is))
    any_some (t ∷ turns) is = omega arith

pub turn_stands : (b : Inside) → IsKept b → (authority : List ℕ) (turn : ℕ) → has_turn turn (site_of b.cache authority) ≡ true → standing_turn (told b) authority turn ≡ true
turn_stands b kept authority turn flying = sym ((cache_laws.reads_alike b.cache (standing (told b)) (in_flight (told b)) kept.cache).turns authority turn) ∙ flying
