-- A book that continues from a base with nothing outstanding keeps the invariant.
-- Used by `Book::resume`.
use Rattle.std.proofs.Common.{◌≡◌, ℕ, ◌+◌, ◌<◌, ◌≤◌, Bool, true, false, max, Vec, Global, List, [], ◌∷◌, ◌++◌, length, take, replicate, get_or, refl, sym, ap, subst, ◌∙◌, arith}
use Rattle.std.specs.List.{list_all}
use Rattle.std.proofs.lemmas.Bool.{and_parts, leb-true, ltb-true, true≢false}
use Rattle.std.proofs.lemmas.List.{length-replicate, length-set, take_more}
use Rattle.std.proofs.lemmas.List.Folds.{list_all_at}
use Rattle.authority_cache.specs.Lists.{TellsCache}
use Rattle.authority_cache.specs.Sites.{Known}
use Rattle.permit_book.specs.Numbers.{last_generation}
use Rattle.permit_book.specs.Outstanding.{TellsPermits}
use Rattle.permit_book.specs.Table.{Table, held_count, is_nothing, noted, slot_at, unused}
use Rattle.permit_book.proofs.CallerLemmas as permit_laws
use Rattle.gate_history.specs.declared.entry.Entry.{Entry}
use Rattle.gate_history.specs.declared.base.SlotGrant.{SlotGrant}
use Rattle.gate_history.specs.Base.{Base, IsBase}
use Rattle.gate_history.specs.Grants.{generation_in, greatest_of}
use Rattle.gate_history.specs.History.{History, begins, followed_by, from, now, started_count}
use Rattle.gate_history.specs.Legal.{AllRise, IsLegal}
use Rattle.gate_history.specs.Outstanding.{grants, greatest_in, running, unspent}
use Rattle.gate_history.specs.Standing.{in_flight, standing}
use Rattle.gate_core.specs.declared.config.Limits.{Limits}
use Rattle.gate_core.specs.declared.place_counts.PlaceCounts.{PlaceCounts}
use Rattle.gate_core.specs.declared.turn_names.TurnNames.{TurnNames}
use Rattle.gate_core.specs.Gate.{promised}
use Rattle.gate_core.specs.Kept.{is_grant_of, IsKept}
use Rattle.gate_core.specs.Limits.{AreLimits, greatest_number}
use Rattle.gate_core.specs.PlaceCounts.{held_by}
use Rattle.gate_core.specs.Resuming.{IsBehind}
use Rattle.gate_core.specs.TurnNames.{HasNames, names_by}

greatest_more : (xs : List SlotGrant) (x : SlotGrant) (slot : ℕ) → greatest_of (xs ++ x ∷ []) slot ≡ max (generation_in slot x) (greatest_of xs slot)
greatest_more [] x slot = refl
greatest_more (y ∷ ys) x slot = omega (arith, greatest_more ys x slot)

pub grant_fits : (limits : Limits) (g : SlotGrant) → is_grant_of limits g ≡ true → (g.slot < limits.slots) × (g.generation ≤ last_generation)
grant_fits limits g is =
    let parts = and_parts _ _ is in
    let later = and_parts _ _ parts.1 in
    (ltb-true g.slot limits.slots parts.0, leb-true g.generation last_generation later.1)

pub each_fits : (limits : Limits) (gs : List SlotGrant) (i : ℕ) (d : SlotGrant) → list_all (is_grant_of limits) gs ≡ true → i < length gs → is_grant_of limits (get_or gs i d) ≡ true
each_fits limits gs i d all low = by (is_grant_of limits (get_or gs i d)) refl
  where
    by : (b : Bool) → is_grant_of limits (get_or gs i d) ≡ b → b ≡ true
    by true is = refl
    by false is = absurd (true≢false (sym all ∙ list_all_at (is_grant_of limits) gs i d low is))

pub behind_none : (limits : Limits) (t : Table) → AreLimits limits → t.slots ≡ replicate limits.slots unused → t.first_generation ≡ limits.first_generation → IsBehind limits [] t
behind_none limits t are slots first =
    let table : t ≡ record { first_generation = limits.first_generation; slots = replicate limits.slots unused } = λ i. record { first_generation = first i; slots = slots i } in
    record {
      tells = subst (λ (t : Table). TellsPermits t [] [] (greatest_of [])) (sym table)
          (permit_laws.new limits.first_generation limits.slots (record { some_generation = are.first; generations = are.last; slots = omega (arith, are.slots, length-replicate limits.slots unused) }));
      slots = ap length slots ∙ length-replicate limits.slots unused;
      first = first;
    }

pub behind_empty : (limits : Limits) (gs : List SlotGrant) (t : Table) (slot : ℕ) → IsBehind limits gs t → is_nothing (slot_at t slot).out ≡ true
behind_empty limits gs t slot behind = permit_laws.idle_empty t (greatest_of gs) slot behind.tells

pub behind_more : (limits : Limits) (gs : List SlotGrant) (i : ℕ) (g d : SlotGrant) (t t' : Table) → IsBehind limits (take i gs) t → i < length gs → g ≡ get_or gs i d →
    is_grant_of limits g ≡ true → t' ≡ noted t g.slot g.generation → IsBehind limits (take (i + 1) gs) t'
behind_more limits gs i g d t t' behind low read fits is =
    let more : take (i + 1) gs ≡ take i gs ++ g ∷ [] = take_more gs i d low ∙ ap (λ x. take i gs ++ x ∷ []) (sym read) in
    let within : g.slot < length t.slots = let slots = behind.slots in let fit = grant_fits limits g fits in omega (arith, slots, fit.0) in
    subst (λ (t : Table). IsBehind limits (take (i + 1) gs) t) (sym is)
    (record {
      tells = permit_laws.greatest_alike (noted t g.slot g.generation) [] [] _ (greatest_of (take (i + 1) gs))
          (permit_laws.noted_tells t [] [] (greatest_of (take i gs)) g.slot g.generation behind.tells within (behind_empty limits (take i gs) t g.slot behind))
          (λ slot. ap (λ xs. greatest_of xs slot) more ∙ greatest_more (take i gs) g slot);
      slots = length-set t.slots g.slot _ ∙ behind.slots;
      first = behind.first;
    })

none_held : (limits : Limits) (gs : List SlotGrant) (t : Table) → IsBehind limits gs t → (authority : List ℕ) → held_count t authority ≡ 0
none_held limits gs t behind authority = (permit_laws.reads_alike t [] [] (greatest_of gs) behind.tells).held authority

pub resumed_kept : (limits : Limits) (base : Base) (entries : Vec Entry Global) (cache : Known) (permits : Table) (names : TurnNames) (places : PlaceCounts) → AreLimits limits → IsBase base →
    base.in_flight ≡ [] → base.unspent ≡ [] → base.running ≡ [] → base.entries ≤ greatest_number → entries.items ≡ [] →
    TellsCache cache base.standing base.in_flight → cache.limit ≡ limits.authority_limit → list_all (is_grant_of limits) base.grants ≡ true → IsBehind limits base.grants permits →
    ((authority : List ℕ) → held_by places authority ≡ 0) →
    IsKept (record { limits = limits; base = base; entries = entries; clock = base.moment; begins = base.begins; starts = base.started; cache = cache; permits = permits; names = names; places = places })
resumed_kept limits base entries cache permits names places are is_base turns outs runs sealed none tells limit fits behind held =
    let h : followed_by (from base) entries.items ≡ from base = ap (followed_by (from base)) none in
    let empty : length entries.items ≡ 0 = ap length none in
    let nothing : promised (followed_by (from base) entries.items) ≡ 0 =
    ap promised h ∙ omega (arith, ap length turns, ap length outs, ap length runs) in
    record {
      limits = are;
      legal = subst IsLegal (sym h) is_base;
      rises = subst (AllRise (from base)) (sym none) tt;
      clock = sym (ap now h);
      begins = sym (ap begins h);
      few_begins = let counts = is_base.counts in omega (arith, counts);
      starts = sym (ap started_count h);
      sealed = sealed;
      cache = subst (λ (g : History). TellsCache cache (standing g) (in_flight g)) (sym h) tells;
      authorities = limit;
      permits = subst (λ (g : History). TellsPermits permits (unspent g) (running g) (greatest_in g)) (sym h)
          (subst (λ ps. TellsPermits permits ps base.running (greatest_of base.grants)) (sym outs) (subst (λ ps. TellsPermits permits [] ps (greatest_of base.grants)) (sym runs) behind.tells));
      grants = ap (λ (g : History). list_all (is_grant_of limits) (grants g)) h ∙ fits;
      slots = behind.slots;
      first = behind.first;
      names = subst (λ (g : History). HasNames (names_by names) (in_flight g)) (sym h)
          (subst (HasNames (names_by names)) (sym turns) (λ k d low. absurd (omega (arith, low))));
      places = λ authority. held authority ∙ sym (none_held limits base.grants permits behind authority);
      logged = omega (arith, empty, nothing);
      entry_room = omega (arith, empty, nothing);
    }
