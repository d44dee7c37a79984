-- A book that continues from a base which says what its history did keeps the invariant.
-- Used by `Book::seal`.
use Rattle.std.proofs.Common.{◌≡◌, ℕ, ◌<◌, ◌≤◌, Bool, true, false, All, Vec, Global, cond, get_or, List, [], ◌∷◌, length, filter, refl, sym, ap, subst, ◌∙◌, true≢false, arith}
use Rattle.std.specs.Prelude.{Some, vec_capacity}
use Rattle.std.specs.List.{list_all}
use Rattle.std.proofs.lemmas.List.Elements.{All-cons, All-filter, All-head, All-nil, All-tail}
use Rattle.authority_cache.specs.declared.turn.Turn.{Turn}
use Rattle.authority_cache.specs.Lists.{TellsCache, is_turn_of}
use Rattle.authority_cache.proofs.CallerLemmas.{same_text}
use Rattle.permit_book.specs.Outstanding.{TellsPermits, fetch_of, is_numbered}
use Rattle.gate_history.specs.declared.entry.Entry.{Entry}
use Rattle.gate_history.specs.Base.{Base, IsBase}
use Rattle.gate_history.specs.Grants.{is_in}
use Rattle.gate_history.specs.History.{History, begins, followed_by, from, now, started_count}
use Rattle.gate_history.specs.Legal.{AllRise, IsLegal}
use Rattle.gate_history.specs.Outstanding.{grants, greatest_in, running, unspent}
use Rattle.gate_history.specs.Seal.{SaysAs}
use Rattle.gate_history.specs.Segment.{Sealed}
use Rattle.gate_history.specs.Standing.{in_flight, standing}
use Rattle.gate_history.proofs.CallerLemmas.{leads_to_base, says-all, says-length}
use Rattle.gate_core.specs.declared.book.Book.TheInside.{Inside}
use Rattle.gate_core.specs.Gate.{Gate, promised}
use Rattle.gate_core.specs.Kept.{IsKept, is_grant_of}
use Rattle.gate_core.specs.Sealing.{GoesOn, HandsOut}
use Rattle.gate_core.specs.TurnNames.{HasNames, names_by}
use Rattle.gate_core.proofs.Keeping.{entries_many, told}

where_passes : {X : Type 0} (P : X → Type 0) (q : X → Bool) (xs : List X) → All P (filter q xs) → All (λ x. q x ≡ true → P x) xs
where_passes P q [] all = All-nil (λ x. q x ≡ true → P x)
where_passes P q (x ∷ xs) all = by (q x) refl all (where_passes P q xs)
  where
    by : (b : Bool) → q x ≡ b → All P (cond b (x ∷ filter q xs) (filter q xs)) → (All P (filter q xs) → All (λ x. q x ≡ true → P x) xs) → All (λ x. q x ≡ true → P x) (x ∷ xs)
    by true is all rest = All-cons (λ x. q x ≡ true → P x) x xs (λ passes. All-head P x (filter q xs) all) (rest (All-tail P x (filter q xs) all))
    by false is all rest = All-cons (λ x. q x ≡ true → P x) x xs (λ passes. absurd (true≢false (sym passes ∙ is))) (rest all)

turns_alike : (P : Turn → Type 0) (xs ys : List Turn) → ((a : List ℕ) → filter (is_turn_of a) ys ≡ filter (is_turn_of a) xs) → All P xs → All P ys
turns_alike P xs ys each all k d low =
    let t = get_or ys k d in
    where_passes P (is_turn_of t.authority) ys (subst (All P) (sym (each t.authority)) (All-filter (is_turn_of t.authority) P xs all)) k d low (same_text t.authority)

module _ (b : Inside) (kept : IsKept b) (next : Base) (room : Vec Entry Global) (base : IsBase next) (says : SaysAs (from next) (told b)) (empty : room.items ≡ []) where
  -- the book behind the seal
  abbrev pub behind : Inside
  behind = record {
    limits = b.limits;
    base = next;
    entries = room;
    clock = b.clock;
    begins = b.begins;
    starts = b.starts;
    cache = b.cache;
    permits = b.permits;
    names = b.names;
    places = b.places;
  }

  is : told behind ≡ from next
  is = ap (followed_by (from next)) empty

  same_promise : promised (told behind) ≡ promised (told b)
  same_promise =
      let turns = says-length is_turn_of next.in_flight (in_flight (told b)) says.turns in
      let permits = says-length is_numbered next.unspent (unspent (told b)) says.permits in
      let runs = says-length is_numbered next.running (running (told b)) says.runs in
      ap promised is ∙ omega (arith, turns, permits, runs)

  none : length room.items ≡ 0
  none = ap length empty

  pub sealed_kept : promised (told b) ≤ vec_capacity room → IsKept behind
  sealed_kept fits = record {
    limits = kept.limits;
    legal = subst IsLegal (sym is) base;
    rises = subst (AllRise (from next)) (sym empty) tt;
    clock = kept.clock ∙ (sym says.moment ∙ sym (ap now is));
    begins = kept.begins ∙ (sym says.begun ∙ sym (ap begins is));
    few_begins = let counts = (leads_to_base (told b) kept.legal).counts in let begun = kept.begins in let entries = says.entries in omega (arith, counts, begun, entries, none);
    starts = kept.starts ∙ (sym says.started ∙ sym (ap started_count is));
    sealed = let many = entries_many b kept in let logged = kept.logged in let low = kept.sealed in let entries = says.entries in omega (arith, many, logged, low, entries);
    cache = subst (λ (g : History). TellsCache b.cache (standing g) (in_flight g)) (sym is) (record {
      answers_are = λ a. says.answers.each a ∙ kept.cache.answers_are a;
      turns_are = λ a. says.turns.each a ∙ kept.cache.turns_are a;
    });
    authorities = kept.authorities;
    permits = subst (λ (g : History). TellsPermits b.permits (unspent g) (running g) (greatest_in g)) (sym is) (record {
      within = kept.permits.within;
      last = λ slot low. kept.permits.last slot low ∙ sym (says.greatest slot);
      unspent_under = λ n. says.permits.each n ∙ kept.permits.unspent_under n;
      running_under = λ n. says.runs.each n ∙ kept.permits.running_under n;
      unspent_for = λ test. says.permits.counts (λ p. test (fetch_of p)) ∙ kept.permits.unspent_for test;
      running_for = λ test. says.runs.counts (λ p. test (fetch_of p)) ∙ kept.permits.running_for test;
    });
    grants = subst (λ (g : History). list_all (is_grant_of b.limits) (grants g) ≡ true) (sym is) (says-all is_in next.grants (grants (told b)) says.slots (is_grant_of b.limits) kept.grants);
    slots = kept.slots;
    first = kept.first;
    names = subst (λ (g : History). HasNames (names_by b.names) (in_flight g)) (sym is)
        (turns_alike (λ t. names_by b.names t.turn ≡ Some t.authority) (in_flight (told b)) next.in_flight says.turns.each kept.names);
    places = kept.places;
    logged = let many = entries_many b kept in let logged = kept.logged in let low = kept.sealed in let entries = says.entries in omega (arith, many, logged, low, entries, none, same_promise);
    entry_room = omega (arith, none, same_promise, fits);
  }

pub handed : (entries : List Entry) (old new : Gate) (sealed : Sealed) → 0 < length entries → sealed ≡ record { base = old.base; entries = old.entries } → GoesOn old new →
    HandsOut entries old sealed new
handed [] old new sealed some is goes = absurd (omega (arith, some))
handed (e ∷ later) old new sealed some is goes = (is, goes)
