-- What each kind of entry adds to the counts, and what it takes from them.
-- Used by `each_entry_counts` of `laws.rt`.
use Rattle.std.proofs.Common.{◌≡◌, ℕ, ◌+◌, ◌≤◌, Bool, true, false, not, ◌&&◌, List, [], ◌∷◌, length, filter, refl, length-append, arith}
use Rattle.std.specs.List.{list_any}
use Rattle.std.proofs.lemmas.List.Filters.{length-filter_both}
use Rattle.permit_book.specs.declared.granted_permit.GrantedPermit.{GrantedPermit}
use Rattle.permit_book.specs.Outstanding.{fetch_of, is_numbered, permit_for, without}
use Rattle.permit_book.specs.Table.{is_fetch_of}
use Rattle.permit_book.proofs.CallerLemmas.{list_any-more}
use Rattle.authority_cache.specs.declared.turn.Turn.{Turn}
use Rattle.authority_cache.specs.Lists.{has_number, is_turn_of, turn_for}
use Rattle.gate_history.specs.declared.entry.Entry.TheVariants.{Begun, Arrived, Granted, AskDenied, Started, StartDenied, Returned, Finished, Swept}
use Rattle.gate_history.specs.History.{History}
use Rattle.gate_history.specs.Outstanding.{running, stands, unspent}
use Rattle.gate_history.specs.Standing.{in_flight}
use Rattle.gate_history.specs.Laws.{EachEntryCounts, StandsOnce}
use Rattle.gate_history.proofs.Counting.{some-found}
use Rattle.gate_history.proofs.Soundness.{stands_once}

without-parts : (number : ℕ) (permits : List GrantedPermit) → length (filter (is_numbered number) permits) + length (without number permits) ≡ length permits
without-parts number permits = length-filter_both (is_numbered number) (λ p. not (is_numbered number p)) (λ p. refl) permits

first-of : (a b : Bool) → (a && b) ≡ true → a ≡ true
first-of true b is = refl
first-of false b is = is

one-permit : (permits : List GrantedPermit) (number : ℕ) → list_any (is_numbered number) permits ≡ true → length (filter (is_numbered number) permits) ≤ 1 →
    length (without number permits) + 1 ≡ length permits
one-permit permits number found once =
    let some = some-found (is_numbered number) permits found in omega (arith, without-parts number permits)

listed : (h : History) (number : ℕ) (token url : List ℕ) → stands h number token url ≡ true → list_any (is_numbered number) (unspent h) ≡ true
listed h number token url found =
    list_any-more (λ p. is_numbered number p && is_fetch_of token url (fetch_of p)) (is_numbered number) (unspent h)
    (λ p is. first-of (is_numbered number p) (is_fetch_of token url (fetch_of p)) is) found

one-unspent : (h : History) → StandsOnce h → (number : ℕ) → list_any (is_numbered number) (unspent h) ≡ true →
    length (without number (unspent h)) + 1 ≡ length (unspent h)
one-unspent h once number found = one-permit (unspent h) number found (let few = once.permits.numbers_once number in omega arith)

pub each_entry_counts : EachEntryCounts
each_entry_counts h (Begun m a turn) legal fit = record {
  entries_are = refl;
  started_are = omega arith;
  unspent_are = refl;
  running_are = refl;
  flights_are = omega (arith, length-append (in_flight h) (turn_for a (record { turn = turn; begun = m }) ∷ []));
}
each_entry_counts h (Arrived life m a turn says) legal fit =
    let once = stands_once h legal in
    let found : list_any (has_number turn) (in_flight h) ≡ true = any-first (in_flight h) fit.1 in
    let some = some-found (has_number turn) (in_flight h) found in
    let few = once.turns.turns_once turn in
    let parts = length-filter_both (has_number turn) (λ (t : Turn). not (has_number turn t)) (λ t. refl) (in_flight h) in
    record {
      entries_are = refl;
      started_are = omega arith;
      unspent_are = refl;
      running_are = refl;
      flights_are = omega arith;
    }
  where
    any-first : (ts : List Turn) → list_any (λ t. has_number turn t && is_turn_of a t) ts ≡ true → list_any (has_number turn) ts ≡ true
    any-first ts found = list_any-more (λ t. has_number turn t && is_turn_of a t) (has_number turn) ts
        (λ t is. first-of (has_number turn t) (is_turn_of a t) is) found
each_entry_counts h (Granted m n fetch) legal fit = record {
  entries_are = refl;
  started_are = omega arith;
  unspent_are = omega (arith, length-append (unspent h) (permit_for n fetch ∷ []));
  running_are = refl;
  flights_are = refl;
}
each_entry_counts h (AskDenied m fetch cause) legal fit = record {
  entries_are = refl;
  started_are = omega arith;
  unspent_are = refl;
  running_are = refl;
  flights_are = refl;
}
each_entry_counts h (Started m n reason) legal fit =
    let found = listed h n fit.1.0 fit.1.1.0 fit.1.1.1.0 in
    let less = one-unspent h (stands_once h legal) n found in
    record {
      entries_are = refl;
      started_are = refl;
      unspent_are = omega arith;
      running_are = omega (arith, length-append (running h) (filter (is_numbered n) (unspent h)), without-parts n (unspent h));
      flights_are = refl;
    }
each_entry_counts h (StartDenied m n cause) legal fit =
    let less = one-unspent h (stands_once h legal) n (listed h n fit.1.0 fit.1.1.0 fit.1.1.1.0) in
    record {
      entries_are = refl;
      started_are = omega arith;
      unspent_are = omega arith;
      running_are = refl;
      flights_are = refl;
    }
each_entry_counts h (Returned n) legal fit =
    let less = one-unspent h (stands_once h legal) n fit in
    record {
      entries_are = refl;
      started_are = omega arith;
      unspent_are = omega arith;
      running_are = refl;
      flights_are = refl;
    }
each_entry_counts h (Finished n) legal fit =
    let less = one-permit (running h) n fit (let once = (stands_once h legal).permits.numbers_once n in omega arith) in
    record {
      entries_are = refl;
      started_are = omega arith;
      unspent_are = refl;
      running_are = omega arith;
      flights_are = refl;
    }
each_entry_counts h (Swept m count) legal fit = record {
  entries_are = refl;
  started_are = omega arith;
  unspent_are = refl;
  running_are = refl;
  flights_are = refl;
}
