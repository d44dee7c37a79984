-- A sweep leaves each state without an expired answer, and no authority
-- of which nothing is known. Used for `sweep.rt`.
use Rattle.std.proofs.Common.{◌≡◌, ℕ, ◌+◌, ◌<◌, ◌≤◌, ◌==◌, ◌⊎◌, zero, suc, Bool, true, false, cond, not, if◌then◌else◌, List, [], ◌∷◌, ◌++◌, length, filter, inl, inr, Option, Some, None, IfSome, is_some, unwrap_or, string_bytes, refl, sym, ap, subst, ◌∙◌, true≢false, arith}
use Rattle.std.specs.Prelude.{slice_get, swap_remove}
use Rattle.std.specs.declared.string.String.{String}
use Rattle.std.specs.List.{AllByRecursion, IsDistinct, list_all}
use Rattle.std.specs.Map.{keys_of, lookup, values_of}
use Rattle.std.specs.Option.{option_map}
use Rattle.std.specs.Str.{bytes_eq}
use Rattle.std.specs.String.{string_eq}
use Rattle.std.proofs.lemmas.Bool.{eqb-true, eqb-false, not-true}
use Rattle.std.proofs.lemmas.Slice.Eq.{bytes_eq-Decides}
use Rattle.indexmap.specs.IndexMap.{set_value_at}
use Rattle.indexmap.specs.Layout.{length-set_value_at}
use Rattle.authority_cache.specs.declared.site.Flight.{Flight}
use Rattle.authority_cache.specs.declared.site.Site.{Site}
use Rattle.authority_cache.specs.Sites.{Answered, AreApart, Known, State, count_of, flight_count, has_past, is_flying, is_known, nothing_known, past_count, said_site, site_of, swept}
use Rattle.authority_cache.specs.Calls.{Changes, Sweeps, one_if}
use Rattle.authority_cache.specs.Ends.{Covers, CoversBut, DropsAnswer, KeptEnds, Removes, SaysPastAt, SweepsPart, has_end, last_moment}
use Rattle.authority_cache.specs.Kept.{AllKnown, AreNamed, IsNamed, known_in, said_entries}
use Rattle.authority_cache.proofs.EntryLaws.{all-at, all-from, all-lookup, at-push, at-swapped, at-written, at-written_other, count-alike, count-bound, count-none, count-swapped, entry-at, keys-written, length-swapped}
use Rattle.authority_cache.proofs.EndLaws.{covers_all}
use Rattle.authority_cache.proofs.FoundLaws.{found_at, others_at, said_at, written_at}
use Rattle.authority_cache.proofs.SiteLaws.{Changes-written, counted, found-said, is_named, named-written, state-none, state-some}

pub part_more : (old between new : Known) (moment count more : ℕ) → SweepsPart old moment count between → SweepsPart between moment more new →
    SweepsPart old moment (count + more) new
part_more old between new moment count more first later = record {
  limit = later.limit ∙ first.limit;
  sites = λ a. later.sites a ∙ first.sites a;
  dropped = omega (arith, first.dropped, later.dropped);
  counts = λ test fails. later.counts test fails ∙ first.counts test fails;
}

-- a state as a sweep leaves it
abbrev left_by : Bool → State → State
left_by past state = record { standing = if past then None else state.standing; in_flight = state.in_flight }

swept_young : (moment : ℕ) (state : State) → has_past moment state ≡ false → swept moment state ≡ state
swept_young moment state young = ap (λ past. left_by past state) young

swept_past : (moment : ℕ) (state : State) → has_past moment state ≡ true → swept moment state ≡ left_by true state
swept_past moment state past = ap (λ past. left_by past state) past

part_changed : (old new : Known) (moment : ℕ) (a : List ℕ) (state : State) → Changes old a state new →
    swept moment state ≡ swept moment (site_of old a) → has_past moment state ≡ false →
    SweepsPart old moment (one_if (has_past moment (site_of old a))) new
part_changed old new moment a state changes same young = record {
  limit = changes.limit;
  sites = λ b. ap (swept moment) (changes.sites b) ∙ by b (bytes_eq a b) refl;
  dropped =
      let now : one_if (has_past moment state) ≡ 0 = ap one_if young in
      omega (arith, changes.counts (has_past moment) refl, now);
  counts = λ test fails.
      let here : one_if (test (swept moment state)) ≡ one_if (test (swept moment (site_of old a))) = ap (λ s. one_if (test s)) same in
      omega (arith, changes.counts (λ s. test (swept moment s)) fails, here);
}
  where
    by : (b : List ℕ) (t : Bool) → bytes_eq a b ≡ t → swept moment (cond t state (site_of old b)) ≡ swept moment (site_of old b)
    by b true is = same ∙ ap (λ c. swept moment (site_of old c)) ((bytes_eq-Decides a b).0 is)
    by b false is = refl

unknown : (state : State) → false ≡ is_flying state → left_by true state ≡ nothing_known
unknown state still = by state.in_flight still
  where
    by : (o : Option Flight) → false ≡ is_some o → (let is : State = record { standing = None; in_flight = o } in is) ≡ nothing_known
    by None still = refl
    by (Some f) still = absurd (true≢false (sym still))

module _ {Y : Type 0} where
  pub apart_from : (es : List (String Y × Site)) → IsDistinct string_eq (keys_of es) → AreApart (said_entries es)
  unfolding IsDistinct
  apart_from [] distinct = tt
  apart_from (e ∷ es) distinct = (absent es distinct.0, apart_from es distinct.1)
    where
      absent : (later : List (String Y × Site)) → AllByRecursion (λ k. string_eq e.0 k ≡ false) (keys_of later) →
          lookup (bytes_eq (string_bytes e.0)) (said_entries later) ≡ None
      absent [] all = refl
      absent (l ∷ later) all = rw all.0 (absent later all.1)

  -- a whole sweep: parts of it, until no answer has expired
  pub sweeps : (limit moment count : ℕ) (old es : List (String Y × Site)) → SweepsPart (known_in 0 old) moment count (known_in 0 es) →
      ((i : ℕ) (e : String Y × Site) → slice_get es i ≡ Some e → has_past moment (said_site e.1) ≡ false) →
      Sweeps (known_in limit old) moment count (known_in limit es)
  sweeps limit moment count old es part young = record {
    limit = refl;
    sites = λ a. sym (stays a (lookup (is_named a) es) refl) ∙ part.sites a;
    dropped = omega (arith, part.dropped, none);
    counts = λ test fails. sym (same test) ∙ part.counts test fails;
  }
    where
      is_young : String Y × Site → Bool
      is_young e = not (has_past moment (said_site e.1))

      all_young : list_all is_young es ≡ true
      all_young = all-from is_young es (λ i e at. ap not (young i e at))

      past_not : (e : String Y × Site) → is_young e ≡ true → has_past moment (said_site e.1) ≡ false
      past_not e is = not-true (has_past moment (said_site e.1)) is

      stays : (a : List ℕ) (o : Option Site) → lookup (is_named a) es ≡ o → swept moment (site_of (known_in limit es) a) ≡ site_of (known_in limit es) a
      stays a None is = rw (state-none limit a es is) refl
      stays a (Some v) is =
          let past : has_past moment (said_site v) ≡ false =
          not-true (has_past moment (said_site v)) (all-lookup (λ s. not (has_past moment (said_site s))) (is_named a) es v all_young is) in
          rw (state-some limit a es v is) (swept_young moment (said_site v) past)

      none : past_count moment (known_in limit es) ≡ 0
      none = counted (has_past moment) limit es ∙ (count-alike is_young (λ e. has_past moment (said_site e.1)) (λ e. false) past_not es all_young ∙ count-none es)

      same : (test : State → Bool) → count_of (λ s. test (swept moment s)) (known_in limit es) ≡ count_of test (known_in limit es)
      same test =
          counted (λ s. test (swept moment s)) limit es
          ∙ (count-alike is_young (λ e. test (swept moment (said_site e.1))) (λ e. test (said_site e.1)) (λ e is. ap test (swept_young moment (said_site e.1) (past_not e is))) es all_young
          ∙ sym (counted test limit es))

  value_at : (es : List (String Y × Site)) (i : ℕ) (e : String Y × Site) → slice_get es i ≡ Some e → slice_get (values_of es) i ≡ Some e.1
  value_at [] i e at = absurd (true≢false (ap is_some (sym at)))
  value_at (f ∷ es) zero e at = ap (λ o. Some (unwrap_or o f).1) at
  value_at (f ∷ es) (suc i) e at = value_at es i e at

  found_of : (es : List (String Y × Site)) (i : ℕ) (e : String Y × Site) → AreApart (said_entries es) → slice_get es i ≡ Some e →
      lookup (is_named (string_bytes e.0)) es ≡ Some e.1
  found_of es i e apart at = found_at (string_bytes e.0) es i (said_site e.1) e.1 apart (said_at es i e at) (value_at es i e at)

  part_dropped : (limit moment : ℕ) (es es' : List (String Y × Site)) (i : ℕ) (e : String Y × Site) (w : Site) → AreApart (said_entries es) →
      slice_get es i ≡ Some e → has_past moment (said_site e.1) ≡ true → said_site w ≡ left_by true (said_site e.1) → es' ≡ set_value_at es i w →
      SweepsPart (known_in limit es) moment 1 (known_in limit es')
  part_dropped limit moment es es' i e w apart at past left wrote =
      let a = string_bytes e.0 in
      let found = found_of es i e apart at in
      let written = wrote ∙ written_at a es i (said_site e.1) w apart (said_at es i e at) in
      let state = state-some limit a es e.1 found in
      let changes = Changes-written limit a es es' e.1 w found written (λ b. ap (lookup (is_named b)) written ∙ others_at a b es e.1 w found) in
      let same : swept moment (said_site w) ≡ swept moment (site_of (known_in limit es) a) =
      ap (swept moment) left ∙ sym (ap (swept moment) state ∙ swept_past moment (said_site e.1) past) in
      subst (λ n. SweepsPart (known_in limit es) moment n (known_in limit es')) (ap one_if (ap (has_past moment) state ∙ past))
      (part_changed (known_in limit es) (known_in limit es') moment a (said_site w) changes same (ap (has_past moment) left))

  part_removed : (limit moment : ℕ) (es es' : List (String Y × Site)) (i : ℕ) (e : String Y × Site) → AreApart (said_entries es) →
      slice_get es i ≡ Some e → said_site e.1 ≡ nothing_known → es' ≡ swap_remove es i e →
      ((b : List ℕ) → lookup (is_named b) es' ≡ cond (bytes_eq (string_bytes e.0) b) None (lookup (is_named b) es)) →
      SweepsPart (known_in limit es) moment 0 (known_in limit es')
  part_removed limit moment es es' i e apart at gone taken others =
      subst (λ n. SweepsPart (known_in limit es) moment n (known_in limit es')) (ap (λ s. one_if (has_past moment s)) state)
      (part_changed (known_in limit es) (known_in limit es') moment (string_bytes e.0) nothing_known changes (ap (swept moment) (sym state)) refl)
    where
      state : site_of (known_in limit es) (string_bytes e.0) ≡ nothing_known
      state = state-some limit (string_bytes e.0) es e.1 (found_of es i e apart at) ∙ gone

      by : (b : List ℕ) (t : Bool) → unwrap_or (option_map said_site (cond t None (lookup (is_named b) es))) nothing_known
          ≡ cond t nothing_known (site_of (known_in limit es) b)
      by b true = refl
      by b false = sym (ap (λ o. unwrap_or o nothing_known) (found-said b es))

      fewer : (test : State → Bool) → test nothing_known ≡ false → count_of test (known_in limit es') ≡ count_of test (known_in limit es)
      fewer test fails =
          let none : one_if (test (said_site e.1)) ≡ 0 = ap (λ s. one_if (test s)) gone ∙ ap one_if fails in
          let more : length (filter (λ e. test (said_site e.1)) es') + one_if (test (said_site e.1)) ≡ length (filter (λ e. test (said_site e.1)) es) =
          rw taken (count-swapped (λ e. test (said_site e.1)) es i e at) in
          omega (arith, counted test limit es, counted test limit es', none, more)

      changes : Changes (known_in limit es) (string_bytes e.0) nothing_known (known_in limit es')
      changes = record {
        limit = refl;
        sites = λ b. ap (λ o. unwrap_or o nothing_known) (found-said b es' ∙ ap (option_map said_site) (others b)) ∙ by b (bytes_eq (string_bytes e.0) b);
        counts = λ test fails.
            let was : one_if (test (site_of (known_in limit es) (string_bytes e.0))) ≡ one_if (test nothing_known) = ap (λ s. one_if (test s)) state in
            omega (arith, fewer test fails, was);
      }

  known_dropped : (es es' : List (String Y × Site)) (i : ℕ) (e : String Y × Site) (w : Site) → AllKnown es → slice_get es i ≡ Some e →
      is_known (said_site w) ≡ true → w.name ≡ e.1.name → es' ≡ set_value_at es i w → AllKnown es'
  known_dropped es es' i e w all at known name wrote = record {
    known = all-from (λ e. is_known (said_site e.1)) es' each;
    named = subst (λ (es : List (String Y × Site)). AreNamed es) (sym wrote) (named-written es i e.1 w (value_at es i e at) name all.named);
  }
    where
      each : (j : ℕ) (x : String Y × Site) → slice_get es' j ≡ Some x → is_known (said_site x.1) ≡ true
      each j x is = by (j == i) refl
        where
          there : slice_get (set_value_at es i w) j ≡ Some x
          there = subst (λ es. slice_get es j ≡ Some x) wrote is

          by : (b : Bool) → (j == i) ≡ b → is_known (said_site x.1) ≡ true
          by true same =
              let here : Some (e.0, w) ≡ Some x = sym (at-written es i e w at) ∙ subst (λ j. slice_get (set_value_at es i w) j ≡ Some x) (eqb-true j i same) there in
              ap (λ o. is_known (said_site (unwrap_or o x).1)) (sym here) ∙ known
          by false other =
              all-at (λ e. is_known (said_site e.1)) es j x all.known (sym (at-written_other es i j w (eqb-false j i other)) ∙ there)

  named_removed : (es : List (String Y × Site)) (i : ℕ) (d : String Y × Site) → i < length es → AreNamed es → AreNamed (swap_remove es i d)
  named_removed es i d low named j x is = let was = (at-swapped es i j d x low is).1 in named was.0 x was.2

  known_removed : (es es' : List (String Y × Site)) (i : ℕ) (d : String Y × Site) (w : Site) → AllKnown es → i < length es →
      AreNamed (set_value_at es i w) → es' ≡ swap_remove (set_value_at es i w) i d → AllKnown es'
  known_removed es es' i d w all low named taken = record {
    known = all-from (λ e. is_known (said_site e.1)) es' each;
    named = subst (λ (left : List (String Y × Site)). AreNamed left) (sym taken)
        (named_removed (set_value_at es i w) i d (rw (length-set_value_at es i w) low) named);
  }
    where
      each : (j : ℕ) (x : String Y × Site) → slice_get es' j ≡ Some x → is_known (said_site x.1) ≡ true
      each j x is =
          let there : slice_get (swap_remove (set_value_at es i w) i d) j ≡ Some x = subst (λ es. slice_get es j ≡ Some x) taken is in
          let was = (at-swapped (set_value_at es i w) i j d x (rw (length-set_value_at es i w) low) there).1 in
          all-at (λ e. is_known (said_site e.1)) es was.0 x all.known (sym (at-written_other es i was.0 w was.1) ∙ was.2)

  pub but_written : (es es' : List (String Y × Site)) (i : ℕ) (w : Site) (kept : KeptEnds) → es' ≡ set_value_at es i w → CoversBut i kept es → CoversBut i kept es'
  but_written es es' i w kept wrote others j x other is =
      others j x other (sym (at-written_other es i j w other) ∙ subst (λ es. slice_get es j ≡ Some x) wrote is)

  pub but_removed : (es es' : List (String Y × Site)) (i : ℕ) (d : String Y × Site) (kept : KeptEnds) → i < length es → es' ≡ swap_remove es i d →
      CoversBut i kept es → CoversBut i kept es'
  but_removed es es' i d kept low taken others j x other is =
      others j x other ((at-swapped es i j d x low (subst (λ es. slice_get es j ≡ Some x) taken is)).0 other)

  covers_dropped : (es es' : List (String Y × Site)) (i : ℕ) (e : String Y × Site) (w : Site) (kept : KeptEnds) → slice_get es i ≡ Some e →
      (said_site w).standing ≡ None → es' ≡ set_value_at es i w → CoversBut i kept es → Covers kept es'
  covers_dropped es es' i e w kept at none wrote others =
      covers_all i es' kept (but_written es es' i w kept wrote others) (λ x is.
      let here : Some (e.0, w) ≡ Some x = sym (at-written es i e w at) ∙ subst (λ es. slice_get es i ≡ Some x) wrote is in
      let gone : (said_site x.1).standing ≡ None = ap (λ o. (said_site (unwrap_or o x).1).standing) (sym here) ∙ none in
      subst (λ (o : Option Answered). IfSome o (λ s. has_end kept (last_moment s, i) ≡ true)) (sym gone) tt)

  -- after an expired answer was dropped, with a turn in flight at its authority
  pub dropped : (moment i : ℕ) (es es' : List (String Y × Site)) (kept : KeptEnds) → IsDistinct string_eq (keys_of es) → AllKnown es →
      CoversBut i kept es → i < length es → SaysPastAt moment es i true → DropsAnswer es i true es' →
      SweepsPart (known_in 0 es) moment 1 (known_in 0 es') × AllKnown es' × Covers kept es' × (length es' ≡ length es)
  dropped moment i es es' kept distinct all others low says drops =
      let there = entry-at es i low in
      let e = there.0 in
      let at = there.1 in
      let d = drops e at in
      let w = d.1.0 in
      let wrote = d.1.2 in
      let none : (said_site w).standing ≡ None = ap (λ (s : State). s.standing) d.1.1 in
      let flies : is_known (said_site w) ≡ true = ap is_known d.1.1 ∙ sym d.0 in (
        part_dropped 0 moment es es' i e w (apart_from es distinct) at (sym (says e at)) d.1.1 wrote,
        known_dropped es es' i e w all at flies d.1.3 wrote,
        covers_dropped es es' i e w kept at none wrote others,
        ap length wrote ∙ length-set_value_at es i w,
      )

  pub dropped_others : (i : ℕ) (is_fetching : Bool) (es es' : List (String Y × Site)) (kept : KeptEnds) → CoversBut i kept es → i < length es →
      DropsAnswer es i is_fetching es' → (i < length es') × CoversBut i kept es'
  dropped_others i is_fetching es es' kept others low drops =
      let there = entry-at es i low in
      let d = drops there.0 there.1 in (
        omega (arith, low, ap length d.1.2, length-set_value_at es i d.1.0),
        but_written es es' i d.1.0 kept d.1.2 others,
      )

  -- after the authority of a dropped answer was removed, without a turn in flight
  pub removed : (moment i : ℕ) (es es1 es2 : List (String Y × Site)) → IsDistinct string_eq (keys_of es) → AllKnown es →
      i < length es → SaysPastAt moment es i true → DropsAnswer es i false es1 → Removes es1 i es2 →
      SweepsPart (known_in 0 es) moment 1 (known_in 0 es2) × AllKnown es2 × (length es2 + 1 ≡ length es)
  removed moment i es es1 es2 distinct all low says drops removes =
      let there = entry-at es i low in
      let e = there.0 in
      let at = there.1 in
      let d = drops e at in
      let w = d.1.0 in
      let wrote = d.1.2 in
      let at1 : slice_get es1 i ≡ Some (e.0, w) = subst (λ es. slice_get es i ≡ Some (e.0, w)) (sym wrote) (at-written es i e w at) in
      let distinct1 : IsDistinct string_eq (keys_of es1) = subst (λ ks. IsDistinct string_eq ks) (sym (ap keys_of wrote ∙ keys-written es i w)) distinct in
      let low1 : i < length es1 = omega (arith, low, ap length wrote, length-set_value_at es i w) in
      let r = removes (e.0, w) at1 in (
        part_more (known_in 0 es) (known_in 0 es1) (known_in 0 es2) moment 1 0
            (part_dropped 0 moment es es1 i e w (apart_from es distinct) at (sym (says e at)) d.1.1 wrote)
            (part_removed 0 moment es1 es2 i (e.0, w) (apart_from es1 distinct1) at1 (d.1.1 ∙ unknown (said_site e.1) d.0) r.0 r.1),
        known_removed es es2 i (e.0, w) w all low (named-written es i e.1 w (value_at es i e at) d.1.3 all.named) (r.0 ∙ ap (λ es. swap_remove es i (e.0, w)) wrote),
        (let few = length-swapped es1 i (e.0, w) low1 in omega (arith, few, ap length r.0, ap length wrote, length-set_value_at es i w)),
      )

  -- a part of a sweep leaves the number of turns in flight
  pub flights_part : (moment count : ℕ) (es es' : List (String Y × Site)) → SweepsPart (known_in 0 es) moment count (known_in 0 es') →
      flight_count (known_in 0 es') ≡ flight_count (known_in 0 es)
  flights_part moment count es es' part = part.counts is_flying refl

  pub past_bound : (limit moment : ℕ) (es : List (String Y × Site)) → past_count moment (known_in limit es) ≤ length es
  past_bound limit moment es = rw (counted (has_past moment) limit es) (count-bound (λ (e : String Y × Site). has_past moment (said_site e.1)) es)

  pub covers_written : (es : List (String Y × Site)) (i : ℕ) (v w : Site) (kept : KeptEnds) → i < length es → slice_get (values_of es) i ≡ Some v →
      (said_site w).standing ≡ (said_site v).standing → Covers kept es → Covers kept (set_value_at es i w)
  covers_written es i v w kept low value stays covered =
      let there = entry-at es i low in
      let e = there.0 in
      let same : e.1 ≡ v = ap (λ o. unwrap_or o v) (sym (value_at es i e there.1) ∙ value) in
      let here : IfSome (said_site w).standing (λ s. has_end kept (last_moment s, i) ≡ true) =
      subst (λ (o : Option Answered). IfSome o (λ s. has_end kept (last_moment s, i) ≡ true)) (ap (λ s. (said_site s).standing) same ∙ sym stays) (covered i e there.1) in
      covers_all i (set_value_at es i w) kept (but_written es (set_value_at es i w) i w kept refl (λ j x other at. covered j x at)) (λ x at.
      let is : w ≡ x.1 = ap (λ o. (unwrap_or o x).1) (sym (at-written es i e w there.1) ∙ at) in
      subst (λ (s : Site). IfSome (said_site s).standing (λ s. has_end kept (last_moment s, i) ≡ true)) is here)

  pub named_added : (es : List (String Y × Site)) (e : String Y × Site) → IsNamed e → AreNamed es → AreNamed (es ++ e ∷ [])
  named_added es e new named i x at = by (at-push es e x i at)
    where
      by : (slice_get es i ≡ Some x) ⊎ (e ≡ x) → IsNamed x
      by (inl was) = named i x was
      by (inr same) = subst (λ (y : String Y × Site). IsNamed y) same new

  pub covers_added : (es : List (String Y × Site)) (e : String Y × Site) (kept : KeptEnds) → (said_site e.1).standing ≡ None → Covers kept es →
      Covers kept (es ++ e ∷ [])
  covers_added es e kept none covered i x at = by (at-push es e x i at)
    where
      by : (slice_get es i ≡ Some x) ⊎ (e ≡ x) → IfSome (said_site x.1).standing (λ s. has_end kept (last_moment s, i) ≡ true)
      by (inl was) = covered i x was
      by (inr new) =
          subst (λ (o : Option Answered). IfSome o (λ s. has_end kept (last_moment s, i) ≡ true)) (sym none ∙ ap (λ (y : String Y × Site). (said_site y.1).standing) new) tt
