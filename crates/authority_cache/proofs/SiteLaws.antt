-- What is known of authorities, after an entry of the map was written or added.
-- Used for `cache.rt`, `look.rt`, `begin.rt` and `arrive.rt`.
use Rattle.std.proofs.Common.{◌≡◌, ℕ, zero, suc, ◌+◌, ◌<◌, ◌≤◌, ◌==◌, ◌&&◌, ◌||◌, ◌↔◌, Bool, true, false, cond, not, nat_le, List, [], ◌∷◌, ◌++◌, length, filter, Option, Some, None, unwrap_or, Result, Ok, Err, IsErr, IsOk, OnErr, OnOk, is_some, string_bytes, refl, sym, ap, subst, ◌∙◌, true≢false, arith}
use Rattle.std.specs.declared.string.String.{String}
use Rattle.std.specs.List.{list_all}
use Rattle.std.specs.Prelude.{slice_get}
use Rattle.std.specs.Map.{lookup, set_value, values_of}
use Rattle.std.specs.Option.{option_map, option_map_or}
use Rattle.std.specs.Str.{bytes_eq}
use Rattle.std.proofs.lemmas.Bool.{and_right, le-leb, lt-leb}
use Rattle.std.proofs.lemmas.Slice.Eq.{bytes_eq-Decides}
use Rattle.indexmap.specs.IndexMap.{set_value_at}
use Rattle.authority_cache.specs.declared.refusal.FlightRefusal.{FlightRefusal}
use Rattle.authority_cache.specs.declared.refusal.Stale.{Stale}
use Rattle.authority_cache.specs.declared.site.Flight.{Flight}
use Rattle.authority_cache.specs.declared.site.Site.{Site}
use Rattle.authority_cache.specs.Lives.{Timed}
use Rattle.authority_cache.specs.Sites.{Answered, Known, State, arrived, count_of, flight_count, has_turn, is_flying, is_known, known_count, nothing_known, said_site, site_of, with_flight}
use Rattle.authority_cache.specs.Calls.{Arrives, Changes, cannot_know, one_if}
use Rattle.authority_cache.specs.Kept.{AllKnown, AreNamed, IsNamed, known_in, said_entries}
use Rattle.authority_cache.proofs.EntryLaws.{all-lookup, all-map, all-push, all-set_value, count-all, count-bound, count-map, count-push, count-set_value, lookup-map, lookup-push, lookup-push_other, set_value-same}

pub same_text : (a : List ℕ) → bytes_eq a a ≡ true
same_text a = (bytes_eq-Decides a a).1 refl

pub other_text : (a b : List ℕ) → bytes_eq a b ≡ false → bytes_eq b a ≡ false
other_text a b apart = by (bytes_eq b a) refl
  where
    by : (t : Bool) → bytes_eq b a ≡ t → bytes_eq b a ≡ false
    by false is = is
    by true is = absurd (true≢false (sym (same_text a) ∙ (ap (bytes_eq a) (sym ((bytes_eq-Decides b a).0 is)) ∙ apart)))

pub or_true : (b : Bool) → (b || true) ≡ true
or_true true = refl
or_true false = refl

turn_flies : (turn : ℕ) (state : State) → has_turn turn state ≡ true → is_flying state ≡ true
turn_flies turn state has = by state.in_flight has
  where
    by : (o : Option Flight) → option_map_or (λ flight. flight.turn == turn) o false ≡ true → is_some o ≡ true
    by None has = absurd (true≢false (sym has))
    by (Some flight) has = refl

pub arrived_fewer : (old new : Known) (a : List ℕ) (turn : ℕ) (answer : Timed) → has_turn turn (site_of old a) ≡ true →
    Changes old a (arrived turn answer.says answer.life (site_of old a)) new → flight_count new + 1 ≡ flight_count old
arrived_fewer old new a turn answer has changes =
    let was : one_if (is_flying (site_of old a)) ≡ 1 = ap one_if (turn_flies turn (site_of old a) has) in
    omega (arith, was, changes.counts is_flying refl)

pub refused : (old new : Known) (a : List ℕ) (turn : ℕ) (answer : Timed) (r : Result Unit Stale) → IsErr r →
    (has_turn turn (site_of old a) ≡ false) × (new ≡ old) → Arrives old a turn answer r new
refused old new a turn answer (Ok done) is both = absurd (true≢false (sym is))
refused old new a turn answer (Err stale) is both = both

pub flying-known : (flight : Flight) (v w : Site) → said_site w ≡ with_flight flight (said_site v) → is_known (said_site w) ≡ true
flying-known flight v w now = ap is_known now ∙ or_true (is_some (said_site v).standing)

module _ {Y : Type 0} where
  -- the test of a key by an authority's text
  abbrev pub is_named : List ℕ → String Y → Bool
  is_named a k = bytes_eq a (string_bytes k)

  pub found-said : (a : List ℕ) (es : List (String Y × Site)) →
      lookup (bytes_eq a) (said_entries es) ≡ option_map said_site (lookup (is_named a) es)
  found-said a es = lookup-map string_bytes said_site (bytes_eq a) es

  pub state-some : (limit : ℕ) (a : List ℕ) (es : List (String Y × Site)) (v : Site) → lookup (is_named a) es ≡ Some v →
      site_of (known_in limit es) a ≡ said_site v
  state-some limit a es v found = ap (λ o. unwrap_or o nothing_known) (found-said a es ∙ ap (option_map said_site) found)

  pub state-none : (limit : ℕ) (a : List ℕ) (es : List (String Y × Site)) → lookup (is_named a) es ≡ None →
      site_of (known_in limit es) a ≡ nothing_known
  state-none limit a es none = ap (λ o. unwrap_or o nothing_known) (found-said a es ∙ ap (option_map said_site) none)

  pub counted : (test : State → Bool) (limit : ℕ) (es : List (String Y × Site)) →
      count_of test (known_in limit es) ≡ length (filter (λ e. test (said_site e.1)) es)
  counted test limit es = count-map string_bytes said_site test es

  -- a site that is written keeps its name
  pub named-written : (es : List (String Y × Site)) (i : ℕ) (v w : Site) → slice_get (values_of es) i ≡ Some v → w.name ≡ v.name →
      AreNamed es → AreNamed (set_value_at es i w)
  named-written [] i v w value name named j x at = named j x at
  named-written (f ∷ es) zero v w value name named zero x at =
      let here : IsNamed (f.0, w) = name ∙ (ap (λ o. (unwrap_or o f.1).name) (sym value) ∙ named zero f refl) in
      subst (λ (e : String Y × Site). IsNamed e) (ap (λ (o : Option (String Y × Site)). unwrap_or o f) at) here
  named-written (f ∷ es) zero v w value name named (suc j) x at = named (suc j) x at
  named-written (f ∷ es) (suc i) v w value name named zero x at = named zero x at
  named-written (f ∷ es) (suc i) v w value name named (suc j) x at =
      named-written es i v w value name (λ k e is. named (suc k) e is) j x at

  pub known_many : (limit : ℕ) (es : List (String Y × Site)) → AllKnown es → known_count (known_in limit es) ≡ length es
  known_many limit es all = counted is_known limit es ∙ count-all (λ e. is_known (said_site e.1)) es all.known

  pub Changes-written : (limit : ℕ) (a : List ℕ) (es es' : List (String Y × Site)) (v w : Site) → lookup (is_named a) es ≡ Some v →
      es' ≡ set_value (is_named a) es w → ((b : List ℕ) → lookup (is_named b) es' ≡ cond (bytes_eq a b) (Some w) (lookup (is_named b) es)) →
      Changes (known_in limit es) a (said_site w) (known_in limit es')
  Changes-written limit a es es' v w found written others = record {
    limit = refl;
    sites = λ b. ap (λ o. unwrap_or o nothing_known) (found-said b es' ∙ ap (option_map said_site) (others b)) ∙ by b (bytes_eq a b);
    counts = λ test fails.
        let was : one_if (test (site_of (known_in limit es) a)) ≡ one_if (test (said_site v)) = ap (λ s. one_if (test s)) (state-some limit a es v found) in
        let more : length (filter (λ e. test (said_site e.1)) es') + one_if (test (said_site v))
        ≡ length (filter (λ e. test (said_site e.1)) es) + one_if (test (said_site w)) =
        rw written (count-set_value (λ s. test (said_site s)) (is_named a) es v w found) in
        omega (arith, counted test limit es, counted test limit es');
  }
    where
      by : (b : List ℕ) (t : Bool) → unwrap_or (option_map said_site (cond t (Some w) (lookup (is_named b) es))) nothing_known
          ≡ cond t (said_site w) (site_of (known_in limit es) b)
      by b true = refl
      by b false = sym (ap (λ o. unwrap_or o nothing_known) (found-said b es))

  pub unchanged-written : (limit : ℕ) (a : List ℕ) (es es' : List (String Y × Site)) (v w : Site) → lookup (is_named a) es ≡ Some v →
      es' ≡ set_value (is_named a) es w → w ≡ v → known_in limit es' ≡ known_in limit es
  unchanged-written limit a es es' v w found written same =
      ap (known_in limit) (written ∙ (ap (set_value (is_named a) es) same ∙ set_value-same (is_named a) es v found))

  pub known-written : (a : List ℕ) (es es' : List (String Y × Site)) (w : Site) → AllKnown es →
      es' ≡ set_value (is_named a) es w → is_known (said_site w) ≡ true → AreNamed es' → AllKnown es'
  known-written a es es' w all written known named = record {
    known = rw written (all-set_value (λ s. is_known (said_site s)) (is_named a) es w all.known known);
    named = named;
  }

  pub begun-known : (limit : ℕ) (a : List ℕ) (flight : Flight) (es es' : List (String Y × Site)) (v w : Site) → lookup (is_named a) es ≡ Some v →
      es' ≡ set_value (is_named a) es w → ((b : List ℕ) → lookup (is_named b) es' ≡ cond (bytes_eq a b) (Some w) (lookup (is_named b) es)) →
      said_site w ≡ with_flight flight (said_site v) →
      Changes (known_in limit es) a (with_flight flight (site_of (known_in limit es) a)) (known_in limit es')
  begun-known limit a flight es es' v w found written others now =
      subst (λ s. Changes (known_in limit es) a (with_flight flight s) (known_in limit es')) (sym (state-some limit a es v found))
      (subst (λ s. Changes (known_in limit es) a s (known_in limit es')) now (Changes-written limit a es es' v w found written others))

  pub arrived-known : (limit : ℕ) (a : List ℕ) (turn : ℕ) (answer : Timed) (es es' : List (String Y × Site)) (v w : Site) (r : Result Unit Stale) →
      AllKnown es → lookup (is_named a) es ≡ Some v → es' ≡ set_value (is_named a) es w →
      ((b : List ℕ) → lookup (is_named b) es' ≡ cond (bytes_eq a b) (Some w) (lookup (is_named b) es)) →
      (IsOk r ↔ (has_turn turn (said_site v) ≡ true)) → OnOk r (said_site w ≡ arrived turn answer.says answer.life (said_site v)) → OnErr r (w ≡ v) →
      AreNamed es' → Arrives (known_in limit es) a turn answer r (known_in limit es') × AllKnown es'
  arrived-known limit a turn answer es es' v w (Ok done) all found written others has now same named =
      let state = state-some limit a es v found in
      let changes = Changes-written limit a es es' v w found written others in
      let flying = has.0 refl in (
        (
          ap (has_turn turn) state ∙ flying,
          subst (λ s. Changes (known_in limit es) a (arrived turn answer.says answer.life s) (known_in limit es')) (sym state)
              (subst (λ s. Changes (known_in limit es) a s (known_in limit es')) now changes),
        ),
        known-written a es es' w all written (ap is_known now ∙ answered (said_site v).in_flight flying) named,
      )
    where
      answer_of : Flight → Answered
      answer_of flight = record { turn = turn; begun = flight.begun; life = answer.life; says = answer.says }

      answered : (o : Option Flight) → option_map_or (λ flight. flight.turn == turn) o false ≡ true → (is_some (option_map answer_of o) || false) ≡ true
      answered (Some flight) is = refl
      answered None is = absurd (true≢false (sym is))
  arrived-known limit a turn answer es es' v w (Err stale) all found written others has now same named =
      let state = state-some limit a es v found in
      let was_known = all-lookup (λ s. is_known (said_site s)) (is_named a) es v all.known found in (
        (rw state (by (has_turn turn (said_site v)) refl), unchanged-written limit a es es' v w found written same),
        known-written a es es' w all written (subst (λ s. is_known (said_site s) ≡ true) (sym same) was_known) named,
      )
    where
      by : (b : Bool) → has_turn turn (said_site v) ≡ b → has_turn turn (said_site v) ≡ false
      by false is = is
      by true is = absurd (true≢false (sym (has.1 is)))

pub Changes-added : (limit : ℕ) (a : List ℕ) (state : State) (sites : List (List ℕ × State)) → lookup (bytes_eq a) sites ≡ None →
    Changes (record { limit = limit; sites = sites }) a state (record { limit = limit; sites = sites ++ (a, state) ∷ [] })
Changes-added limit a state sites none = record {
  limit = refl;
  sites = λ b. by b (bytes_eq a b) refl;
  counts = λ test fails.
      let was : one_if (test (unwrap_or (lookup (bytes_eq a) sites) nothing_known)) ≡ 0 = rw (none, fails) refl in
      omega (arith, count-push (λ (e : List ℕ × State). test e.1) sites (a, state));
}
  where
    by : (b : List ℕ) (t : Bool) → bytes_eq a b ≡ t → unwrap_or (lookup (bytes_eq b) (sites ++ (a, state) ∷ [])) nothing_known
        ≡ cond (bytes_eq a b) state (unwrap_or (lookup (bytes_eq b) sites) nothing_known)
    by b true is = rw is (subst (λ c. unwrap_or (lookup (bytes_eq c) (sites ++ (a, state) ∷ [])) nothing_known ≡ state) ((bytes_eq-Decides a b).0 is)
        (rw (lookup-push (bytes_eq a) sites a state none, same_text a) refl))
    by b false is = rw (is, lookup-push_other (bytes_eq b) sites a state (other_text a b is)) refl

module _ {Y : Type 0} where
  pub knows : (limit : ℕ) (a : List ℕ) (es : List (String Y × Site)) → is_known (site_of (known_in limit es) a) ≡ true →
      cannot_know (known_in limit es) a ≡ false
  knows limit a es known = ap (λ b. not b && nat_le limit (known_count (known_in limit es))) known

  pub may_know : (limit : ℕ) (a : List ℕ) (es : List (String Y × Site)) → AllKnown es → length es < limit →
      cannot_know (known_in limit es) a ≡ false
  may_know limit a es all room =
      ap (λ b. not (is_known (site_of (known_in limit es) a)) && b) (ap (nat_le limit) (known_many limit es all) ∙ lt-leb limit (length es) room)
      ∙ and_right (not (is_known (site_of (known_in limit es) a))) false refl

  pub full : (limit : ℕ) (a : List ℕ) (es : List (String Y × Site)) → AllKnown es → lookup (is_named a) es ≡ None → limit ≤ length es →
      cannot_know (known_in limit es) a ≡ true
  full limit a es all none over =
      ap (λ b. not b && nat_le limit (known_count (known_in limit es))) (ap is_known (state-none limit a es none))
      ∙ (ap (nat_le limit) (known_many limit es all) ∙ le-leb limit (length es) over)

  pub begun-new : (limit : ℕ) (a : List ℕ) (flight : Flight) (es es' : List (String Y × Site)) → lookup (is_named a) es ≡ None →
      said_entries es' ≡ said_entries es ++ (a, with_flight flight nothing_known) ∷ [] →
      Changes (known_in limit es) a (with_flight flight (site_of (known_in limit es) a)) (known_in limit es')
  begun-new limit a flight es es' none added =
      let unsaid : lookup (bytes_eq a) (said_entries es) ≡ None = found-said a es ∙ ap (option_map said_site) none in
      subst (λ s. Changes (known_in limit es) a (with_flight flight s) (known_in limit es')) (sym (state-none limit a es none))
      (subst (λ sites. Changes (known_in limit es) a (with_flight flight nothing_known) (record { limit = limit; sites = sites })) (sym added)
      (Changes-added limit a (with_flight flight nothing_known) (said_entries es) unsaid))

  pub known-new : (a : List ℕ) (flight : Flight) (es es' : List (String Y × Site)) (r : Result Unit FlightRefusal) → AllKnown es →
      (AreNamed es → AreNamed es') → OnOk r (said_entries es' ≡ said_entries es ++ (a, with_flight flight nothing_known) ∷ []) → OnErr r (es' ≡ es) → AllKnown es'
  known-new a flight es es' (Ok done) all named added same =
      let old : list_all (λ (p : List ℕ × State). is_known p.1) (said_entries es) ≡ true = all-map string_bytes said_site is_known es ∙ all.known in
      let new : list_all (λ (p : List ℕ × State). is_known p.1) (said_entries es') ≡ true =
      rw added (all-push (λ (p : List ℕ × State). is_known p.1) (said_entries es) (a, with_flight flight nothing_known) old refl) in
      record { known = sym (all-map string_bytes said_site is_known es') ∙ new; named = named all.named }
  known-new a flight es es' (Err refusal) all named added same = subst (λ entries. AllKnown entries) (sym same) all

  pub flights_bound : (limit : ℕ) (es : List (String Y × Site)) → flight_count (known_in limit es) ≤ length es
  flights_bound limit es = rw (counted is_flying limit es) (count-bound (λ (e : String Y × Site). is_flying (said_site e.1)) es)
