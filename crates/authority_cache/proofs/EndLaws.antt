-- The ends that are kept, and that they cover the answers.
-- Used for `ends.rt`, `sweep.rt`, `begin.rt` and `arrive.rt`.
use Rattle.std.proofs.Common.{◌≡◌, ◌≢◌, ℕ, ◌+◌, ◌^◌, ◌<◌, ◌≤◌, ◌==◌, ◌⊎◌, ◌&&◌, ◌||◌, inl, inr, Bool, true, false, cond, List, [], ◌∷◌, map, length, get_or, nat_lt, Option, Some, None, IfSome, Result, Ok, Err, IsOk, OnOk, refl, sym, ap, subst, ◌∙◌, true≢false, arith}
use Rattle.std.specs.Prelude.{slice_get}
use Rattle.std.specs.declared.cmp.Ordering.TheVariants.{Less, Equal, Greater}
use Rattle.std.specs.declared.cmp.Reverse.{Reverse}
use Rattle.std.specs.declared.string.String.{String}
use Rattle.std.specs.BinaryHeap.{IsUpperBound}
use Rattle.std.specs.List.{list_any}
use Rattle.std.specs.List.Sorted.{IsPermutation}
use Rattle.std.specs.Option.{option_map_or}
use Rattle.std.specs.Ordering.{is_lt, nat_cmp, ordering_then}
use Rattle.std.proofs.lemmas.Bool.{cases_lt, eqb-true, eqb-false, ltb-false, le-ltb, ne_eqb}
use Rattle.std.proofs.lemmas.List.Sorted.{IsPermutation-map, list_any-IsPermutation}
use Rattle.authority_cache.specs.declared.site.Site.{Site}
use Rattle.authority_cache.specs.Ends.{Covers, CoversAt, CoversBut, CoversYoung, End, KeepsEnd, KeptEnds, NoneBefore, Takes, earlier, has_end, is_end, last_moment}
use Rattle.authority_cache.specs.Sites.{Answered, State, has_past, is_past, said_site}

end_moment : (e f : End) → is_end e f ≡ true → e.0 ≡ f.0
end_moment e f is = by (e.0 == f.0) refl is
  where
    by : (b : Bool) → (e.0 == f.0) ≡ b → (b && (e.1 == f.1)) ≡ true → e.0 ≡ f.0
    by true same is = eqb-true e.0 f.0 same
    by false same is = absurd (true≢false (sym is))

other_moment : (e f : End) → (e.0 ≡ f.0 → ⊥) → is_end e f ≡ false
other_moment e f other = ap (λ b. b && (e.1 == f.1)) (ne_eqb e.0 f.0 other)

other_site : (e f : End) → (e.1 ≡ f.1 → ⊥) → is_end e f ≡ false
other_site e f other = by (e.0 == f.0) (ne_eqb e.1 f.1 other)
  where
    by : (b : Bool) → (e.1 == f.1) ≡ false → (b && (e.1 == f.1)) ≡ false
    by true is = is
    by false is = refl

pub done : {A E P : Type 0} (r : Result A E) → IsOk r → OnOk r P → P
done (Ok a) is holds = holds
done (Err e) is holds = absurd (true≢false (sym is))

pub end_added : (e : End) (r : Reverse End) (old new : List (Reverse End)) → IsPermutation (r ∷ old) new →
    list_any (is_end e) (map (λ r. r.0) new) ≡ (is_end e r.0 || list_any (is_end e) (map (λ r. r.0) old))
end_added e r old new same =
    sym (list_any-IsPermutation (is_end e) (map (λ r. r.0) (r ∷ old)) (map (λ r. r.0) new) (IsPermutation-map (λ r. r.0) (r ∷ old) new same))

pub end_taken : (e : End) (r : Reverse End) (old new : List (Reverse End)) → IsPermutation old (r ∷ new) →
    list_any (is_end e) (map (λ r. r.0) old) ≡ (is_end e r.0 || list_any (is_end e) (map (λ r. r.0) new))
end_taken e r old new same =
    list_any-IsPermutation (is_end e) (map (λ r. r.0) old) (map (λ r. r.0) (r ∷ new)) (IsPermutation-map (λ r. r.0) old (r ∷ new) same)

-- what is not under the other in the heap's order is no later than it
not_earlier : (x y : Reverse End) → is_lt (earlier x y) ≡ false → x.0.0 ≤ y.0.0
not_earlier x y is = by (nat_lt y.0.0 x.0.0) refl is
  where
    by : (b : Bool) → nat_lt y.0.0 x.0.0 ≡ b →
        is_lt (ordering_then (cond b Less (cond (y.0.0 == x.0.0) Equal Greater)) (nat_cmp y.0.1 x.0.1)) ≡ false → x.0.0 ≤ y.0.0
    by true less is = absurd (true≢false is)
    by false less is = ltb-false y.0.0 x.0.0 less

pub none_before : (moment : ℕ) (first : Reverse End) (items : List (Reverse End)) → IsUpperBound earlier first items → moment ≤ first.0.0 →
    (e : End) → list_any (is_end e) (map (λ r. r.0) items) ≡ true → moment ≤ e.0
none_before moment first [] bound late e is = absurd (true≢false (sym is))
none_before moment first (r ∷ items) bound late e is = by (is_end e r.0) refl is (none_before moment first items bound.1 late e)
  where
    by : (b : Bool) → is_end e r.0 ≡ b → (b || list_any (is_end e) (map (λ r. r.0) items)) ≡ true →
        (list_any (is_end e) (map (λ r. r.0) items) ≡ true → moment ≤ e.0) → moment ≤ e.0
    by true same is rest = omega (arith, end_moment e r.0 same, not_earlier first r bound.0)
    by false same is rest = rest is

pub none_empty : (moment : ℕ) (items : List (Reverse End)) → length items ≡ 0 → (e : End) → list_any (is_end e) (map (λ r. r.0) items) ≡ true → moment ≤ e.0
none_empty moment [] none e is = absurd (true≢false (sym is))
none_empty moment (r ∷ items) none e is = omega (arith, none)

pub same_first : (items : List (Reverse End)) (x y : Reverse End) → 0 < length items → x ≡ get_or items 0 x → y ≡ get_or items 0 y → x ≡ y
same_first [] x y some x_is y_is = absurd (omega (arith, some))
same_first (r ∷ items) x y some x_is y_is = x_is ∙ sym y_is

young_till : (moment : ℕ) (s : Answered) → moment < 2 ^ 64 → is_past moment s ≡ false → moment ≤ last_moment s
young_till moment s below young = let till = ltb-false (s.begun + s.life) moment young in omega arith

young_from : (moment : ℕ) (s : Answered) → moment ≤ last_moment s → is_past moment s ≡ false
young_from moment s till = le-ltb (s.begun + s.life) moment (omega (arith, till))

pub covers_more : (old new : KeptEnds) (site : ℕ) (state : State) → ((e : End) → has_end old e ≡ true → has_end new e ≡ true) →
    CoversAt old site state → CoversAt new site state
covers_more old new site state more covered = by state.standing covered
  where
    by : (o : Option Answered) → IfSome o (λ s. has_end old (last_moment s, site) ≡ true) → IfSome o (λ s. has_end new (last_moment s, site) ≡ true)
    by None covered = tt
    by (Some s) covered = more (last_moment s, site) covered

-- what is kept still covers the other sites after one end was taken
taken_others : (moment taken : ℕ) (old new : KeptEnds) (site : ℕ) (state : State) → Takes moment old taken new → site ≢ taken →
    CoversAt old site state → CoversAt new site state
taken_others moment taken old new site state takes other covered = by state.standing covered
  where
    by : (o : Option Answered) → IfSome o (λ s. has_end old (last_moment s, site) ≡ true) → IfSome o (λ s. has_end new (last_moment s, site) ≡ true)
    by None covered = tt
    by (Some s) covered =
        ap (λ b. b || has_end new (last_moment s, site)) (sym (other_site (last_moment s, site) (takes.last, taken) other))
        ∙ (sym (takes.ends (last_moment s, site)) ∙ covered)

taken_young : (moment taken : ℕ) (old new : KeptEnds) (state : State) → Takes moment old taken new → moment < 2 ^ 64 →
    has_past moment state ≡ false → CoversAt old taken state → CoversAt new taken state
taken_young moment taken old new state takes below young covered = by state.standing young covered
  where
    by : (o : Option Answered) → option_map_or (is_past moment) o false ≡ false → IfSome o (λ s. has_end old (last_moment s, taken) ≡ true) →
        IfSome o (λ s. has_end new (last_moment s, taken) ≡ true)
    by None young covered = tt
    by (Some s) young covered =
        let till = young_till moment s below young in
        let later : last_moment s ≡ takes.last → ⊥ = λ same. omega (arith, same, till, takes.before) in
        ap (λ b. b || has_end new (last_moment s, taken)) (sym (other_moment (last_moment s, taken) (takes.last, taken) later))
        ∙ (sym (takes.ends (last_moment s, taken)) ∙ covered)

pub none_past : (moment site : ℕ) (kept : KeptEnds) (state : State) → NoneBefore moment kept → CoversAt kept site state → has_past moment state ≡ false
none_past moment site kept state none covered = by state.standing covered
  where
    by : (o : Option Answered) → IfSome o (λ s. has_end kept (last_moment s, site) ≡ true) → option_map_or (is_past moment) o false ≡ false
    by None covered = refl
    by (Some s) covered = young_from moment s (none (last_moment s, site) covered)

module _ {Y : Type 0} where
  pub covers_kept : (site : ℕ) (es : List (String Y × Site)) (old new : KeptEnds) → CoversBut site old es → KeepsEnd es site old new → Covers new es
  covers_kept site es old new others keeps i e at = by (i == site) refl
    where
      by : (b : Bool) → (i == site) ≡ b → CoversAt new i (said_site e.1)
      by true same =
          let is : site ≡ i = sym (eqb-true i site same) in
          subst (λ j. CoversAt new j (said_site e.1)) is (keeps.here e (subst (λ j. slice_get es j ≡ Some e) (sym is) at))
      by false other = covers_more old new i (said_site e.1) keeps.others (others i e (eqb-false i site other) at)

  -- all ends are kept once the one that may be missing is
  pub covers_all : (site : ℕ) (es : List (String Y × Site)) (kept : KeptEnds) → CoversBut site kept es →
      ((e : String Y × Site) → slice_get es site ≡ Some e → CoversAt kept site (said_site e.1)) → Covers kept es
  covers_all site es kept others here i e at = by (i == site) refl
    where
      by : (b : Bool) → (i == site) ≡ b → CoversAt kept i (said_site e.1)
      by true same =
          let is : site ≡ i = sym (eqb-true i site same) in
          subst (λ j. CoversAt kept j (said_site e.1)) is (here e (subst (λ j. slice_get es j ≡ Some e) (sym is) at))
      by false other = others i e (eqb-false i site other) at

  -- taking an end leaves the other sites covered
  pub taken_but : (moment site : ℕ) (es : List (String Y × Site)) (old new : KeptEnds) → Takes moment old site new → Covers old es → CoversBut site new es
  taken_but moment site es old new takes covered i e other at =
      taken_others moment site old new i (said_site e.1) takes other (covered i e at)

  pub taken_own : (moment site : ℕ) (es : List (String Y × Site)) (old new : KeptEnds) → Takes moment old site new → moment < 2 ^ 64 → Covers old es →
      CoversYoung moment site new es
  taken_own moment site es old new takes below covered e at young =
      taken_young moment site old new (said_site e.1) takes below young (covered site e at)

  pub covers_same : (old new : KeptEnds) (es : List (String Y × Site)) → new.ends ≡ old.ends → Covers old es → Covers new es
  covers_same old new es same covered i e at =
      covers_more old new i (said_site e.1) (λ f is. ap (list_any (is_end f)) same ∙ is) (covered i e at)

  pub covers_further : (site : ℕ) (es : List (String Y × Site)) (old new : KeptEnds) → KeepsEnd es site old new →
      ((i : ℕ) (e : String Y × Site) → i < site → slice_get es i ≡ Some e → CoversAt old i (said_site e.1)) →
      (i : ℕ) (e : String Y × Site) → i < site + 1 → slice_get es i ≡ Some e → CoversAt new i (said_site e.1)
  covers_further site es old new keeps so_far i e low at = by (i == site) refl
    where
      by : (b : Bool) → (i == site) ≡ b → CoversAt new i (said_site e.1)
      by true same =
          let is : site ≡ i = sym (eqb-true i site same) in
          subst (λ j. CoversAt new j (said_site e.1)) is (keeps.here e (subst (λ j. slice_get es j ≡ Some e) (sym is) at))
      by false other = covers_more old new i (said_site e.1) keeps.others (so_far i e (below (cases_lt i site) (eqb-false i site other)) at)
        where
          below : (i < site) ⊎ (site ≤ i) → (i ≡ site → ⊥) → i < site
          below (inl less) apart = less
          below (inr over) apart = absurd (apart (omega (arith, low, over)))
