-- Of sorted keys those with the strongest places.
-- Used by `in_order`.
use Rattle.std.proofs.Common.{◌≡◌, ℕ, ◌+◌, ◌-◌, ◌<◌, ◌≤◌, inl, inr, ⊎_elim, All, List, [], ◌∷◌, ◌++◌, length, get_or, set, map, refl, sym, ap, ◌∙◌, subst, arith, length-append}
use Rattle.std.specs.Prelude.{Contains, false, not}
use Rattle.std.specs.declared.cmp.Ordering.{Ordering}
use Rattle.std.specs.declared.cmp.Ordering.TheVariants.{Less, Equal, Greater}
use Rattle.std.specs.Ordering.{is_gt, is_lt, ordering_reverse}
use Rattle.std.proofs.lemmas.Bool.{cases_lt, true≢false}
use Rattle.std.proofs.lemmas.Cmp.{tied_itself}
use Rattle.std.proofs.lemmas.List.{get_or-map, get_or_append_left, get_or_default, get_or_push, get_or-set_other, get_or-set_same, length-map, length-set}
use Rattle.std.proofs.lemmas.List.Elements.{All-contains, Contains-append_left, Contains-get_or, Contains-push, Contains-push_cases}
use Rattle.std.proofs.lemmas.List.Sorted.{Contains-permutation, IsPermutation-sym, length_permutation}
use Rattle.std.specs.List.Sorted.{IsPermutation}
use Rattle.robots_verdict.specs.declared.keys.Key.{Key}
use Rattle.robots_verdict.specs.Keys.{AreApart, AreKept, AreSorted, compare_keys, IsKept, IsKeyOf}
use Rattle.robots_verdict.specs.Placed.{Placed}
use Rattle.robots_verdict.specs.Search.{AreStrongest, IsPlainOrder, key}
use Rattle.robots_verdict.proofs.HeadLemmas.{same_words}
use Rattle.robots_verdict.proofs.Keyed.{keys_total, places_rise, same_order}

-- what is kept of the first keys, this many; the last of both are alike
pub record IsSoFar (rows : List Placed) (keys : List Key) (count : ℕ) (kept : List Key) : Type 0 where
  pub few : length kept ≤ count
  pub are : (key : Key) → Contains kept key → Contains keys key
  pub each : (k : ℕ) (d : Key) → k < count → IsKept rows kept (get_or keys k d)
  pub apart : AreApart rows kept
  pub some : 0 < count → 0 < length kept
  pub top : (d : Key) → 0 < count → compare_keys rows (get_or kept (length kept - 1) d) (get_or keys (count - 1) d) ≡ Equal

pub none_so_far : (rows : List Placed) (keys : List Key) → IsSoFar rows keys 0 []
none_so_far rows keys = record {
  few = omega arith;
  are = λ key stands. absurd (let less = stands.1 in omega (arith, less));
  each = λ k d less. absurd (omega (arith, less));
  apart = λ k d low within. absurd (omega (arith, within));
  some = λ less. absurd (omega (arith, less));
  top = λ d less. absurd (omega (arith, less));
}

pub all_kept : (rows : List Placed) (keys kept : List Key) → IsSoFar rows keys (length keys) kept → AreKept rows keys kept
all_kept rows keys kept so = record {
  few = so.few;
  are = so.are;
  each = λ key stands. subst (IsKept rows kept) (stands.2) (so.each stands.0 key stands.1);
  apart = so.apart;
}

greater : (o back : Ordering) → is_lt o ≡ false → back ≡ ordering_reverse o → (back ≡ Equal → ⊥) → not (is_gt o) ≡ false
greater Less back is turned other = absurd (true≢false is)
greater Equal back is turned other = absurd (other turned)
greater Greater back is turned other = refl

module _ (rows : List Placed) (keys : List Key) (sorted : AreSorted rows keys) (count : ℕ) (kept : List Key) (so : IsSoFar rows keys count kept) (key : Key)
    (within : count < length keys) (is : (d : Key) → get_or keys count d ≡ key) where
  -- the last kept one
  abbrev top : Key
  top = get_or kept (length kept - 1) key

  one_more : (kept' : List Key) → ((k : ℕ) (d : Key) → k < count → IsKept rows kept' (get_or keys k d)) → IsKept rows kept' key → (k : ℕ) (d : Key) → k < count + 1 → IsKept rows kept' (get_or keys k d)
  one_more kept' each last k d less = elim (cases_lt k count) [
    | inl before ↦ each k d before
    | inr after ↦ (let here : k ≡ count = omega (arith, less, after) in subst (IsKept rows kept') (sym (ap (λ (n : ℕ). get_or keys n d) here ∙ is d)) last)
  ]

  -- the keys' last one
  this : (n : ℕ) (d : Key) → n ≡ count → get_or keys n d ≡ key
  this n d same = ap (λ (m : ℕ). get_or keys m d) same ∙ is d

  behind_top : 0 < length kept → 0 < count → is_lt (compare_keys rows key top) ≡ false
  behind_top some more =
      let here : count - 1 + 1 ≡ count = omega (arith, more) in
      let last = sorted (count - 1) key (omega arith) (omega (arith, within, more)) in
      ap is_lt ((keys_total rows).antisymm key top ∙ ap ordering_reverse ((keys_total rows).congr top (get_or keys (count - 1) key) key (so.top key more)) ∙ sym ((keys_total rows).antisymm key (get_or keys (count - 1) key)))
      ∙ ap (λ (k : Key). is_lt (compare_keys rows k (get_or keys (count - 1) key))) (sym (ap (λ (n : ℕ). get_or keys n key) here ∙ is key))
      ∙ last

  pub pushed : (0 < length kept → compare_keys rows top key ≡ Equal → ⊥) → IsSoFar rows keys (count + 1) (kept ++ key ∷ [])
  pushed other = record {
    few = let few = so.few in omega (arith, length-append kept (key ∷ []));
    are = λ k stands. ⊎_elim (λ old. so.are k old) (λ same. (count, within, is k ∙ same)) (Contains-push_cases kept key k stands);
    each = one_more (kept ++ key ∷ []) (λ k d less. let old = so.each k d less in record { by = old.by; stands = Contains-append_left kept (key ∷ []) old.by old.stands; alike = old.alike; above = old.above })
        (record { by = key; stands = Contains-push kept key; alike = tied_itself (keys_total rows) key; above = omega arith });
    apart = λ k d low less. elim (cases_lt (k + 1) (length kept)) [
      | inl inside ↦
          (λ i. not (is_gt (compare_keys rows (get_or_append_left kept (key ∷ []) d (k + 1) inside i) (get_or_append_left kept (key ∷ []) d k (omega (arith, inside)) i)))) ∙ so.apart k d low inside
      | inr past ↦ (
          let end : length kept ≡ k + 1 = omega (arith, past, less, length-append kept (key ∷ [])) in
          let here : k < length kept = omega (arith, end) in
          let before : get_or kept k d ≡ top = get_or_default kept k d key here ∙ ap (λ (n : ℕ). get_or kept n key) (omega (arith, end)) in
          let some : 0 < length kept = omega (arith, end) in
          (λ i. not (is_gt (compare_keys rows (get_or_push kept key d (k + 1) end i) ((get_or_append_left kept (key ∷ []) d k here ∙ before) i))))
          ∙ greater (compare_keys rows key top) (compare_keys rows top key) (behind_top some (let few = so.few in omega (arith, few, some))) ((keys_total rows).antisymm top key) (other some)
          )
    ];
    some = λ more. omega (arith, length-append kept (key ∷ []));
    top = λ d more.
        let last : length (kept ++ key ∷ []) - 1 ≡ length kept = omega (arith, length-append kept (key ∷ [])) in
        let one : get_or (kept ++ key ∷ []) (length (kept ++ key ∷ []) - 1) d ≡ key = ap (λ (n : ℕ). get_or (kept ++ key ∷ []) n d) last ∙ get_or_push kept key d (length kept) refl in
        (λ i. compare_keys rows (one i) (this (count + 1 - 1) d (omega arith) i)) ∙ tied_itself (keys_total rows) key;
  }

  module _ (some : 0 < length kept) (alike : compare_keys rows top key ≡ Equal) where
    pub passed : top.place ≤ key.place → IsSoFar rows keys (count + 1) kept
    passed weaker = record {
      few = let few = so.few in omega arith;
      are = so.are;
      each = one_more kept so.each (record { by = top; stands = Contains-get_or kept (length kept - 1) key (omega (arith, some)); alike = alike; above = weaker });
      apart = so.apart;
      some = λ more. some;
      top = λ d more.
          (λ i. compare_keys rows (get_or_default kept (length kept - 1) d key (omega (arith, some)) i) (this (count + 1 - 1) d (omega arith) i)) ∙ alike;
    }

    module _ (stronger : key.place < top.place) where
      abbrev pub changed : List Key
      changed = set kept (length kept - 1) key

      as_many : length changed ≡ length kept
      as_many = length-set kept (length kept - 1) key

      at_top : (d : Key) → get_or changed (length kept - 1) d ≡ key
      at_top d = get_or-set_same kept (length kept - 1) key d (omega (arith, some))

      below : (k : ℕ) (d : Key) → k + 1 < length kept → get_or changed k d ≡ get_or kept k d
      below k d less = get_or-set_other kept (length kept - 1) k key d (λ same. omega (arith, same, less))

      still : (s : Key) → IsKept rows kept s → IsKept rows changed s
      still s old = elim (cases_lt (old.stands.0 + 1) (length kept)) [
        | inl inside ↦ record { by = old.by; stands = (old.stands.0, omega (arith, as_many, inside), below old.stands.0 old.by inside ∙ old.stands.2); alike = old.alike; above = old.above }
        | inr past ↦ (
            let less = old.stands.1 in
            let same : top ≡ old.by = get_or_default kept (length kept - 1) key old.by (omega (arith, some)) ∙ ap (λ (n : ℕ). get_or kept n old.by) (omega (arith, past, less)) ∙ old.stands.2 in
            record {
              by = key;
              stands = (length kept - 1, omega (arith, as_many, some), at_top key);
              alike = sym ((keys_total rows).congr top key s alike) ∙ ap (λ (k : Key). compare_keys rows k s) same ∙ old.alike;
              above = let above = old.above in omega (arith, stronger, above, ap (λ (k : Key). k.place) same);
            }
            )
      ]

      pub replaced : IsSoFar rows keys (count + 1) changed
      replaced = record {
        few = let few = so.few in omega (arith, as_many);
        are = λ k stands. by k stands;
        each = one_more changed (λ k d less. still (get_or keys k d) (so.each k d less))
            (record { by = key; stands = (length kept - 1, omega (arith, as_many, some), at_top key); alike = tied_itself (keys_total rows) key; above = omega arith });
        apart = λ k d low less. apart k d low (omega (arith, less, as_many));
        some = λ more. omega (arith, as_many, some);
        top = λ d more.
            let last : length changed - 1 ≡ length kept - 1 = omega (arith, as_many) in
            let one : get_or changed (length changed - 1) d ≡ key = ap (λ (n : ℕ). get_or changed n d) last ∙ at_top d in
            (λ i. compare_keys rows (one i) (this (count + 1 - 1) d (omega arith) i)) ∙ tied_itself (keys_total rows) key;
      }
        where
          by : (k : Key) → Contains changed k → Contains keys k
          by k stands = elim (cases_lt (stands.0 + 1) (length kept)) [
            | inl inside ↦ so.are k (stands.0, omega (arith, inside), sym (below stands.0 k inside) ∙ stands.2)
            | inr past ↦ (
                let less = stands.1 in
                let end : length kept - 1 ≡ stands.0 = omega (arith, past, less, as_many) in
                (count, within, is k ∙ sym (at_top k) ∙ ap (λ (n : ℕ). get_or changed n k) end ∙ stands.2)
                )
          ]

          apart : (k : ℕ) (d : Key) → 0 ≤ k → k + 1 < length kept → not (is_gt (compare_keys rows (get_or changed (k + 1) d) (get_or changed k d))) ≡ false
          apart k d low less = elim (cases_lt (k + 2) (length kept)) [
            | inl inside ↦ (λ i. not (is_gt (compare_keys rows (below (k + 1) d (omega (arith, inside)) i) (below k d less i)))) ∙ so.apart k d low less
            | inr past ↦ (
                let end : k + 1 ≡ length kept - 1 = omega (arith, past, less) in
                let last : get_or kept (k + 1) d ≡ top = ap (λ (n : ℕ). get_or kept n d) end ∙ get_or_default kept (length kept - 1) d key (omega (arith, some)) in
                (λ i. not (is_gt (compare_keys rows ((ap (λ (n : ℕ). get_or changed n d) end ∙ at_top d) i) (below k d less i))))
                ∙ ap (λ (o : Ordering). not (is_gt o)) (sym ((keys_total rows).congr top key (get_or kept k d) alike))
                ∙ ap (λ (x : Key). not (is_gt (compare_keys rows x (get_or kept k d)))) (sym last)
                ∙ so.apart k d low less
                )
          ]

-- a key of the place
record Holds (keys : List Key) (place : ℕ) : Type 0 where
  held : Key
  stands : Contains keys held
  is : held.place ≡ place

held_by : (keys : List Key) (place : ℕ) → Contains (map (λ (k : Key). k.place) keys) place → Holds keys place
held_by [] place stands = absurd (let less = stands.1 in omega (arith, less))
held_by (first ∷ keys) place stands =
    let all = first ∷ keys in
    let less = stands.1 in
    let within : stands.0 < length all = omega (arith, less, length-map all (λ (k : Key). k.place)) in
    record {
      held = get_or all stands.0 first;
      stands = Contains-get_or all stands.0 first within;
      is = sym (get_or-map (λ (k : Key). k.place) all stands.0 first place within) ∙ stands.2;
    }

its_place : (keys : List Key) (key : Key) → Contains keys key → Contains (map (λ (k : Key). k.place) keys) key.place
its_place keys key stands =
    let less = stands.1 in (
      stands.0,
      omega (arith, less, length-map keys (λ (k : Key). k.place)),
      get_or-map (λ (k : Key). k.place) keys stands.0 key key.place stands.1 ∙ ap (λ (k : Key). k.place) stands.2,
    )

module _ (rows : List Placed) (keys ordered kept : List Key) (same : IsPermutation keys ordered) (known : All (IsKeyOf rows) ordered) (are : AreKept rows ordered kept) where
  still_known : All (IsKeyOf rows) kept
  still_known k d within = All-contains (IsKeyOf rows) ordered (get_or kept k d) known (are.are (get_or kept k d) (Contains-get_or kept k d within))

  pub kept_rise : IsPlainOrder rows (map (λ (k : Key). k.place) kept)
  kept_rise = places_rise rows kept still_known are.apart

  pub are_strongest : AreStrongest rows (map (λ (k : Key). k.place) keys) (map (λ (k : Key). k.place) kept)
  are_strongest = record {
    few = let few = are.few in omega (arith, few, length_permutation keys ordered same, length-map kept (λ (k : Key). k.place), length-map keys (λ (k : Key). k.place));
    are = λ place stands.
        let by = held_by kept place stands in
        subst (Contains (map (λ (k : Key). k.place) keys)) by.is
        (its_place keys by.held (Contains-permutation ordered keys by.held (IsPermutation-sym keys ordered same) (are.are by.held by.stands)));
    each = λ place stands.
        let of = held_by keys place stands in
        let within = Contains-permutation keys ordered of.held same of.stands in
        let by = are.each of.held within in
        let known_by = All-contains (IsKeyOf rows) ordered by.by known (are.are by.by by.stands) in
        let known_of = All-contains (IsKeyOf rows) ordered of.held known within in
        record {
          by = by.by.place;
          stands = its_place kept by.by by.stands;
          alike = same_words (key rows by.by.place) (key rows of.held.place) (sym (same_order rows by.by of.held known_by known_of) ∙ by.alike) ∙ ap (key rows) of.is;
          above = let above = by.above in omega (arith, above, of.is);
        };
  }
