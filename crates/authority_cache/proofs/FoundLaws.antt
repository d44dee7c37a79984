-- A found authority is where it was found.
-- Used for `find.rt`, `look.rt` and `begin.rt`.
use Rattle.std.proofs.Common.{◌≡◌, ℕ, ◌<◌, ◌∷◌, [], Bool, true, false, cond, zero, suc, List, length, Option, Some, None, IfSome, IfNone, is_some, unwrap_or, string_bytes, refl, sym, ap, subst, ◌∙◌, true≢false, arith}
use Rattle.std.specs.Prelude.{option_and_then, slice_get}
use Rattle.std.specs.declared.string.String.{String}
use Rattle.std.specs.List.{list_all}
use Rattle.std.specs.Map.{lookup, lookup_key, set_value, values_of}
use Rattle.std.specs.Option.{option_map}
use Rattle.std.specs.Str.{bytes_eq}
use Rattle.std.proofs.lemmas.Slice.Eq.{bytes_eq-Decides}
use Rattle.indexmap.specs.IndexMap.{set_value_at}
use Rattle.authority_cache.specs.declared.find.FoundSite.{FoundSite}
use Rattle.authority_cache.specs.declared.site.Site.{Site}
use Rattle.authority_cache.specs.Calls.{IsFound, state_at}
use Rattle.authority_cache.specs.Kept.{AllKnown, known_in, said_entries, said_entry}
use Rattle.authority_cache.specs.Sites.{AreApart, Known, State, is_known, nothing_known, said_site, site_of}
use Rattle.authority_cache.proofs.EntryLaws.{all-at, all-map}
use Rattle.authority_cache.proofs.SiteLaws.{found-said, is_named, same_text}

pub state_found : (k : Known) (authority : List ℕ) (found : FoundSite) → IsFound k authority found → state_at k found ≡ site_of k authority
state_found k authority found is = by found.index refl is.some is.none
  where
    by : (index : Option ℕ) → found.index ≡ index → IfSome index (λ i. slice_get k.sites i ≡ Some (authority, site_of k authority)) →
        IfNone index (lookup (bytes_eq authority) k.sites ≡ None) → state_at k found ≡ site_of k authority
    by None none some absent =
        ap (λ o. unwrap_or (option_map (λ (e : List ℕ × State). e.1) (option_and_then (slice_get k.sites) o)) nothing_known) none
        ∙ sym (ap (λ o. unwrap_or o nothing_known) absent)
    by (Some i) at some absent =
        ap (λ o. unwrap_or (option_map (λ (e : List ℕ × State). e.1) (option_and_then (slice_get k.sites) o)) nothing_known) at
        ∙ ap (λ o. unwrap_or (option_map (λ (e : List ℕ × State). e.1) o) nothing_known) some

found_somewhere : (a : List ℕ) (sites : List (List ℕ × State)) (i : ℕ) (s : State) → slice_get sites i ≡ Some (a, s) → is_some (lookup (bytes_eq a) sites) ≡ true
found_somewhere a [] i s at = absurd (true≢false (ap is_some (sym at)))
found_somewhere a (e ∷ sites) zero s at =
    let same : e.0 ≡ a = ap (λ (o : Option (List ℕ × State)). (unwrap_or o e).0) at in
    ap (λ (b : Bool). is_some (cond b (Some e.1) (lookup (bytes_eq a) sites))) (ap (bytes_eq a) same ∙ same_text a)
found_somewhere a (e ∷ sites) (suc i) s at = by (bytes_eq a e.0) (found_somewhere a sites i s at)
  where
    by : (b : Bool) → is_some (lookup (bytes_eq a) sites) ≡ true → is_some (cond b (Some e.1) (lookup (bytes_eq a) sites)) ≡ true
    by true rest = refl
    by false rest = rest

module _ {Y : Type 0} where
  pub key_passes : (test : String Y → Bool) (es : List (String Y × Site)) (k : String Y) → lookup_key test es ≡ Some k → test k ≡ true
  key_passes test [] k found = absurd (true≢false (ap is_some (sym found)))
  key_passes test (e ∷ es) k found = by (test e.0) refl (key_passes test es k) found
    where
      by : (b : Bool) → test e.0 ≡ b → (lookup_key test es ≡ Some k → test k ≡ true) → cond b (Some e.0) (lookup_key test es) ≡ Some k → test k ≡ true
      by true is rest found = let same : e.0 ≡ k = ap (λ (o : Option (String Y)). unwrap_or o e.0) found in subst (λ (k : String Y). test k ≡ true) same is
      by false is rest found = rest found

  pub said_at : (es : List (String Y × Site)) (i : ℕ) (e : String Y × Site) → slice_get es i ≡ Some e → slice_get (said_entries es) i ≡ Some (said_entry e)
  said_at [] i e at = absurd (true≢false (ap is_some (sym at)))
  said_at (first ∷ es) zero e at = ap (λ (o : Option (String Y × Site)). Some (said_entry (unwrap_or o first))) at
  said_at (first ∷ es) (suc i) e at = said_at es i e at

  pub within : (es : List (String Y × Site)) (i : ℕ) (e : List ℕ × State) → slice_get (said_entries es) i ≡ Some e → i < length es
  within [] i e at = absurd (true≢false (ap is_some (sym at)))
  within (first ∷ es) zero e at = omega arith
  within (first ∷ es) (suc i) e at = omega (arith, within es i e at)

  pub written_at : (a : List ℕ) (es : List (String Y × Site)) (i : ℕ) (s : State) (w : Site) → AreApart (said_entries es) → slice_get (said_entries es) i ≡ Some (a, s) →
      set_value_at es i w ≡ set_value (is_named a) es w
  written_at a [] i s w apart at = absurd (true≢false (ap is_some (sym at)))
  written_at a (e ∷ es) zero s w apart at =
      let same : string_bytes e.0 ≡ a = ap (λ (o : Option (List ℕ × State)). (unwrap_or o (said_entry e)).0) at in
      sym (ap (λ (b : Bool). cond b ((e.0, w) ∷ es) (e ∷ set_value (is_named a) es w)) (ap (bytes_eq a) same ∙ same_text a))
  written_at a (e ∷ es) (suc i) s w apart at = by (bytes_eq a (string_bytes e.0)) refl (written_at a es i s w apart.1 at)
    where
      by : (b : Bool) → bytes_eq a (string_bytes e.0) ≡ b → set_value_at es i w ≡ set_value (is_named a) es w → e ∷ set_value_at es i w ≡ cond b ((e.0, w) ∷ es) (e ∷ set_value (is_named a) es w)
      by true is rest =
          let same : a ≡ string_bytes e.0 = (bytes_eq-Decides a (string_bytes e.0)).0 is in
          absurd (true≢false (sym (found_somewhere a (said_entries es) i s at) ∙ ap is_some (ap (λ (b : List ℕ). lookup (bytes_eq b) (said_entries es)) same ∙ apart.0)))
      by false is rest = ap (λ later. e ∷ later) rest

  pub found_at : (a : List ℕ) (es : List (String Y × Site)) (i : ℕ) (s : State) (v : Site) → AreApart (said_entries es) → slice_get (said_entries es) i ≡ Some (a, s) →
      slice_get (values_of es) i ≡ Some v → lookup (is_named a) es ≡ Some v
  found_at a [] i s v apart at is = absurd (true≢false (ap is_some (sym at)))
  found_at a (e ∷ es) zero s v apart at is =
      let same : string_bytes e.0 ≡ a = ap (λ (o : Option (List ℕ × State)). (unwrap_or o (said_entry e)).0) at in
      ap (λ (b : Bool). cond b (Some e.1) (lookup (is_named a) es)) (ap (bytes_eq a) same ∙ same_text a) ∙ is
  found_at a (e ∷ es) (suc i) s v apart at is = by (bytes_eq a (string_bytes e.0)) refl (found_at a es i s v apart.1 at is)
    where
      by : (b : Bool) → bytes_eq a (string_bytes e.0) ≡ b → lookup (is_named a) es ≡ Some v → cond b (Some e.1) (lookup (is_named a) es) ≡ Some v
      by true is rest =
          let same : a ≡ string_bytes e.0 = (bytes_eq-Decides a (string_bytes e.0)).0 is in
          absurd (true≢false (sym (found_somewhere a (said_entries es) i s at) ∙ ap is_some (ap (λ (b : List ℕ). lookup (bytes_eq b) (said_entries es)) same ∙ apart.0)))
      by false is rest = rest

  pub others_at : (a b : List ℕ) (es : List (String Y × Site)) (v w : Site) → lookup (is_named a) es ≡ Some v →
      lookup (is_named b) (set_value (is_named a) es w) ≡ cond (bytes_eq a b) (Some w) (lookup (is_named b) es)
  others_at a b [] v w found = absurd (true≢false (ap is_some (sym found)))
  others_at a b (e ∷ es) v w found = by (bytes_eq a (string_bytes e.0)) refl (others_at a b es v w) found
    where
      here : (t : Bool) → bytes_eq a b ≡ t → string_bytes e.0 ≡ a →
          cond (bytes_eq b (string_bytes e.0)) (Some w) (lookup (is_named b) es) ≡ cond t (Some w) (cond (bytes_eq b (string_bytes e.0)) (Some e.1) (lookup (is_named b) es))
      here true is same =
          let whole : bytes_eq b (string_bytes e.0) ≡ true = ap (bytes_eq b) (same ∙ (bytes_eq-Decides a b).0 is) ∙ same_text b in
          ap (λ (t : Bool). cond t (Some w) (lookup (is_named b) es)) whole
      here false is same = other (bytes_eq b (string_bytes e.0)) refl
        where
          other : (u : Bool) → bytes_eq b (string_bytes e.0) ≡ u → cond u (Some w) (lookup (is_named b) es) ≡ cond u (Some e.1) (lookup (is_named b) es)
          other true whole = absurd (true≢false (sym (ap (bytes_eq a) ((bytes_eq-Decides b (string_bytes e.0)).0 whole ∙ same) ∙ same_text a) ∙ is))
          other false whole = refl

      later : (t u : Bool) → bytes_eq a b ≡ t → bytes_eq b (string_bytes e.0) ≡ u → bytes_eq a (string_bytes e.0) ≡ false →
          cond u (Some e.1) (cond t (Some w) (lookup (is_named b) es)) ≡ cond t (Some w) (cond u (Some e.1) (lookup (is_named b) es))
      later true true same whole is =
          absurd (true≢false (sym (ap (bytes_eq a) (sym ((bytes_eq-Decides a b).0 same ∙ (bytes_eq-Decides b (string_bytes e.0)).0 whole)) ∙ same_text a) ∙ is))
      later true false same whole is = refl
      later false true same whole is = refl
      later false false same whole is = refl

      by : (t : Bool) → bytes_eq a (string_bytes e.0) ≡ t →
          (lookup (is_named a) es ≡ Some v → lookup (is_named b) (set_value (is_named a) es w) ≡ cond (bytes_eq a b) (Some w) (lookup (is_named b) es)) →
          cond t (Some e.1) (lookup (is_named a) es) ≡ Some v →
          lookup (is_named b) (cond t ((e.0, w) ∷ es) (e ∷ set_value (is_named a) es w)) ≡ cond (bytes_eq a b) (Some w) (lookup (is_named b) (e ∷ es))
      by true is rest found = here (bytes_eq a b) refl (sym ((bytes_eq-Decides a (string_bytes e.0)).0 is))
      by false is rest found =
          ap (λ o. cond (bytes_eq b (string_bytes e.0)) (Some e.1) o) (rest found)
          ∙ later (bytes_eq a b) (bytes_eq b (string_bytes e.0)) refl refl is

  pub not_at : (es : List (String Y × Site)) (i : ℕ) → slice_get es i ≡ None → slice_get (said_entries es) i ≡ None
  not_at [] i none = refl
  not_at (first ∷ es) zero none = absurd (true≢false (ap is_some none))
  not_at (first ∷ es) (suc i) none = not_at es i none

  pub none_said : (a : List ℕ) (es : List (String Y × Site)) → lookup (bytes_eq a) (said_entries es) ≡ None → lookup (is_named a) es ≡ None
  none_said a es none = by (lookup (is_named a) es) (sym (found-said a es) ∙ none)
    where
      by : (o : Option Site) → option_map said_site o ≡ None → o ≡ None
      by None is = refl
      by (Some v) is = absurd (true≢false (ap is_some is))

pub no_index : (o : Option ℕ) → ((i : ℕ) → o ≡ Some i → ⊥) → o ≡ None
no_index None none = refl
no_index (Some i) none = absurd (none i refl)

pub empty_index : (o : Option ℕ) → is_some o ≡ false → o ≡ None
empty_index None none = refl
empty_index (Some i) none = absurd (true≢false none)

module _ {Y : Type 0} where
  pub found_known : (limit : ℕ) (a : List ℕ) (es : List (String Y × Site)) (found : FoundSite) → AllKnown es → IsFound (known_in limit es) a found →
      is_some found.index ≡ true → is_known (site_of (known_in limit es) a) ≡ true
  found_known limit a es found all is some = by found.index is.some some
    where
      known : list_all (λ (p : List ℕ × State). is_known p.1) (said_entries es) ≡ true
      known = all-map string_bytes said_site is_known es ∙ all.known

      by : (o : Option ℕ) → IfSome o (λ i. slice_get (said_entries es) i ≡ Some (a, site_of (known_in limit es) a)) → is_some o ≡ true →
          is_known (site_of (known_in limit es) a) ≡ true
      by None at some = absurd (true≢false (sym some))
      by (Some i) at some = all-at (λ (p : List ℕ × State). is_known p.1) (said_entries es) i (a, site_of (known_in limit es) a) known at

pub found_index : (k : Known) (a : List ℕ) (found : FoundSite) (i : ℕ) → IsFound k a found → found.index ≡ Some i → slice_get k.sites i ≡ Some (a, site_of k a)
found_index k a found i is at = subst (λ (o : Option ℕ). IfSome o (λ i. slice_get k.sites i ≡ Some (a, site_of k a))) at is.some
