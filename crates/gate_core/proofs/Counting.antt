-- Counts by authority, after one of them was set.
-- Used by the methods of `PlaceCounts`.
use Rattle.std.proofs.Common.{◌≡◌, ℕ, zero, suc, ◌+◌, ◌-◌, ◌<◌, Bool, true, false, cond, List, [], ◌∷◌, length, None, Some, is_some, refl, sym, ap, ◌∙◌, subst, true≢false, arith}
use Rattle.std.specs.Prelude.{Option, slice_get, string_bytes, unwrap_or}
use Rattle.std.specs.declared.string.String.{String}
use Rattle.std.specs.HashMap.{HashMap, IsUnique, UpdatesBy, get_by_text}
use Rattle.std.specs.Map.{lookup_key}
use Rattle.std.specs.Str.{bytes_eq}
use Rattle.std.specs.String.{string_eq, string_eq_equiv}
use Rattle.std.proofs.lemmas.Map.Text.{hash_map_updates_text}
use Rattle.std.proofs.lemmas.Slice.Eq.{bytes_eq-Decides}
use Rattle.indexmap.specs.IndexMap.{with_value_at}
use Rattle.indexmap.proofs.CallerLemmas.{updates-with_value_at}
use Rattle.path_normal.specs.PageText.{authority_of}
use Rattle.permit_book.specs.declared.out.SlotContent.{SlotContent}
use Rattle.permit_book.specs.declared.out.SlotContent.TheVariants.{Nothing, Running, Unspent}
use Rattle.permit_book.specs.Table.{url_out}
use Rattle.gate_core.specs.PlaceCounts.{AddsOne, HeldBy, LeavesPlace, TakesOne, one_at}

module _ (old new : HeldBy) (authority : List ℕ) (count : ℕ) (set : (other : List ℕ) → new other ≡ cond (bytes_eq authority other) count (old other)) where
  one_more : count ≡ old authority + 1 → AddsOne old authority new
  one_more more other = set other ∙ by (bytes_eq authority other) refl
    where
      by : (t : Bool) → bytes_eq authority other ≡ t → cond t count (old other) ≡ old other + cond t 1 0
      by true is = more ∙ ap (λ a. old a + 1) ((bytes_eq-Decides authority other).0 is)
      by false is = omega arith

  one_less : count ≡ old authority - 1 → TakesOne old authority new
  one_less less other = set other ∙ by (bytes_eq authority other) refl
    where
      by : (t : Bool) → bytes_eq authority other ≡ t → cond t count (old other) ≡ old other - cond t 1 0
      by true is = less ∙ ap (λ a. old a - 1) ((bytes_eq-Decides authority other).0 is)
      by false is = omega arith

-- the counts of a map
abbrev pub counts : {Y S : Type 0} → HashMap (String Y) ℕ S → HeldBy
counts map other = unwrap_or (get_by_text map other) 0

module _ {Y S : Type 0} (m n : HashMap (String Y) ℕ S) (authority : List ℕ) (count : Option ℕ) where
  set_to : UpdatesBy string_eq (λ k. bytes_eq authority (string_bytes k)) m n count →
      (other : List ℕ) → counts n other ≡ cond (bytes_eq authority other) (unwrap_or count 0) (counts m other)
  set_to updates other = ap (λ o. unwrap_or o 0) (hash_map_updates_text authority m n count updates other) ∙ by (bytes_eq authority other)
    where
      by : (t : Bool) → unwrap_or (cond t count (get_by_text m other)) 0 ≡ cond t (unwrap_or count 0) (counts m other)
      by true = refl
      by false = refl

  pub adds_one : UpdatesBy string_eq (λ k. bytes_eq authority (string_bytes k)) m n count →
      unwrap_or count 0 ≡ counts m authority + 1 → AddsOne (counts m) authority (counts n)
  adds_one updates more = one_more (counts m) (counts n) authority (unwrap_or count 0) (set_to updates) more

  pub takes_one : UpdatesBy string_eq (λ k. bytes_eq authority (string_bytes k)) m n count →
      unwrap_or count 0 ≡ counts m authority - 1 → TakesOne (counts m) authority (counts n)
  takes_one updates less = one_less (counts m) (counts n) authority (unwrap_or count 0) (set_to updates) less

pub key_passes : {Y : Type 0} (test : String Y → Bool) (es : List (String Y × ℕ)) (k : String Y) → lookup_key test es ≡ Some k → test k ≡ true
key_passes test [] k found = absurd (true≢false (ap is_some (sym found)))
key_passes {Y} test (e ∷ es) k found = by (test e.0) refl (key_passes test es k) found
  where
    by : (b : Bool) → test e.0 ≡ b → (lookup_key test es ≡ Some k → test k ≡ true) → cond b (Some e.0) (lookup_key test es) ≡ Some k → test k ≡ true
    by true is rest found = let same : e.0 ≡ k = ap (λ (o : Option (String Y)). unwrap_or o e.0) found in subst (λ (k : String Y). test k ≡ true) same is
    by false is rest found = rest found

module _ {Y S : Type 0} (m : HashMap (String Y) ℕ S) (i : ℕ) (name : String Y) (authority : List ℕ) (count : ℕ)
    (at : slice_get m.entries i ≡ Some (name, count)) (same : string_bytes name ≡ authority) where
  pub adds_at : (more : ℕ) → IsUnique string_eq m → more ≡ counts m authority + 1 → AddsOne (counts m) authority (counts (with_value_at m i more))
  adds_at more unique is =
      adds_one m (with_value_at m i more) authority (Some more)
      (subst (λ (a : List ℕ). UpdatesBy string_eq (λ k. bytes_eq a (string_bytes k)) m (with_value_at m i more) (Some more)) same
      (updates-with_value_at m i more string_eq_equiv unique name count at)) is

  pub takes_at : (less : ℕ) → IsUnique string_eq m → less ≡ counts m authority - 1 → TakesOne (counts m) authority (counts (with_value_at m i less))
  takes_at less unique is =
      takes_one m (with_value_at m i less) authority (Some less)
      (subst (λ (a : List ℕ). UpdatesBy string_eq (λ k. bytes_eq a (string_bytes k)) m (with_value_at m i less) (Some less)) same
      (updates-with_value_at m i less string_eq_equiv unique name count at)) is

pub somewhere : {X : Type 0} (xs : List X) (i : ℕ) (x : X) → slice_get xs i ≡ Some x → i < length xs
somewhere [] i x at = absurd (true≢false (ap is_some (sym at)))
somewhere (first ∷ xs) zero x at = omega arith
somewhere (first ∷ xs) (suc i) x at = omega (arith, somewhere xs i x at)

one_url : (a b : List ℕ) → Some a ≡ Some b → a ≡ b
one_url a b same = cc

pub leaves : (old new : HeldBy) (url : List ℕ) (out : SlotContent) → Some url ≡ url_out out → TakesOne old (authority_of url) new → LeavesPlace old out new
leaves old new url (Unspent fetch) is takes authority = takes authority ∙ ap (λ u. old authority - one_at (authority_of u) authority) (one_url url fetch.url is)
leaves old new url (Running fetch) is takes authority = takes authority ∙ ap (λ u. old authority - one_at (authority_of u) authority) (one_url url fetch.url is)
leaves old new url Nothing is takes authority = absurd (none is)
  where
    none : Some url ≡ None → ⊥
    none e = cc
