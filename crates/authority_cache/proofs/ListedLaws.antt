-- The lists of the cache's contents have of each authority what its state has.
-- Used by `Cache::standing_answers` and `Cache::turns`.
use Rattle.std.proofs.Common.{◌≡◌, ℕ, ◌+◌, Bool, true, false, cond, List, [], ◌∷◌, ◌++◌, filter, take, get_or, Option, Some, None, unwrap_or, refl, sym, ap, subst, ◌∙◌, append_assoc}
use Rattle.std.specs.Prelude.{slice_get}
use Rattle.std.specs.Map.{lookup}
use Rattle.std.specs.Str.{bytes_eq}
use Rattle.std.proofs.lemmas.List.{append-nil, take_more}
use Rattle.std.proofs.lemmas.List.Elements.{filter-append}
use Rattle.std.proofs.lemmas.Slice.Eq.{bytes_eq-Decides}
use Rattle.authority_cache.specs.declared.site.Flight.{Flight}
use Rattle.authority_cache.specs.Lists.{answers_in, is_answer_for, is_turn_of, turns_in}
use Rattle.authority_cache.specs.Sites.{Answered, AreApart, State, nothing_known}
use Rattle.authority_cache.proofs.EntryLaws.{at-within}
use Rattle.authority_cache.proofs.SiteLaws.{other_text, same_text}

-- what all states have
abbrev pub all_of : {X : Type 0} → (List ℕ → State → List X) → List (List ℕ × State) → List X
all_of has [] = []
all_of has (e ∷ sites) = has e.0 e.1 ++ all_of has sites

pub all_more : {X : Type 0} (has : List ℕ → State → List X) (sites : List (List ℕ × State)) (e : List ℕ × State) →
    all_of has (sites ++ e ∷ []) ≡ all_of has sites ++ has e.0 e.1
all_more has [] e = append-nil (has e.0 e.1)
all_more has (f ∷ sites) e = ap (λ ys. has f.0 f.1 ++ ys) (all_more has sites e) ∙ sym (append_assoc (has f.0 f.1) (all_of has sites) (has e.0 e.1))

pub listed : {X : Type 0} (has : List ℕ → State → List X) (is_of : List ℕ → X → Bool) →
    ((a : List ℕ) (s : State) → filter (is_of a) (has a s) ≡ has a s) →
    ((a b : List ℕ) (s : State) → bytes_eq b a ≡ false → filter (is_of a) (has b s) ≡ []) →
    ((a : List ℕ) → has a nothing_known ≡ []) →
    (a : List ℕ) (sites : List (List ℕ × State)) → AreApart sites →
    filter (is_of a) (all_of has sites) ≡ has a (unwrap_or (lookup (bytes_eq a) sites) nothing_known)
listed has is_of own others none a [] apart = sym (none a)
listed has is_of own others none a (e ∷ sites) apart = by (bytes_eq a e.0) refl (listed has is_of own others none a sites apart.1)
  where
    both : filter (is_of a) (has e.0 e.1 ++ all_of has sites) ≡ filter (is_of a) (has e.0 e.1) ++ filter (is_of a) (all_of has sites)
    both = filter-append (is_of a) (has e.0 e.1) (all_of has sites)

    by : (t : Bool) → bytes_eq a e.0 ≡ t → filter (is_of a) (all_of has sites) ≡ has a (unwrap_or (lookup (bytes_eq a) sites) nothing_known) →
        filter (is_of a) (has e.0 e.1 ++ all_of has sites) ≡ has a (unwrap_or (cond t (Some e.1) (lookup (bytes_eq a) sites)) nothing_known)
    by true is rest =
        let same : a ≡ e.0 = (bytes_eq-Decides a e.0).0 is in
        let here : filter (is_of a) (has e.0 e.1) ≡ has a e.1 = ap (λ b. filter (is_of a) (has b e.1)) (sym same) ∙ own a e.1 in
        let gone : lookup (bytes_eq a) sites ≡ None = subst (λ b. lookup (bytes_eq b) sites ≡ None) (sym same) apart.0 in
        let left : filter (is_of a) (all_of has sites) ≡ [] = rest ∙ (ap (λ o. has a (unwrap_or o nothing_known)) gone ∙ none a) in
        both ∙ (ap (λ ys. ys ++ filter (is_of a) (all_of has sites)) here ∙ (ap (λ ys. has a e.1 ++ ys) left ∙ append-nil (has a e.1)))
    by false is rest = both ∙ (ap (λ ys. ys ++ filter (is_of a) (all_of has sites)) (others a e.0 e.1 (other_text a e.0 is)) ∙ rest)

pub own_answers : (a : List ℕ) (s : State) → filter (is_answer_for a) (answers_in a s) ≡ answers_in a s
own_answers a s = by s.standing
  where
    by : (o : Option Answered) → filter (is_answer_for a) (answers_in a (record { standing = o; in_flight = s.in_flight })) ≡ answers_in a (record { standing = o; in_flight = s.in_flight })
    by None = refl
    by (Some answered) = rw (same_text a) refl

pub other_answers : (a b : List ℕ) (s : State) → bytes_eq b a ≡ false → filter (is_answer_for a) (answers_in b s) ≡ []
other_answers a b s apart = by s.standing
  where
    by : (o : Option Answered) → filter (is_answer_for a) (answers_in b (record { standing = o; in_flight = s.in_flight })) ≡ []
    by None = refl
    by (Some answered) = rw apart refl

pub own_turns : (a : List ℕ) (s : State) → filter (is_turn_of a) (turns_in a s) ≡ turns_in a s
own_turns a s = by s.in_flight
  where
    by : (o : Option Flight) → filter (is_turn_of a) (turns_in a (record { standing = s.standing; in_flight = o })) ≡ turns_in a (record { standing = s.standing; in_flight = o })
    by None = refl
    by (Some flight) = rw (same_text a) refl

pub other_turns : (a b : List ℕ) (s : State) → bytes_eq b a ≡ false → filter (is_turn_of a) (turns_in b s) ≡ []
other_turns a b s apart = by s.in_flight
  where
    by : (o : Option Flight) → filter (is_turn_of a) (turns_in b (record { standing = s.standing; in_flight = o })) ≡ []
    by None = refl
    by (Some flight) = rw apart refl

pub listed-more : {X : Type 0} (has : List ℕ → State → List X) (sites : List (List ℕ × State)) (i : ℕ) (e : List ℕ × State) → slice_get sites i ≡ Some e →
    all_of has (take (i + 1) sites) ≡ all_of has (take i sites) ++ has e.0 e.1
listed-more has sites i e at =
    let there = at-within sites i e at in
    ap (all_of has) (take_more sites i e there.0)
    ∙ (all_more has (take i sites) (get_or sites i e) ∙ ap (λ (x : List ℕ × State). all_of has (take i sites) ++ has x.0 x.1) there.1)
