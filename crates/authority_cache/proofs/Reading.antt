-- What is read of the cache and of lists that agree with it is the same.
-- Used by `readers_are_alike` of `laws.rt`.
use Rattle.std.proofs.Common.{◌≡◌, ℕ, ◌==◌, Bool, true, false, cond, ◌&&◌, ◌||◌, List, [], ◌∷◌, filter, Option, Some, None, is_some, option_to_list, refl, sym, ap, ◌∙◌}
use Rattle.std.proofs.Math.Bool.{or-false}
use Rattle.std.specs.List.{find, list_any}
use Rattle.std.specs.Option.{option_map, option_map_or}
use Rattle.authority_cache.specs.declared.site.Flight.{Flight}
use Rattle.authority_cache.specs.Sites.{site_of}
use Rattle.authority_cache.specs.Lists.{answer_for, has_number, is_answer_for, is_turn_of, turn_for}
use Rattle.authority_cache.specs.Laws.{TellingReadsAlike}
use Rattle.authority_cache.proofs.Telling.{list_any-filter}

list_any-both : {X : Type 0} (p q : X → Bool) (xs : List X) → list_any (λ x. p x && q x) xs ≡ list_any p (filter q xs)
list_any-both p q [] = refl
list_any-both p q (x ∷ xs) = by (p x) (q x) refl (list_any-both p q xs)
  where
    by : (a b : Bool) → p x ≡ a → list_any (λ y. p y && q y) xs ≡ list_any p (filter q xs) →
        ((a && b) || list_any (λ y. p y && q y) xs) ≡ list_any p (cond b (x ∷ filter q xs) (filter q xs))
    by true true is rest = rw is refl
    by false true is rest = rw is rest
    by true false is rest = rest
    by false false is rest = rest

find-filter : {X : Type 0} (p : X → Bool) (xs : List X) → find p xs ≡ find (λ _. true) (filter p xs)
find-filter p [] = refl
find-filter p (x ∷ xs) = by (p x) (find-filter p xs)
  where
    by : (b : Bool) → find p xs ≡ find (λ _. true) (filter p xs) →
        cond b (Some x) (find p xs) ≡ find (λ _. true) (cond b (x ∷ filter p xs) (filter p xs))
    by true rest = refl
    by false rest = rest

any-one : {X Y : Type 0} (f : X → Y) (o : Option X) → list_any (λ _. true) (option_to_list (option_map f o)) ≡ is_some o
any-one f None = refl
any-one f (Some x) = refl

find-one : {Y : Type 0} (o : Option Y) → find (λ _. true) (option_to_list o) ≡ o
find-one None = refl
find-one (Some y) = refl

numbered-one : (authority : List ℕ) (turn : ℕ) (o : Option Flight) →
    list_any (has_number turn) (option_to_list (option_map (turn_for authority) o)) ≡ option_map_or (λ flight. flight.turn == turn) o false
numbered-one authority turn None = refl
numbered-one authority turn (Some flight) = or-false (flight.turn == turn)

pub reads_alike : TellingReadsAlike
reads_alike k standing in_flight tells = record {
  flying = λ a. sym (flies a);
  turns = λ a turn. sym (list_any-both (has_number turn) (is_turn_of a) in_flight
      ∙ (ap (list_any (has_number turn)) (tells.turns_are a) ∙ numbered-one a turn (site_of k a).in_flight));
  answers = λ a. sym (find-filter (is_answer_for a) standing
      ∙ (ap (find (λ _. true)) (tells.answers_are a) ∙ find-one (option_map (answer_for a) (site_of k a).standing)));
  known = λ a. rw (flies a, answers a) refl;
}
  where
    flies : (a : List ℕ) → list_any (is_turn_of a) in_flight ≡ is_some (site_of k a).in_flight
    flies a = list_any-filter (is_turn_of a) in_flight ∙ (ap (list_any (λ _. true)) (tells.turns_are a) ∙ any-one (turn_for a) (site_of k a).in_flight)

    answers : (a : List ℕ) → list_any (is_answer_for a) standing ≡ is_some (site_of k a).standing
    answers a = list_any-filter (is_answer_for a) standing ∙ (ap (list_any (λ _. true)) (tells.answers_are a) ∙ any-one (answer_for a) (site_of k a).standing)
