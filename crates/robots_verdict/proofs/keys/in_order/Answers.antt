-- The places are sorted as their keys.
use Rattle.std.proofs.Common.{rules, of_calls, List, ℕ, map, sym, ap, ◌∙◌, subst}
use Rattle.std.specs.Ordering.{is_lt}
use Rattle.std.proofs.lemmas.Fn.{always_returns_same}
use Rattle.std.proofs.lemmas.List.Sorted.{All-permutation, ranks_by}
use Rattle.robots_verdict.specs.declared.keys.Key.{Key}
use Rattle.robots_verdict.specs.Keys.{AreKept, AreSorted, compare_keys, IsKeyOf}
use Rattle.robots_verdict.specs.Search.{AreStrongest, IsPlainOrder}
use Rattle.robots_verdict.proofs.Keyed.{keys_total}
use Rattle.robots_verdict.proofs.Strongest.{are_strongest, kept_rise}
use Rattle.robots_verdict.proofs.keys.in_order.Goals as goal

pub strongest_of-requires : goal.strongest_of-requires
strongest_of-requires c =
    let rows = c.args.rows.now.rows in
    subst (AreSorted rows) (sym c.as_slice-2.ensures.value)
    (c.sort_unstable_by.ensures.sorted (λ one other. is_lt (compare_keys rows one other)) (ranks_by (keys_total rows) (λ (k : Key). k))
    (always_returns_same _ _ _ (λ a r f k. search (rules, of_calls))))

pub returns-clause-strongest : goal.returns-clause-strongest
returns-clause-strongest c =
    let rows = c.args.rows.now.rows in
    let keys = c.in_ok-keys.keys.items in
    let sorted = c.sort_unstable_by.new.self.items in
    let kept = c.in_ok-strongest.strongest.items in
    let same = c.sort_unstable_by.ensures.permutation in
    let known = All-permutation (IsKeyOf rows) keys sorted same c.in_ok-keys.ensures.known in
    let are = subst (λ (l : List Key). AreKept rows l kept) c.as_slice-2.ensures.value c.in_ok-strongest.ensures in
    subst (λ (places : List ℕ). AreStrongest rows places c.in_ok-ordered.ordered.items) (c.in_ok-keys.ensures.places ∙ c.as_slice.ensures.value)
    (subst (AreStrongest rows (map (λ (k : Key). k.place) keys)) (sym (c.in_ok-ordered.ensures ∙ ap (map (λ (k : Key). k.place)) c.as_slice-3.ensures.value))
    (are_strongest rows keys sorted kept same known are))

pub returns-clause-rise : goal.returns-clause-rise
returns-clause-rise c =
    let rows = c.args.rows.now.rows in
    let keys = c.in_ok-keys.keys.items in
    let sorted = c.sort_unstable_by.new.self.items in
    let kept = c.in_ok-strongest.strongest.items in
    let same = c.sort_unstable_by.ensures.permutation in
    let known = All-permutation (IsKeyOf rows) keys sorted same c.in_ok-keys.ensures.known in
    let are = subst (λ (l : List Key). AreKept rows l kept) c.as_slice-2.ensures.value c.in_ok-strongest.ensures in
    subst (IsPlainOrder rows) (sym (c.in_ok-ordered.ensures ∙ ap (map (λ (k : Key). k.place)) c.as_slice-3.ensures.value))
    (kept_rise rows keys sorted kept same known are)
