-- The least of what passes one test or another.
-- Used by `RankedRows`.
use Rattle.std.proofs.Common.{◌≡◌, ◌⊎◌, ℕ, ◌≤◌, Bool, true, false, inl, inr, List, [], ◌∷◌, ◌++◌, Contains, refl, sym, ap, subst, arith}
use Rattle.std.specs.Prelude.{Option, Some, None, IfSome, not, unwrap_or, is_some}
use Rattle.std.specs.Option.{option_eq}
use Rattle.std.proofs.Math.Dec.{eqb}
use Rattle.std.proofs.lemmas.Bool.{eqb-true, not-false, true≢false}
use Rattle.std.proofs.lemmas.List.Elements.{Contains-append_left, Contains-push, Contains-push_cases}
use Rattle.robots_verdict.specs.Index.{FindsLeast, IsHit}
use Rattle.robots_verdict.specs.Placed.{Placed}
use Rattle.robots_verdict.specs.Rows.{row_at}
use Rattle.robots_verdict.specs.Search.{IsFound, IsHitIn, is_plain_pattern, IsOtherHit, IsPlainHit}
use Rattle.robots_verdict.proofs.PlainHits.{plain_matches}

some_is : (one other : ℕ) → Some one ≡ Some other → one ≡ other
some_is one other same = ap (λ (o : Option ℕ). unwrap_or o one) same

-- a place that was found is no greater than this one
abbrev pub Reaches : Option ℕ → ℕ → Type 0
Reaches found place = (best : ℕ) × (found ≡ Some best) × (best ≤ place)

pub passes : (Test : ℕ → Type 0) (found : Option ℕ) → FindsLeast Test found → (place : ℕ) → found ≡ Some place → Test place
passes Test None least place is = absurd (true≢false (ap is_some (sym is)))
passes Test (Some best) least place is = subst Test (some_is best place is) least.0

pub reaches : (Test : ℕ → Type 0) (found : Option ℕ) → FindsLeast Test found → (place : ℕ) → Test place → Reaches found place
reaches Test None least place test = absurd (least place test)
reaches Test (Some best) least place test = (best, refl, least.1 place test)

pub least_by : (Test : ℕ → Type 0) (found : Option ℕ) → ((place : ℕ) → found ≡ Some place → Test place) → ((place : ℕ) → Test place → Reaches found place) → FindsLeast Test found
least_by Test None sound complete = λ place test. true≢false (ap is_some (sym (complete place test).1))
least_by Test (Some best) sound complete = (sound best refl, λ place test. let one = complete place test in let same = some_is best one.0 one.1 in omega (arith, same, one.2))

further : (Test : ℕ → Type 0) (found later : Option ℕ) (place : ℕ) → FindsLeast Test later → ((best : ℕ) → found ≡ Some best → Test best) → Reaches found place → Reaches later place
further Test found later place least keeps one =
    let next = reaches Test later least one.0 (keeps one.0 one.1) in
    (next.0, next.1, omega (arith, one.2, next.2))

kind_of : (rows : List Placed) (group : ℕ) (path : List ℕ) (place : ℕ) (plain : Bool) → is_plain_pattern (row_at rows place).form ≡ plain → IsHitIn rows group path place →
    IsPlainHit rows group path place ⊎ IsOtherHit rows group path place
kind_of rows group path place true is hit =
    inl (record { within = hit.within; plain = is; in_group = hit.in_group; begun = (plain_matches (row_at rows place).form path is).0 hit.matches })
kind_of rows group path place false is hit = inr (record { within = hit.within; other = is; in_group = hit.in_group; matches = hit.matches })

hit_of_plain : (rows : List Placed) (group : ℕ) (path : List ℕ) (place : ℕ) → IsPlainHit rows group path place → IsHitIn rows group path place
hit_of_plain rows group path place hit =
    record { within = hit.within; in_group = hit.in_group; matches = (plain_matches (row_at rows place).form path hit.plain).1 hit.begun }

hit_of_other : (rows : List Placed) (group : ℕ) (path : List ℕ) (place : ℕ) → IsOtherHit rows group path place → IsHitIn rows group path place
hit_of_other rows group path place hit = record { within = hit.within; in_group = hit.in_group; matches = hit.matches }

pub first_in_group : (rows : List Placed) (group : ℕ) (path : List ℕ) (found plain stronger result : Option ℕ) → FindsLeast (IsPlainHit rows group path) plain →
    FindsLeast (λ place. IsFound found place ⊎ IsFound plain place) stronger → FindsLeast (λ place. IsFound stronger place ⊎ IsOtherHit rows group path place) result →
    FindsLeast (λ place. IsFound found place ⊎ IsHitIn rows group path place) result
first_in_group rows group path found plain stronger result plain_least stronger_least least = least_by _ result sound complete
  where
    from_stronger : (place : ℕ) → IsFound found place ⊎ IsFound plain place → IsFound found place ⊎ IsHitIn rows group path place
    from_stronger place (inl is) = inl is
    from_stronger place (inr is) = inr (hit_of_plain rows group path place (passes _ plain plain_least place is))

    from_result : (place : ℕ) → IsFound stronger place ⊎ IsOtherHit rows group path place → IsFound found place ⊎ IsHitIn rows group path place
    from_result place (inl is) = from_stronger place (passes _ stronger stronger_least place is)
    from_result place (inr hit) = inr (hit_of_other rows group path place hit)

    sound : (place : ℕ) → result ≡ Some place → IsFound found place ⊎ IsHitIn rows group path place
    sound place is = from_result place (passes _ result least place is)

    from_found : (place : ℕ) → Reaches stronger place → Reaches result place
    from_found place one = further _ stronger result place least (λ best is. inl is) one

    from_kind : (place : ℕ) → IsPlainHit rows group path place ⊎ IsOtherHit rows group path place → Reaches result place
    from_kind place (inl hit) = from_found place (further _ plain stronger place stronger_least (λ best is. inr is) (reaches _ plain plain_least place hit))
    from_kind place (inr hit) = reaches _ result least place (inr hit)

    complete : (place : ℕ) → IsFound found place ⊎ IsHitIn rows group path place → Reaches result place
    complete place (inl is) = from_found place (reaches _ stronger stronger_least place (inl is))
    complete place (inr hit) = from_kind place (kind_of rows group path place (is_plain_pattern (row_at rows place).form) refl hit)

pub one_group_more : (rows : List Placed) (groups : List ℕ) (group : ℕ) (more path : List ℕ) (found result : Option ℕ) → more ≡ groups ++ group ∷ [] →
    FindsLeast (IsHit rows groups path) found → FindsLeast (λ place. IsFound found place ⊎ IsHitIn rows group path place) result → FindsLeast (IsHit rows more path) result
one_group_more rows groups group more path found result is before least = subst (λ (gs : List ℕ). FindsLeast (IsHit rows gs path) result) (sym is) (least_by _ result sound complete)
  where
    from : (place : ℕ) → IsFound found place ⊎ IsHitIn rows group path place → IsHit rows (groups ++ group ∷ []) path place
    from place (inl known) =
        let hit = passes _ found before place known in
        record { within = hit.within; governs = Contains-append_left groups (group ∷ []) (row_at rows place).group hit.governs; matches = hit.matches }
    from place (inr hit) =
        record { within = hit.within; governs = subst (Contains (groups ++ group ∷ [])) (sym hit.in_group) (Contains-push groups group); matches = hit.matches }

    sound : (place : ℕ) → result ≡ Some place → IsHit rows (groups ++ group ∷ []) path place
    sound place known = from place (passes _ result least place known)

    of_group : (place : ℕ) → IsHit rows (groups ++ group ∷ []) path place → Contains groups (row_at rows place).group ⊎ (group ≡ (row_at rows place).group) → Reaches result place
    of_group place hit (inl old) =
        further _ found result place least (λ best known. inl known) (reaches _ found before place (record { within = hit.within; governs = old; matches = hit.matches }))
    of_group place hit (inr new) = reaches _ result least place (inr (record { within = hit.within; in_group = sym new; matches = hit.matches }))

    complete : (place : ℕ) → IsHit rows (groups ++ group ∷ []) path place → Reaches result place
    complete place hit = of_group place hit (Contains-push_cases groups group (row_at rows place).group hit.governs)

pub same_group_again : (rows : List Placed) (groups : List ℕ) (group : ℕ) (more path : List ℕ) (found : Option ℕ) → more ≡ groups ++ group ∷ [] → Contains groups group →
    FindsLeast (IsHit rows groups path) found → FindsLeast (IsHit rows more path) found
same_group_again rows groups group more path found is known before = subst (λ (gs : List ℕ). FindsLeast (IsHit rows gs path) found) (sym is) (least_by _ found sound complete)
  where
    sound : (place : ℕ) → found ≡ Some place → IsHit rows (groups ++ group ∷ []) path place
    sound place tells =
        let hit = passes _ found before place tells in
        record { within = hit.within; governs = Contains-append_left groups (group ∷ []) (row_at rows place).group hit.governs; matches = hit.matches }

    of_group : (place : ℕ) → IsHit rows (groups ++ group ∷ []) path place → Contains groups (row_at rows place).group ⊎ (group ≡ (row_at rows place).group) → Reaches found place
    of_group place hit (inl old) = reaches _ found before place (record { within = hit.within; governs = old; matches = hit.matches })
    of_group place hit (inr new) = reaches _ found before place (record { within = hit.within; governs = subst (Contains groups) new known; matches = hit.matches })

    complete : (place : ℕ) → IsHit rows (groups ++ group ∷ []) path place → Reaches found place
    complete place hit = of_group place hit (Contains-push_cases groups group (row_at rows place).group hit.governs)

pub tried_before : (last : Option ℕ) (group : ℕ) (groups : List ℕ) → IfSome last (Contains groups) → not (option_eq eqb last (Some group)) ≡ false → Contains groups group
tried_before None group groups tried is = absurd (true≢false is)
tried_before (Some other) group groups tried is = subst (Contains groups) (eqb-true other group (not-false (eqb other group) is)) tried

pub still_tried : (last : Option ℕ) (groups : List ℕ) (group : ℕ) (more : List ℕ) → more ≡ groups ++ group ∷ [] → IfSome last (Contains groups) → IfSome last (Contains more)
still_tried None groups group more is tried = tt
still_tried (Some other) groups group more is tried = subst (λ (gs : List ℕ). Contains gs other) (sym is) (Contains-append_left groups (group ∷ []) other tried)
