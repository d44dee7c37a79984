-- The names equal to the token are adjacent.
use Rattle.std.proofs.Common.{rules, of_calls, [], ◌∷◌, ◌≡◌, ◌<◌, ◌≤◌, ◌-◌, ℕ, true, false, not, List, length, map, drop, take, Contains, sym, ap, ◌∙◌, subst, refl, arith}
use Rattle.std.specs.Prelude.{◌↔◌}
use Rattle.std.specs.List.Sorted.{IsNonDecreasing, IsPartitionPoint, IsSortedBy}
use Rattle.std.specs.Ordering.{is_gt, is_lt, nat_cmp}
use Rattle.std.specs.Cmp.Lexicographic.{slice_cmp}
use Rattle.std.proofs.lemmas.Bool.{true≢false}
use Rattle.std.proofs.lemmas.Fn.{always_returns_same}
use Rattle.std.proofs.lemmas.List.{length-map}
use Rattle.robots_verdict.specs.declared.heads.Name.{Name}
use Rattle.robots_verdict.specs.Heads.{has_name, is_name_before, IsGroupFor, name_seen}
use Rattle.robots_verdict.specs.Placed.{NamedGroup, Names}
use Rattle.robots_verdict.proofs.HeadLemmas.{before_falls, behind_falls, choose, has_run, IsRun, no_run, partitioned_kept, point_seen, run_groups, run_of, run_rises}
use Rattle.robots_verdict.proofs.heads.Heads.groups_for.Goals as goal

run : (names : List Name) (token : List ℕ) (low high : ℕ) → low ≤ length names → high ≤ length names →
    IsPartitionPoint (λ (n : Name). is_lt (slice_cmp nat_cmp n.text.items token) ≡ true) (λ (n : Name). is_lt (slice_cmp nat_cmp n.text.items token) ≡ false) names low →
    IsPartitionPoint (λ (n : Name). not (is_gt (slice_cmp nat_cmp n.text.items token)) ≡ true) (λ (n : Name). not (is_gt (slice_cmp nat_cmp n.text.items token)) ≡ false) names high →
    IsRun (map name_seen names) token low high
run names token low high low_fits fits lows highs =
    let few = length-map names name_seen in
    run_of (map name_seen names) token low high (omega arith) (omega arith)
    (point_seen name_seen (λ n. is_lt (slice_cmp nat_cmp n.name token)) names low low_fits lows)
    (point_seen name_seen (λ n. not (is_gt (slice_cmp nat_cmp n.name token))) names high fits highs)

found : (names : Names) (groups token : List ℕ) (low high : ℕ) → groups ≡ map (λ (n : NamedGroup). n.group) names.named → IsRun names.named token low high → low < high →
    (group : ℕ) → Contains (take (high - low) (drop low groups)) group ↔ IsGroupFor names token group
found names groups token low high are run order group =
    choose (has_name names.named token) (Contains (take (high - low) (drop low groups)) group) (Contains names.named (record { name = token; group = group })) (Contains names.everybody group)
    (λ _. run_groups names.named groups token low high are run group)
    (λ none. absurd (true≢false (sym (has_run names.named token low high run order) ∙ none)))

missing : (names : Names) (token : List ℕ) (low high : ℕ) → IsRun names.named token low high → high ≤ low →
    (group : ℕ) → Contains names.everybody group ↔ IsGroupFor names token group
missing names token low high run order group =
    choose (has_name names.named token) (Contains names.everybody group) (Contains names.named (record { name = token; group = group })) (Contains names.everybody group)
    (λ some. absurd (true≢false (sym some ∙ no_run (has_name names.named token) names.named token low high refl run order)))
    (λ _. (λ is. is, λ is. is))

run_kept : (names one other : List Name) (token : List ℕ) (low high : ℕ) → one ≡ names → other ≡ names → low ≤ length one → high ≤ length other →
    IsPartitionPoint (λ (n : Name). is_lt (slice_cmp nat_cmp n.text.items token) ≡ true) (λ (n : Name). is_lt (slice_cmp nat_cmp n.text.items token) ≡ false) one low →
    IsPartitionPoint (λ (n : Name). not (is_gt (slice_cmp nat_cmp n.text.items token)) ≡ true) (λ (n : Name). not (is_gt (slice_cmp nat_cmp n.text.items token)) ≡ false) other high →
    IsRun (map name_seen names) token low high
run_kept names one other token low high is is' low_fits fits lows highs =
    run names token low high (subst (λ (l : List Name). low ≤ length l) is low_fits) (subst (λ (l : List Name). high ≤ length l) is' fits)
    (subst (λ (l : List Name). IsPartitionPoint (λ (n : Name). is_lt (slice_cmp nat_cmp n.text.items token) ≡ true) (λ (n : Name). is_lt (slice_cmp nat_cmp n.text.items token) ≡ false) l low) is lows)
    (subst (λ (l : List Name). IsPartitionPoint (λ (n : Name). not (is_gt (slice_cmp nat_cmp n.text.items token)) ≡ true) (λ (n : Name). not (is_gt (slice_cmp nat_cmp n.text.items token)) ≡ false) l high) is' highs)

groups_seen : (names : List Name) → map (λ (n : Name). n.group) names ≡ map (λ (n : NamedGroup). n.group) (map name_seen names)
groups_seen [] = refl
groups_seen (name ∷ names) = ap (λ gs. name.group ∷ gs) (groups_seen names)

pub returns-then-low-high : goal.returns-then-low-high
returns-then-low-high c =
    let names = c.self.inside.names.items in
    let token = c.args.token.now in
    let low = c.partition_point-low.result in
    let high = c.partition_point-high.result in
    let sorted = c.self.invariant.1 in
    let one = c.deref.result.now in
    let other = c.deref-2.result.now in
    let lows = c.partition_point-low.ensures.partitioned (λ (n : Name). is_lt (slice_cmp nat_cmp n.text.items token)) (always_returns_same _ _ _ (λ a r f k. search (rules, of_calls)))
    (partitioned_kept name_seen (λ n. is_lt (slice_cmp nat_cmp n.name token)) one (before_falls (map name_seen one) token (subst (λ (l : List Name). IsSortedBy is_name_before (map name_seen l)) (sym c.deref.ensures.value) sorted))) in
    let highs = c.partition_point-high.ensures.partitioned (λ (n : Name). not (is_gt (slice_cmp nat_cmp n.text.items token))) (always_returns_same _ _ _ (λ a r f k. search (rules, of_calls)))
    (partitioned_kept name_seen (λ n. not (is_gt (slice_cmp nat_cmp n.name token))) other (behind_falls (map name_seen other) token (subst (λ (l : List Name). IsSortedBy is_name_before (map name_seen l)) (sym c.deref-2.ensures.value) sorted))) in
    let run = run_kept names one other token low high c.deref.ensures.value c.deref-2.ensures.value c.partition_point-low.ensures.bound c.partition_point-high.ensures.bound lows highs in
    let table : Names = record { named = map name_seen names; everybody = c.self.inside.everybody.items } in
    let groups = c.deref-then-low-high.result.now in
    let are = c.deref-then-low-high.ensures.value ∙ c.self.invariant.0 ∙ groups_seen names in
    record {
      groups = subst (λ (t : Names). (group : ℕ) → Contains (take (high - low) (drop low groups)) group ↔ IsGroupFor t token group) c.self.view_is
          (found table groups token low high are run c.if-low-high.true);
      rise = run_rises (map name_seen names) groups token low high are sorted run;
    }

pub returns-else-low-high : goal.returns-else-low-high
returns-else-low-high c =
    let names = c.self.inside.names.items in
    let token = c.args.token.now in
    let low = c.partition_point-low.result in
    let high = c.partition_point-high.result in
    let sorted = c.self.invariant.1 in
    let one = c.deref.result.now in
    let other = c.deref-2.result.now in
    let lows = c.partition_point-low.ensures.partitioned (λ (n : Name). is_lt (slice_cmp nat_cmp n.text.items token)) (always_returns_same _ _ _ (λ a r f k. search (rules, of_calls)))
    (partitioned_kept name_seen (λ n. is_lt (slice_cmp nat_cmp n.name token)) one (before_falls (map name_seen one) token (subst (λ (l : List Name). IsSortedBy is_name_before (map name_seen l)) (sym c.deref.ensures.value) sorted))) in
    let highs = c.partition_point-high.ensures.partitioned (λ (n : Name). not (is_gt (slice_cmp nat_cmp n.text.items token))) (always_returns_same _ _ _ (λ a r f k. search (rules, of_calls)))
    (partitioned_kept name_seen (λ n. not (is_gt (slice_cmp nat_cmp n.name token))) other (behind_falls (map name_seen other) token (subst (λ (l : List Name). IsSortedBy is_name_before (map name_seen l)) (sym c.deref-2.ensures.value) sorted))) in
    let run = run_kept names one other token low high c.deref.ensures.value c.deref-2.ensures.value c.partition_point-low.ensures.bound c.partition_point-high.ensures.bound lows highs in
    let table : Names = record { named = map name_seen names; everybody = c.self.inside.everybody.items } in
    let all = subst (λ (t : Names). (group : ℕ) → Contains c.self.inside.everybody.items group ↔ IsGroupFor t token group) c.self.view_is
    (missing table token low high run c.if-low-high.false) in
    record {
      groups = subst (λ (gs : List ℕ). (group : ℕ) → Contains gs group ↔ IsGroupFor c.args.self.now token group) (sym c.as_slice.ensures.value) all;
      rise = subst IsNonDecreasing (sym c.as_slice.ensures.value) c.self.invariant.2;
    }
