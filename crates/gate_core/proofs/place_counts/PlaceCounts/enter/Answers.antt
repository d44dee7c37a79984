-- The first permit of an authority is counted, and the others stay.
-- By `adds_one` of `Counting`.
use Rattle.std.proofs.Common.{◌≡◌, ◌+◌, List, ℕ, Some, OnOk, sym, ap, subst}
use Rattle.std.specs.Prelude.{unwrap_or}
use Rattle.gate_core.specs.PlaceCounts.{AddsOne, held_by}
use Rattle.gate_core.proofs.Counting.{adds_one}
use Rattle.gate_core.proofs.place_counts.PlaceCounts.enter.Goals as goal
use Rattle.gate_core.proofs.place_counts.PlaceCounts.enter.Goals.{in-Ok, in-Err}

pub returns-clause-ok : goal.returns-clause-ok
returns-clause-ok c = elim c.match-insert.branch [
  | in-Ok w ↦ subst (λ r. OnOk r (AddsOne (held_by c.args.self.now) c.args.authority.now (held_by (record { by_authority = c.insert.new.self; last = c.args.self.now.last })))) (sym w.result-is)
      (subst (λ (a : List ℕ). AddsOne (held_by c.args.self.now) a (held_by (record { by_authority = c.insert.new.self; last = c.args.self.now.last }))) c.in_ok-name.ensures.ok
      (adds_one c.args.self.now.by_authority c.insert.new.self _ (Some 1) w.in-Ok.ensures.updates
      (subst (λ (a : List ℕ). 1 ≡ held_by c.args.self.now a + 1) (sym c.in_ok-name.ensures.ok) (sym (ap (λ o. unwrap_or o 0 + 1) c.requires)))))
  | in-Err w ↦ subst (λ r. OnOk r (AddsOne (held_by c.args.self.now) c.args.authority.now (held_by (record { by_authority = c.insert.new.self; last = c.args.self.now.last })))) (sym w.result-is) tt
]
