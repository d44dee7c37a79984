-- The entry is there, and the others stay.
use Rattle.std.proofs.Common.{◌≡◌, List, ℕ, Some, OnOk, cond, sym, subst}
use Rattle.std.specs.HashMap.{get_by_text}
use Rattle.std.specs.Str.{bytes_eq}
use Rattle.std.proofs.lemmas.Map.Text.{hash_map_updates_text}
use Rattle.site_door.proofs.table.add.Goals as goal
use Rattle.site_door.proofs.table.add.Goals.{in-Ok, in-Err}

pub returns-clause-ok : goal.returns-clause-ok
returns-clause-ok c =
    let old = c.args.table.now in
    let new = c.insert.new.self in
    elim c.match-insert.branch [
      | in-Ok w ↦ subst (λ r. OnOk r ((other : List ℕ) → get_by_text new other ≡ cond (bytes_eq c.args.site.now other) (Some c.args.door) (get_by_text old other))) (sym w.result-is)
          (λ other. subst (λ (a : List ℕ). get_by_text new other ≡ cond (bytes_eq a other) (Some c.args.door) (get_by_text old other)) c.in_ok-name.ensures.ok
          (hash_map_updates_text _ old new (Some c.args.door) w.in-Ok.ensures.updates other))
      | in-Err w ↦ subst (λ r. OnOk r ((other : List ℕ) → get_by_text new other ≡ cond (bytes_eq c.args.site.now other) (Some c.args.door) (get_by_text old other))) (sym w.result-is) tt
    ]
