-- No door changes, and no entry is added.
use Rattle.std.proofs.Common.{◌≡◌, ℕ, ◌≤◌, List, None, length}
use Rattle.std.specs.HashMap.{get_by_text}
use Rattle.site_door.specs.Doors.{door_in}
use Rattle.site_door.proofs.table.drop_idle.Given as goal

abbrev pub invariant-loop : goal.invariant-loop
invariant-loop l =
    ((other : List ℕ) → door_in l.fn.latest l.table other ≡ door_in l.fn.latest l.fn.table other)
    × (((other : List ℕ) → get_by_text l.fn.table other ≡ None → get_by_text l.table other ≡ None)
    × (length l.table.entries ≤ length l.fn.table.entries))
