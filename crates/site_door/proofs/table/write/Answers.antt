-- The entry is written, and the others stay.
use Rattle.std.proofs.Common.{rules, Some}
use Rattle.std.proofs.lemmas.Map.Text.{hash_map_updates_text}
use Rattle.site_door.proofs.table.write.Goals as goal

pub returns-in-Some-clause-wrote : goal.returns-in-Some-clause-wrote
returns-in-Some-clause-wrote c = λ _ other.
    hash_map_updates_text c.args.site.now c.args.table.now (c.get_mut.follows.lender c.args.door) (Some c.args.door)
    ((c.get_mut.follows.holds c.args.door).3 (search rules)) other
