-- The entry is gone, and the others stay.
use Rattle.std.proofs.Common.{None}
use Rattle.std.proofs.lemmas.Map.Text.{hash_map_updates_text}
use Rattle.site_door.proofs.table.take_out.Goals as goal

pub returns-clause-gone : goal.returns-clause-gone
returns-clause-gone c = hash_map_updates_text c.args.site.now c.args.table.now c.swap_remove.new.self None c.swap_remove.ensures.updates
