-- The entry that is taken out is idle, so no door changes.
-- By `idle_gone` and `none_gone` of `Tabling`.
use Rattle.std.proofs.Common.{Option, None, IfSome, String, Global, sym, subst, string_bytes, ◌∙◌}
use Rattle.std.specs.HashMap.{UpdatesBy}
use Rattle.std.specs.String.{string_eq}
use Rattle.std.proofs.lemmas.Map.Text.{hash_map_updates_text}
use Rattle.site_door.specs.declared.door.DoorState.{DoorState}
use Rattle.site_door.proofs.Tabling.{idle_gone, none_gone}
use Rattle.site_door.proofs.table.look.Goals as goal

pub returns-in-Some-clause-doors : goal.returns-in-Some-clause-doors
returns-in-Some-clause-doors c =
    let m = c.args.table.now in
    let n = c.swap_remove_index.new.self in
    let name = c.in-Some._site.now in
    let updates = subst (λ (o : Option (String Global × DoorState)). IfSome o (λ p. UpdatesBy string_eq (string_eq p.0) m n None)) (c.swap_remove_index.ensures.entry ∙ sym c.in-Some.ensures.entry) c.swap_remove_index.ensures.updates in
    idle_gone m n c.args.latest (string_bytes name) c.in-Some.door.now (sym c.is_idle.ensures ∙ c.if-is_idle.true) c.in-Some.ensures.value
    (hash_map_updates_text (string_bytes name) m n None updates)

pub returns-in-Some-clause-none : goal.returns-in-Some-clause-none
returns-in-Some-clause-none c =
    let m = c.args.table.now in
    let n = c.swap_remove_index.new.self in
    let name = c.in-Some._site.now in
    let updates = subst (λ (o : Option (String Global × DoorState)). IfSome o (λ p. UpdatesBy string_eq (string_eq p.0) m n None)) (c.swap_remove_index.ensures.entry ∙ sym c.in-Some.ensures.entry) c.swap_remove_index.ensures.updates in
    none_gone m n c.args.latest (string_bytes name) (hash_map_updates_text (string_bytes name) m n None updates)
