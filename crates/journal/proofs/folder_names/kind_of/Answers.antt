-- Behind twenty digits the rest of the name tells.
use Rattle.std.proofs.Common.{◌≡◌, ◌-◌, ◌∙◌, ap, arith, sym, drop, length, true}
use Rattle.std.proofs.lemmas.List.{length-drop, take_all}
use Rattle.std.specs.Prelude.{if◌then◌else◌}
use Rattle.journal.specs.declared.folder_names.NameKind.TheVariants.{Own, Foreign}
use Rattle.journal.specs.FolderNames.{begins_with_number, is_own, kind_behind}
use Rattle.journal.proofs.folder_names.kind_of.Goals as goal

pub returns-then-begins_with_number : goal.returns-then-begins_with_number
returns-then-begins_with_number c =
    let name = c.args.name.now in
    let test : begins_with_number name ≡ true = ap begins_with_number (sym c.as_bytes.ensures.value) ∙ sym c.begins_with_number.ensures ∙ c.if-begins_with_number.true in
    let text = c.as_bytes-then-begins_with_number.result.now in
    let long = length-drop 20 text in
    c.kind_behind.ensures
    ∙ ap kind_behind (take_all (length text - 20) (drop 20 text) (omega (arith, long)))
    ∙ ap (λ text. kind_behind (drop 20 text)) c.as_bytes-then-begins_with_number.ensures.value
    ∙ sym (ap (λ t. if t then kind_behind (drop 20 name) else if is_own name then Own else Foreign) test)
