-- The first member of the list.
use Rattle.std.proofs.Common.{◌∙◌, ap, sym, List, ℕ, ◌∷◌, []}
use Rattle.http_wire.specs.Fields.{members}
use Rattle.http_wire.proofs.Pieces.{members_split, members_whole}
use Rattle.http_wire.proofs.fields.split_member.Goals as goal

pub returns-in-Some : goal.returns-in-Some
returns-in-Some c =
    ap members c.in-Some.ensures.parts ∙ members_split _ _ c.in-Some.ensures.plain
    ∙ ap (λ (first : List ℕ). first ∷ members c.in-Some.rest.now) (sym c.trim_ows.ensures)

pub returns-in-None : goal.returns-in-None
returns-in-None c =
    members_whole _ c.in-None.ensures ∙ ap (λ (first : List ℕ). first ∷ []) (sym c.trim_ows-in-None.ensures)
