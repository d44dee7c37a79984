-- Nothing is kept in either part.
use Rattle.std.proofs.Common.{sym, ap, ◌∙◌, length}
use Rattle.numbered_store.specs.Stores.{kept_in}
use Rattle.numbered_store.proofs.Keeping.{none_first, none_twin}
use Rattle.numbered_store.proofs.store.Store.destroy_empty.Goals as goal

pub destroy_empty-requires : goal.destroy_empty-requires
destroy_empty-requires g c = none_first c.self.inside.first.entries c.self.inside.twins.items (ap kept_in c.self.view_is ∙ c.requires)

pub destroy_empty-requires-2 : goal.destroy_empty-requires-2
destroy_empty-requires-2 g c =
    let none = none_twin _ c.self.inside.twins.items (ap kept_in c.self.view_is ∙ c.requires) in
    sym c.as_slice-none.ensures.len ∙ ap length (c.as_slice-none.ensures.value ∙ none)
