-- A new number is appended to the first ones, a known one to the twins.
use Rattle.std.proofs.Common.{◌≡◌, eqb, ◌++◌, ◌∷◌, sym, subst, ◌∙◌, IsPermutation, All}
use Rattle.std.proofs.lemmas.List.Elements.{All-push}
use Rattle.std.specs.Map.{values_of}
use Rattle.indexmap.proofs.CallerLemmas.{insert_entry-new}
use Rattle.numbered_store.specs.Stores.{kept_in}
use Rattle.numbered_store.proofs.Keeping.{first_in, twin_in}
use Rattle.numbered_store.proofs.store.Store.put.Goals as goal

pub returns-then-contains_key-clause-kept : goal.returns-then-contains_key-clause-kept
returns-then-contains_key-clause-kept g c =
    let first = values_of c.self.inside.first.entries in
    subst (λ s. IsPermutation (c.args.kept ∷ kept_in s) (first ++ c.push_reserved.new.self.items)) c.self.view_is
    (subst (λ twins. IsPermutation (c.args.kept ∷ (first ++ c.self.inside.twins.items)) (first ++ twins)) (sym c.push_reserved.ensures.items)
    (twin_in first c.self.inside.twins.items c.args.kept))

pub invariant_of-self-2 : goal.invariant_of-self-2
invariant_of-self-2 g c =
    let first = c.self.inside.first in
    let number = c.numbered-number.result in
    let new = c.in-Ok-None.ensures.entries ∙ insert_entry-new eqb first number c.args.kept (sym c.in-Ok-None.ensures.old ∙ c.in-Ok-None.field-0-is) in
    subst (All (λ e. g.T.Numbered.named e.1 ≡ e.0)) (sym new)
    (All-push (λ e. g.T.Numbered.named e.1 ≡ e.0) first.entries (number, c.args.kept) c.self.invariant (sym c.numbered-number.ensures))

pub returns-clause-kept : goal.returns-clause-kept
returns-clause-kept g c =
    let first = c.self.inside.first in
    let twins = c.self.inside.twins.items in
    let number = c.numbered-number.result in
    let new = c.in-Ok-None.ensures.entries ∙ insert_entry-new eqb first number c.args.kept (sym c.in-Ok-None.ensures.old ∙ c.in-Ok-None.field-0-is) in
    subst (λ s. IsPermutation (c.args.kept ∷ kept_in s) (values_of c.insert.new.self.entries ++ twins)) c.self.view_is
    (subst (λ es. IsPermutation (c.args.kept ∷ (values_of first.entries ++ twins)) (values_of es ++ twins)) (sym new)
    (first_in first.entries number c.args.kept twins))
