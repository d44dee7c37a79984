-- What is taken out, from the first ones or from the twins.
use Rattle.std.proofs.Common.{◌++◌, ◌∷◌, length, slice_get, IsSome, refl, sym, ap, subst, ◌∙◌, IsPermutation}
use Rattle.std.proofs.lemmas.Option.{slice_get_read}
use Rattle.std.specs.Map.{values_of}
use Rattle.numbered_store.specs.Stores.{kept_at, kept_in}
use Rattle.numbered_store.proofs.Keeping.{first_out, twin_out, within}
use Rattle.numbered_store.proofs.store.Store.remove.Goals as goal

pub returns-in-Some-clause-left : goal.returns-in-Some-clause-left
returns-in-Some-clause-left g c =
    let es = c.self.inside.first.entries in
    let twins = c.self.inside.twins.items in
    let kept = c.in-Some.kept in
    let out = first_out es c.in-First.place (c.in-Some.field-0-0, kept) twins (sym c.in-Some.ensures.entry) in
    subst (λ s. IsPermutation (kept_in s) (kept ∷ (values_of c.swap_remove_index.new.self.entries ++ twins))) c.self.view_is
    (subst (λ left. IsPermutation (values_of es ++ twins) (kept ∷ (values_of left ++ twins))) (sym c.in-Some.ensures.entries) out)

pub returns-in-Twin-clause-taken : goal.returns-in-Twin-clause-taken
returns-in-Twin-clause-taken g c =
    let twins = c.self.inside.twins.items in
    let place = c.in-Twin.place in
    let here = ap (kept_at c.args.self.now) c.in-Twin.is ∙ ap (λ s. slice_get s.twins place) (sym c.self.view_is) in
    here ∙ slice_get_read twins (length twins) place c.swap_remove.result refl (within twins place (subst IsSome here c.requires)) c.swap_remove.ensures.value

pub returns-in-Twin-clause-left : goal.returns-in-Twin-clause-left
returns-in-Twin-clause-left g c =
    let first = values_of c.self.inside.first.entries in
    let twins = c.self.inside.twins.items in
    let place = c.in-Twin.place in
    let taken = c.swap_remove.result in
    let here = ap (kept_at c.args.self.now) c.in-Twin.is ∙ ap (λ s. slice_get s.twins place) (sym c.self.view_is) in
    let out = twin_out first twins place taken (within twins place (subst IsSome here c.requires)) c.swap_remove.ensures.value in
    subst (λ s. IsPermutation (kept_in s) (taken ∷ (first ++ c.swap_remove.new.self.items))) c.self.view_is
    (subst (λ left. IsPermutation (first ++ twins) (taken ∷ (first ++ left))) (sym c.swap_remove.ensures.items) out)
