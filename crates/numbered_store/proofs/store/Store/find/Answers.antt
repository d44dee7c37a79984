-- The first value of the number is tested, then the twins.
use Rattle.std.proofs.Common.{◌≡◌, false, true, sym, subst, ◌∙◌, IfSome, IsSome, slice_get, rules}
use Rattle.std.specs.List.{list_any}
use Rattle.numbered_store.specs.Stores.{is_sought, kept_in}
use Rattle.numbered_store.proofs.Keeping.{absent, hit, neither, none_too, only, value_at}
use Rattle.numbered_store.proofs.store.Store.find.Goals as goal

pub returns-in_default-clause-none : goal.returns-in_default-clause-none
returns-in_default-clause-none g c =
    let named = g.T.Numbered.named in
    let accepts = g.S.Sought.accepts c.args.sought.now in
    let first = c.self.inside.first in
    none_too c.find_twin.result (λ none. subst (λ s. list_any (is_sought named accepts c.args.number) (kept_in s) ≡ false) c.self.view_is
    (neither named accepts c.args.number _ _ (absent named accepts c.args.number first.entries c.self.invariant (sym c.in_default.ensures.value))
    (subst (λ s. list_any (is_sought named accepts c.args.number) s.twins ≡ false) (sym c.self.view_is) none))) c.find_twin.ensures.none

pub returns-then-is-clause-some : goal.returns-then-is-clause-some
returns-then-is-clause-some g c =
    let named = g.T.Numbered.named in
    let accepts = g.S.Sought.accepts c.args.sought.now in
    let es = c.self.inside.first.entries in
    let kept = c.in-Some.kept.now in
    let here = value_at es c.in-Some.place c.in-Some.field-0-1.now kept c.in-Some.ensures.entry in
    let sought = hit named accepts c.args.number es c.in-Some.place c.in-Some.field-0-1.now kept c.self.invariant c.in-Some.ensures.entry (sym c.in-Some.ensures.key) (sym c.is.ensures ∙ c.if-is.true) in
    subst (λ s. IfSome (slice_get s.first c.in-Some.place) (λ x. is_sought named accepts c.args.number x ≡ true)) c.self.view_is
    (subst (λ o. IfSome o (λ x. is_sought named accepts c.args.number x ≡ true)) (sym here) sought)

pub returns-then-is-clause-there : goal.returns-then-is-clause-there
returns-then-is-clause-there g c =
    let here = value_at c.self.inside.first.entries c.in-Some.place c.in-Some.field-0-1.now c.in-Some.kept.now c.in-Some.ensures.entry in
    subst (λ s. IsSome (slice_get s.first c.in-Some.place)) c.self.view_is (subst IsSome (sym here) (search rules))

pub returns-clause-none : goal.returns-clause-none
returns-clause-none g c =
    let named = g.T.Numbered.named in
    let accepts = g.S.Sought.accepts c.args.sought.now in
    let first = c.self.inside.first in
    none_too c.find_twin-2.result (λ none. subst (λ s. list_any (is_sought named accepts c.args.number) (kept_in s) ≡ false) c.self.view_is
    (neither named accepts c.args.number _ _ (only named accepts c.args.number first.entries c.in-Some.kept.now c.self.invariant c.len-unique.ensures.unique (sym c.in-Some.ensures.value) (sym c.is.ensures ∙ c.if-is.false))
    (subst (λ s. list_any (is_sought named accepts c.args.number) s.twins ≡ false) (sym c.self.view_is) none))) c.find_twin-2.ensures.none
