-- The value sought is among the remaining ones, whose indices are offset.
use Rattle.std.proofs.Common.{◌≡◌, ◌+◌, ℕ, length, slice_get}
use Rattle.std.specs.List.{list_any}
use Rattle.numbered_store.specs.Stores.{is_sought}
use Rattle.numbered_store.proofs.store.find_among.Given as goal

abbrev pub invariant-loop-rest : goal.invariant-loop-rest
invariant-loop-rest g l =
    (l.place + length l.rest ≡ length l.all)
    × (((place : ℕ) → slice_get l.rest place ≡ slice_get l.all (l.place + place))
    × (list_any (is_sought g.T.Numbered.named (g.S.Sought.accepts l.sought) l.number) l.rest
    ≡ list_any (is_sought g.T.Numbered.named (g.S.Sought.accepts l.sought) l.number) l.all))

abbrev pub decreases-loop-rest : goal.decreases-loop-rest
decreases-loop-rest g l = length l.rest
