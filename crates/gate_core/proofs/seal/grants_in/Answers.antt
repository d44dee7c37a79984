-- Each slot in which something was granted is listed once.
-- By `ListedGrants`.
use Rattle.std.proofs.Common.{◌≡◌, ◌+◌, ◌++◌, ◌∷◌, [], ◌<◌, ◌≤◌, Vec, Global, List, filter, get_or, length, take, sym, ap, subst, ◌∙◌}
use Rattle.std.proofs.lemmas.List.{append-nil, get_or_read, take_all}
use Rattle.permit_book.specs.declared.out.Slot.{Slot}
use Rattle.permit_book.specs.Table.{unused}
use Rattle.gate_history.specs.declared.base.SlotGrant.{SlotGrant}
use Rattle.gate_history.specs.Grants.{is_in}
use Rattle.gate_core.specs.Sealing.{grants_at}
use Rattle.gate_core.proofs.ListedGrants.{grants_from, listed, listed-more, none_at, some_at}
use Rattle.gate_core.proofs.seal.grants_in.Goals as goal
use Rattle.gate_core.proofs.seal.grants_in.Goals.{then-last-gt0+in_ok-push, else-last-gt0}

pub loop-place-preserved : goal.loop-place-preserved
loop-place-preserved c =
    let slots = c.args.permits.now.slots in
    let i = c.loop-place.place in
    let slot = get_or c.slots-slots.result.now i c.index-slots-place.result in
    let low : i < length slots = subst (λ (xs : List Slot). i < length xs) c.slots-slots.ensures.slots c.loop-place-test.true in
    let read : slot ≡ get_or slots i unused =
    sym c.index-slots-place.is
    ∙ get_or_read slots i c.index-slots-place.result low (c.index-slots-place.is ∙ ap (λ (xs : List Slot). get_or xs i c.index-slots-place.result) c.slots-slots.ensures.slots) unused in
    let more : grants_from 0 (take i slots) ++ grants_at i slot.last ≡ grants_from 0 (take (i + 1) slots) =
    ap (λ (s : Slot). grants_from 0 (take i slots) ++ grants_at i s.last) read ∙ sym (listed-more slots i low) in
    elim c.if-last-gt0.branch [
      | then-last-gt0+in_ok-push w ↦ ap (λ (v : Vec SlotGrant Global). v.items) w.grants-is ∙ (w.in_ok-push.ensures.items
          ∙ (ap (λ (found : List SlotGrant). found ++ record { slot = i; generation = slot.last } ∷ []) c.loop-place.invariant
          ∙ (ap (λ (found : List SlotGrant). grants_from 0 (take i slots) ++ found) (sym (some_at i slot.last w.if-last-gt0.true)) ∙ more)))
      | else-last-gt0 w ↦ ap (λ (v : Vec SlotGrant Global). v.items) w.grants-is ∙ (c.loop-place.invariant
          ∙ (sym (append-nil (grants_from 0 (take i slots))) ∙ (ap (λ (found : List SlotGrant). grants_from 0 (take i slots) ++ found) (sym (none_at i slot.last w.if-last-gt0.false)) ∙ more)))
    ]

pub returns : goal.returns
returns c = λ slot.
    let slots = c.args.permits.now.slots in
    let long : length slots ≤ c.loop-place.place = subst (λ (xs : List Slot). length xs ≤ c.loop-place.place) c.slots-slots.ensures.slots c.loop-place-test.false in
    ap (λ (found : List SlotGrant). filter (is_in slot) found) (c.loop-place.invariant ∙ ap (grants_from 0) (take_all c.loop-place.place slots long))
    ∙ listed c.args.permits.now slot
