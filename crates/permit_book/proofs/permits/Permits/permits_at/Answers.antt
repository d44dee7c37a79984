-- Each slot has its permit at the stage listed once.
-- By the lemmas of `ListedPermits`.
use Rattle.std.proofs.Common.{◌≡◌, ◌+◌, ◌++◌, ◌<◌, ◌≤◌, List, filter, get_or, length, take, sym, ap, subst, ◌∙◌, arith}
use Rattle.std.proofs.lemmas.List.{get_or_read, take_all}
use Rattle.permit_book.specs.declared.granted_permit.GrantedPermit.{GrantedPermit}
use Rattle.permit_book.specs.declared.out.Slot.{Slot}
use Rattle.permit_book.specs.Numbers.{most_slots, number_in}
use Rattle.permit_book.specs.Outstanding.{is_numbered, listed_in}
use Rattle.permit_book.specs.Table.{Table, unused}
use Rattle.permit_book.proofs.ListedPermits.{all_from, listed, listed-more, lists_at}
use Rattle.permit_book.proofs.permits.Permits.permits_at.Goals as goal

pub loop-place-preserved : goal.loop-place-preserved
loop-place-preserved c =
    let p = c.self.inside in
    let i = c.loop-place.place in
    let low : i < length p.slots.items = omega (arith, c.loop-place-test.true, c.len-place-end.ensures) in
    let read : c.index.result.now ≡ get_or p.slots.items i unused = get_or_read p.slots.items i c.index.result.now low c.index.ensures unused in
    c.in_ok-push_at.ensures
    ∙ (ap (λ (found : List GrantedPermit). found ++ listed_in c.args.stage (number_in i c.index.result.now.last) c.index.result.now.out) c.loop-place.invariant
    ∙ subst (λ (t : Table). all_from (listed_in c.args.stage) 0 (take i t.slots) ++ listed_in c.args.stage (number_in i c.index.result.now.last) c.index.result.now.out ≡ all_from (listed_in c.args.stage) 0 (take (i + 1) t.slots)) c.self.view_is
    (ap (λ (s : Slot). all_from (listed_in c.args.stage) 0 (take i p.slots.items) ++ listed_in c.args.stage (number_in i s.last) s.out) read ∙ sym (listed-more (listed_in c.args.stage) p.slots.items i low)))

pub returns : goal.returns
returns c = λ number.
    let t = c.args.self.now in
    let few : length t.slots ≤ most_slots = subst (λ (t : Table). length t.slots ≤ most_slots) c.self.view_is c.self.invariant.within.slots in
    let long : length t.slots ≤ c.loop-place.place = subst (λ (t : Table). length t.slots ≤ c.loop-place.place) c.self.view_is (omega (arith, c.len-place-end.ensures, c.loop-place-test.false)) in
    ap (λ (found : List GrantedPermit). filter (is_numbered number) found) (c.loop-place.invariant ∙ ap (all_from (listed_in c.args.stage) 0) (take_all c.loop-place.place t.slots long))
    ∙ listed (listed_in c.args.stage) (lists_at c.args.stage) t few number
