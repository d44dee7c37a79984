-- One worker more is taken in, or has failed; or all are.
-- Used by `take_all`.
use Rattle.std.proofs.Common.{◌≡◌, ap, arith, length, rules, subst}
use Rattle.std.specs.Prelude.{All, Err, Ok, Some}
use Rattle.std.specs.Option.{IsSome}
use Rattle.std.proofs.lemmas.List.Elements.{All-tail}
use Rattle.worker_pool.proofs.Ending.{fails_later, fails_now, returns_all, returns_more}
use Rattle.worker_pool.proofs.pool.take_all.Goals as goal

pub returns-in-Err-clause-fault : goal.returns-in-Err-clause-fault
returns-in-Err-clause-fault g c =
    let this : c.in-Some.slot.end ≡ Some (Err c.in-Err.fault) = cc in
    fails_now (λ slot. slot.end) c.in-Some.slot c.args.slots.items c.next.new.self.rest.items c.loop-slot.slot-iterator.rest.items c.in-Err.fault
    c.in-Some.ensures.steps.0 this c.loop-slot.invariant.first

pub loop-slot-preserved : goal.loop-slot-preserved
loop-slot-preserved g c =
    let so_far = c.loop-slot.invariant in
    let slot = c.in-Some.slot in
    let slots = c.args.slots.items in
    let rest = c.next.new.self.rest.items in
    let old = c.loop-slot.slot-iterator.rest.items in
    let are = c.in-Some.ensures.steps.0 in
    let this : slot.end ≡ Some (Ok c.in-Ok.both) = cc in
    record {
      ended = All-tail (λ slot. IsSome slot.end) slot rest (subst (All (λ slot. IsSome slot.end)) are so_far.ended);
      all = returns_more (λ slot. slot.end) slot slots rest old c.in-Ok.both.0 c.in-Ok.both.1 c.loop-slot.returned.works.items c.push_reserved.new.self.items
          c.loop-slot.returned.receipts.items c.push_reserved-in-loop-slot.new.self.items are this c.push_reserved.ensures.items c.push_reserved-in-loop-slot.ensures.items so_far.all;
      first = fails_later (λ slot. slot.end) slot slots rest old c.in-Ok.both.0 c.in-Ok.both.1 are this so_far.first;
      many_works = omega (arith, so_far.many_works, c.push_reserved.ensures.len, ap length are);
      many_receipts = omega (arith, so_far.many_receipts, c.push_reserved-in-loop-slot.ensures.len, ap length are);
      room = (omega (arith, so_far.room.0, c.push_reserved.ensures.capacity), omega (arith, so_far.room.1, c.push_reserved-in-loop-slot.ensures.capacity));
    }

pub returns-clause-all : goal.returns-clause-all
returns-clause-all g c =
    returns_all (λ slot. slot.end) c.args.slots.items c.loop-slot.slot-iterator.rest.items c.loop-slot.returned.works.items c.loop-slot.returned.receipts.items (search rules) c.loop-slot.invariant.all
