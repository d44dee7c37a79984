-- Each seat's worker has run, and its slot says how it ended.
-- Used by `Pool::run`.
use Rattle.std.proofs.Common.{◌∙◌, Some, ap, length, sym}
use Rattle.std.specs.Prelude.{map}
use Rattle.std.proofs.lemmas.Result.{IfErr-weaker, IfOk-weaker}
use Rattle.worker_pool.proofs.Ending.{all_end, all_ended, all_ready, fails_first, returns_each}
use Rattle.worker_pool.proofs.pool.Pool.run.Goals as goal

pub run_all-requires-after_bounds : goal.run_all-requires-after_bounds
run_all-requires-after_bounds g c κs within =
    all_ready _ (λ slot. slot.seat) c.args.self c.seat_all.new.slots.items c.deref_mut.result.now (c.seat_all.ensures.seats ∙ ap (map Some) c.self.view_is)
    c.deref_mut.ensures.value c.requires

pub take_all-requires-clause-ended : goal.take_all-requires-clause-ended
take_all-requires-clause-ended g c =
    all_end _ (λ slot. slot.end) c.args.self _
    (all_ended _ (λ slot. slot.end) (λ slot. slot.seat) c.args.self c.seat_all.new.slots.items c.deref_mut.result.now c.run_all.new.slots _ _
    (c.seat_all.ensures.seats ∙ ap (map Some) c.self.view_is) c.deref_mut.ensures.value c.run_all.auto.slots
    (sym c.deref_mut.ensures.len ∙ ap length c.deref_mut.ensures.value) (λ i d within. c.run_all.ensures i d within))

pub returns-clause-all : goal.returns-clause-all
returns-clause-all g c =
    IfOk-weaker c.take_all.result _ _
    (λ all. returns_each _ (λ slot. slot.end) c.args.self _ all.works.items all.receipts.items
    (all_ended _ (λ slot. slot.end) (λ slot. slot.seat) c.args.self c.seat_all.new.slots.items c.deref_mut.result.now c.run_all.new.slots _ _
    (c.seat_all.ensures.seats ∙ ap (map Some) c.self.view_is) c.deref_mut.ensures.value c.run_all.auto.slots
    (sym c.deref_mut.ensures.len ∙ ap length c.deref_mut.ensures.value) (λ i d within. c.run_all.ensures i d within))) c.take_all.ensures.all

pub returns-clause-fault : goal.returns-clause-fault
returns-clause-fault g c =
    IfErr-weaker c.take_all.result _ _
    (λ fault. fails_first _ (λ slot. slot.end) c.args.self _ fault
    (all_ended _ (λ slot. slot.end) (λ slot. slot.seat) c.args.self c.seat_all.new.slots.items c.deref_mut.result.now c.run_all.new.slots _ _
    (c.seat_all.ensures.seats ∙ ap (map Some) c.self.view_is) c.deref_mut.ensures.value c.run_all.auto.slots
    (sym c.deref_mut.ensures.len ∙ ap length c.deref_mut.ensures.value) (λ i d within. c.run_all.ensures i d within))) c.take_all.ensures.fault
