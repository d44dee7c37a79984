-- Each noted grant is one more earlier one.
-- By the lemmas of `ResumedBook`.
use Rattle.std.proofs.Common.{get_or, refl, take}
use Rattle.gate_history.specs.declared.base.SlotGrant.{SlotGrant}
use Rattle.gate_core.proofs.ResumedBook.{behind_empty, behind_more, behind_none, each_fits}
use Rattle.gate_core.proofs.resume.table_behind.Goals as goal

abbrev none : SlotGrant
none = record { slot = 0; generation = 0 }

pub loop-place-init : goal.loop-place-init
loop-place-init c = behind_none c.args.limits c.in_ok-permits.permits c.requires.limits c.in_ok-permits.ensures.slots c.in_ok-permits.ensures.first

pub note_grant-requires-clause-idle : goal.note_grant-requires-clause-idle
note_grant-requires-clause-idle c =
    behind_empty c.args.limits (take c.loop-place.place c.args.grants.now) c.loop-place.permits (get_or c.args.grants.now c.loop-place.place none).slot c.loop-place.invariant

pub loop-place-preserved : goal.loop-place-preserved
loop-place-preserved c =
    let gs = c.args.grants.now in
    let i = c.loop-place.place in
    behind_more c.args.limits gs i (get_or gs i none) none c.loop-place.permits c.note_grant.new.self c.loop-place.invariant c.loop-place-test.true refl
    (each_fits c.args.limits gs i none c.requires.fit c.loop-place-test.true) c.note_grant.ensures
