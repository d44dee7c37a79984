-- The tables make a base that agrees with the history.
use Rattle.std.proofs.Common.{refl}
use Rattle.crawl_audit.proofs.RecoveredBases.{fits_base, fits_slots, made_says}
use Rattle.crawl_audit.proofs.open_state.OpenState.base.Goals as goal

pub of-requires-clause-base : goal.of-requires-clause-base
of-requires-clause-base c =
    let known = c.requires in
    fits_base c.args.self.now c.in_ok-left_open.field-0 _ c.in_ok-left_open.ensures refl refl refl refl known.0 known.1.0 known.1.1

pub of-requires-clause-grants : goal.of-requires-clause-grants
of-requires-clause-grants c =
    let known = c.requires in
    fits_slots c.args.self.now c.in_ok-left_open.field-0 (record {
      begins = c.args.self.now.begins;
      moment = c.args.self.now.clock;
      entries = c.args.self.now.entries;
      started = c.args.self.now.started;
    }) c.in_ok-left_open.ensures refl refl refl refl known.0 known.1.1

pub returns-clause-says : goal.returns-clause-says
returns-clause-says c = made_says c.args.self.now c.in_ok-left_open.field-0 _ c.in_ok-left_open.ensures refl refl refl refl c.of.result c.of.ensures.same
