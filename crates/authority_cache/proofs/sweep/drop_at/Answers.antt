-- An expired answer is dropped, and then an authority of which nothing is known.
use Rattle.std.proofs.Common.{rules, false, refl, arith}
use Rattle.authority_cache.proofs.SweepLaws.{dropped, dropped_others, flights_part, removed}
use Rattle.authority_cache.proofs.sweep.drop_at.Goals as goal

pub returns-then-not-has_past_at-clause-tended : goal.returns-then-not-has_past_at-clause-tended
returns-then-not-has_past_at-clause-tended c = record {
  known = c.requires.known;
  covered = search rules;
  room = omega (arith, c.requires.room);
}

pub returns-then-drop_answer-clause-part : goal.returns-then-drop_answer-clause-part
returns-then-drop_answer-clause-part c =
    (dropped c.args.moment c.args.index c.args.sites.now.entries c.drop_answer.new.sites.entries c.args.ends.now c.if-drop_answer.ensures.unique c.requires.known
    c.requires.past.others (c.if-not-has_past_at.ensures.within refl) c.if-not-has_past_at.ensures.value c.if-drop_answer.ensures.drops).0

pub returns-then-drop_answer-clause-tended : goal.returns-then-drop_answer-clause-tended
returns-then-drop_answer-clause-tended c =
    let all = dropped c.args.moment c.args.index c.args.sites.now.entries c.drop_answer.new.sites.entries c.args.ends.now c.if-drop_answer.ensures.unique c.requires.known
    c.requires.past.others (c.if-not-has_past_at.ensures.within refl) c.if-not-has_past_at.ensures.value c.if-drop_answer.ensures.drops in
    record {
      known = all.1;
      covered = all.2;
      room = omega (arith, c.requires.room, flights_part c.args.moment 1 c.args.sites.now.entries c.drop_answer.new.sites.entries all.0);
    }

pub returns-then-drop_answer-clause-fewer : goal.returns-then-drop_answer-clause-fewer
returns-then-drop_answer-clause-fewer c =
    let all = dropped c.args.moment c.args.index c.args.sites.now.entries c.drop_answer.new.sites.entries c.args.ends.now c.if-drop_answer.ensures.unique c.requires.known
    c.requires.past.others (c.if-not-has_past_at.ensures.within refl) c.if-not-has_past_at.ensures.value c.if-drop_answer.ensures.drops in
    omega (arith, all.3)

pub remove-requires-clause-within : goal.remove-requires-clause-within
remove-requires-clause-within c =
    (dropped_others c.args.index false c.args.sites.now.entries c.drop_answer.new.sites.entries c.args.ends.now c.requires.past.others
    (c.if-not-has_past_at.ensures.within refl) c.if-drop_answer.ensures.drops).0

pub remove-requires-clause-others : goal.remove-requires-clause-others
remove-requires-clause-others c =
    (dropped_others c.args.index false c.args.sites.now.entries c.drop_answer.new.sites.entries c.args.ends.now c.requires.past.others
    (c.if-not-has_past_at.ensures.within refl) c.if-drop_answer.ensures.drops).1

pub returns-clause-part : goal.returns-clause-part
returns-clause-part c =
    (removed c.args.moment c.args.index c.args.sites.now.entries c.drop_answer.new.sites.entries c.remove.new.sites.entries c.if-drop_answer.ensures.unique c.requires.known
    (c.if-not-has_past_at.ensures.within refl) c.if-not-has_past_at.ensures.value c.if-drop_answer.ensures.drops c.remove.ensures.removed).0

pub returns-clause-tended : goal.returns-clause-tended
returns-clause-tended c =
    let all = removed c.args.moment c.args.index c.args.sites.now.entries c.drop_answer.new.sites.entries c.remove.new.sites.entries c.if-drop_answer.ensures.unique c.requires.known
    (c.if-not-has_past_at.ensures.within refl) c.if-not-has_past_at.ensures.value c.if-drop_answer.ensures.drops c.remove.ensures.removed in
    let turns = flights_part c.args.moment 1 c.args.sites.now.entries c.remove.new.sites.entries all.0 in
    record {
      known = all.1;
      covered = c.remove.ensures.covered;
      room = omega (arith, c.requires.room, turns, c.remove.ensures.one.many, c.remove.ensures.one.room);
    }

pub returns-clause-fewer : goal.returns-clause-fewer
returns-clause-fewer c =
    let all = removed c.args.moment c.args.index c.args.sites.now.entries c.drop_answer.new.sites.entries c.remove.new.sites.entries c.if-drop_answer.ensures.unique c.requires.known
    (c.if-not-has_past_at.ensures.within refl) c.if-not-has_past_at.ensures.value c.if-drop_answer.ensures.drops c.remove.ensures.removed in
    omega (arith, all.2, c.remove.ensures.one.many)
