-- What the sites lose, the authorities lose.
use Rattle.std.proofs.Common.{subst, sym, refl, ◌∙◌}
use Rattle.authority_cache.specs.Calls.{Sweeps}
use Rattle.authority_cache.specs.Kept.{known_in}
use Rattle.authority_cache.specs.Ends.{HasRoomForEnds}
use Rattle.authority_cache.specs.Sites.{IsApart, Known, is_flying}
use Rattle.authority_cache.proofs.SweepLaws.{apart_from}
use Rattle.authority_cache.proofs.cache.Cache.sweep.Goals as goal

pub drop_past-requires-clause-tended : goal.drop_past-requires-clause-tended
drop_past-requires-clause-tended c = record {
  known = c.self.invariant.known;
  covered = c.self.invariant.covered;
  room = subst (λ n. HasRoomForEnds c.self.inside.ends n) c.self.invariant.flights c.self.invariant.room;
}

pub returns-clause-swept : goal.returns-clause-swept
returns-clause-swept c =
    let p = c.self.inside in
    subst (λ (k : Known). Sweeps k c.args.moment c.drop_past.result (known_in p.limit c.drop_past.new.sites.entries)) c.self.view_is
    (c.drop_past.ensures.swept p.limit)

pub returns-clause-apart : goal.returns-clause-apart
returns-clause-apart c = subst (λ (k : Known). IsApart k) c.self.view_is (apart_from c.self.inside.sites.entries c.len.ensures.unique)

pub invariant_of-self : goal.invariant_of-self
invariant_of-self c =
    let p = c.self.inside in
    let turns = sym ((c.drop_past.ensures.swept p.limit).counts is_flying refl) in
    record {
      known = c.drop_past.ensures.tended.known;
      flights = c.self.invariant.flights ∙ turns;
      covered = c.drop_past.ensures.tended.covered;
      room = subst (λ n. HasRoomForEnds c.drop_past.new.ends n) (sym (c.self.invariant.flights ∙ turns)) c.drop_past.ensures.tended.room;
    }
