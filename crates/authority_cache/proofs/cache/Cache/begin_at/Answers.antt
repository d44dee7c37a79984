-- There are at least as many entries as turns in flight.
use Rattle.std.proofs.Common.{Ok, sym, ap, refl, subst, arith}
use Rattle.authority_cache.specs.declared.site.Flight.{Flight}
use Rattle.authority_cache.specs.Calls.{Begins, IsFound, one_if}
use Rattle.authority_cache.specs.Kept.{known_in}
use Rattle.authority_cache.specs.Sites.{Known, is_flying}
use Rattle.authority_cache.proofs.SiteLaws.{flights_bound}
use Rattle.authority_cache.proofs.cache.Cache.begin_at.Goals as goal

pub overflow_add-self : goal.overflow_add-self
overflow_add-self c = omega (arith, flights_bound c.self.inside.limit c.self.inside.sites.entries, c.in_ok-may_begin.ensures.few, c.self.invariant.flights)

pub make_room-requires-clause-room : goal.make_room-requires-clause-room
make_room-requires-clause-room c = (c.self.invariant.room, omega (arith, flights_bound c.self.inside.limit c.self.inside.sites.entries, c.self.invariant.flights))

pub invariant_of-self-2 : goal.invariant_of-self-2
invariant_of-self-2 c =
    let p = c.self.inside in
    let found = subst (λ (k : Known). IsFound k c.args.authority.now c.args.found) (sym c.self.view_is) c.requires in
    let may = c.in_ok-may_begin.ensures.may c.args.authority.now found in
    let changes = c.in_ok-open.ensures.opened p.limit in
    let was = ap one_if may.0 in
    record {
      known = c.in_ok-open.ensures.known;
      flights = omega (arith, c.self.invariant.flights, was, changes.counts is_flying refl);
      covered = c.in_ok-open.ensures.covered c.make_room.new.ends c.in_ok-make_room.ensures.covered;
      room = c.in_ok-make_room.ensures.ok;
    }

pub returns-clause-reply : goal.returns-clause-reply
returns-clause-reply c =
    let p = c.self.inside in
    let flight : Flight = record { turn = c.args.turn; begun = c.args.moment } in
    let new = known_in p.limit c.open.new.sites.entries in
    let found = subst (λ (k : Known). IsFound k c.args.authority.now c.args.found) (sym c.self.view_is) c.requires in
    let may = c.in_ok-may_begin.ensures.may c.args.authority.now found in
    let changes = c.in_ok-open.ensures.opened p.limit in
    subst (λ (k : Known). Begins k c.args.authority.now flight (Ok tt) new) c.self.view_is (may.0, may.1, changes)
