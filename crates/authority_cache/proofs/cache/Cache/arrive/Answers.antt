-- The site that was found is written, and there is room for its end.
use Rattle.std.proofs.Common.{◌≡◌, Some, Ok, false, sym, subst, arith}
use Rattle.std.specs.Prelude.{slice_get}
use Rattle.authority_cache.specs.Calls.{Arrives}
use Rattle.authority_cache.specs.Kept.{known_in, known_of}
use Rattle.authority_cache.specs.Sites.{Known, has_turn, site_of}
use Rattle.authority_cache.proofs.EndLaws.{covers_kept}
use Rattle.authority_cache.proofs.FoundLaws.{found_index}
use Rattle.authority_cache.proofs.SiteLaws.{arrived_fewer, refused}
use Rattle.authority_cache.proofs.cache.Cache.arrive.Goals as goal

pub returns-in_err-close : goal.returns-in_err-close
returns-in_err-close c =
    let p = c.self.inside in
    let t = c.text.result.now in
    let at = subst (λ (k : Known). slice_get k.sites c.in-Some.index ≡ Some (t, site_of k t)) (sym c.self.view_is) (found_index c.args.self.now t c.find.result c.in-Some.index c.find.ensures c.in-Some.is) in
    let new = known_in p.limit c.close.new.sites.entries in
    refused c.args.self.now new c.args.authority.now c.args.turn c.args.answer c.from_residual.result c.from_residual.ensures.0
    (subst (λ (k : Known). (has_turn c.args.turn (site_of k c.args.authority.now) ≡ false) × (new ≡ k)) c.self.view_is
    (subst (λ t. (has_turn c.args.turn (site_of (known_of p) t) ≡ false) × (new ≡ known_of p)) c.text.ensures.value
    (c.in_err-close.ensures.reply p.limit (t, site_of (known_of p) t) at)))

pub keep_end-requires : goal.keep_end-requires
keep_end-requires c =
    let p = c.self.inside in
    let t = c.text.result.now in
    let at = subst (λ (k : Known). slice_get k.sites c.in-Some.index ≡ Some (t, site_of k t)) (sym c.self.view_is) (found_index c.args.self.now t c.find.result c.in-Some.index c.find.ensures c.in-Some.is) in
    let r = c.in_ok-close.ensures.reply p.limit (t, site_of (known_of p) t) at in
    let fewer = arrived_fewer (known_of p) (known_in p.limit c.close.new.sites.entries) t c.args.turn c.args.answer r.0 r.1 in
    omega (arith, fewer, c.self.invariant.flights, c.self.invariant.room)

pub overflow_sub-self : goal.overflow_sub-self
overflow_sub-self c =
    let p = c.self.inside in
    let t = c.text.result.now in
    let at = subst (λ (k : Known). slice_get k.sites c.in-Some.index ≡ Some (t, site_of k t)) (sym c.self.view_is) (found_index c.args.self.now t c.find.result c.in-Some.index c.find.ensures c.in-Some.is) in
    let r = c.in_ok-close.ensures.reply p.limit (t, site_of (known_of p) t) at in
    let fewer = arrived_fewer (known_of p) (known_in p.limit c.close.new.sites.entries) t c.args.turn c.args.answer r.0 r.1 in
    omega (arith, fewer, c.self.invariant.flights)

pub invariant_of-self-2 : goal.invariant_of-self-2
invariant_of-self-2 c =
    let p = c.self.inside in
    let t = c.text.result.now in
    let at = subst (λ (k : Known). slice_get k.sites c.in-Some.index ≡ Some (t, site_of k t)) (sym c.self.view_is) (found_index c.args.self.now t c.find.result c.in-Some.index c.find.ensures c.in-Some.is) in
    let r = c.in_ok-close.ensures.reply p.limit (t, site_of (known_of p) t) at in
    let fewer = arrived_fewer (known_of p) (known_in p.limit c.close.new.sites.entries) t c.args.turn c.args.answer r.0 r.1 in
    record {
      known = c.in_ok-close.ensures.known;
      flights = omega (arith, fewer, c.self.invariant.flights);
      covered = covers_kept c.in-Some.index c.close.new.sites.entries p.ends c.keep_end.new.ends (c.in_ok-close.ensures.others p.ends c.self.invariant.covered) c.keep_end.ensures;
      room = omega (arith, fewer, c.self.invariant.flights, c.self.invariant.room, c.keep_end.ensures.many, c.keep_end.ensures.room);
    }

pub returns : goal.returns
returns c =
    let p = c.self.inside in
    let t = c.text.result.now in
    let at = subst (λ (k : Known). slice_get k.sites c.in-Some.index ≡ Some (t, site_of k t)) (sym c.self.view_is) (found_index c.args.self.now t c.find.result c.in-Some.index c.find.ensures c.in-Some.is) in
    let new = known_in p.limit c.close.new.sites.entries in
    subst (λ (k : Known). Arrives k c.args.authority.now c.args.turn c.args.answer (Ok tt) new) c.self.view_is
    (subst (λ t. Arrives (known_of p) t c.args.turn c.args.answer (Ok tt) new) c.text.ensures.value
    (c.in_ok-close.ensures.reply p.limit (t, site_of (known_of p) t) at))
