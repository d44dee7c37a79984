-- The entry that is found is what is known.
use Rattle.std.proofs.Common.{refl, sym}
use Rattle.authority_cache.proofs.SiteLaws.{state-none, state-some}
use Rattle.authority_cache.proofs.cache.Cache.has_turn.Goals as goal

pub returns-in-Some : goal.returns-in-Some
returns-in-Some c =
    rw (← c.self.view_is, state-some c.self.inside.limit c.args.authority.now c.self.inside.sites.entries c.in-Some.site.now (sym c.in-Some.ensures.value))
    c.has_turn.ensures

pub returns-in-None : goal.returns-in-None
returns-in-None c =
    rw (← c.self.view_is, state-none c.self.inside.limit c.args.authority.now c.self.inside.sites.entries (sym c.in-None.ensures.value)) refl
