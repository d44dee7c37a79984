-- The entry that is found is what is known.
use Rattle.std.proofs.Common.{ap, refl, sym}
use Rattle.std.specs.Option.{option_map}
use Rattle.authority_cache.specs.Sites.{said_cached}
use Rattle.authority_cache.proofs.SiteLaws.{state-none, state-some}
use Rattle.authority_cache.proofs.cache.Cache.standing.Goals as goal

pub returns-in-Some : goal.returns-in-Some
returns-in-Some c =
    rw (← c.self.view_is, state-some c.self.inside.limit c.args.authority.now c.self.inside.sites.entries c.in-Some.site.now (sym c.in-Some.ensures.value))
    (ap (option_map said_cached) c.as_ref.ensures.value)

pub returns-in-None : goal.returns-in-None
returns-in-None c =
    rw (← c.self.view_is, state-none c.self.inside.limit c.args.authority.now c.self.inside.sites.entries (sym c.in-None.ensures.value)) refl
