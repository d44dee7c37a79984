-- Each entry is of an authority that is known.
use Rattle.std.proofs.Common.{subst, sym, ◌∙◌}
use Rattle.authority_cache.specs.Sites.{IsApart, Known}
use Rattle.authority_cache.proofs.SweepLaws.{apart_from}
use Rattle.authority_cache.proofs.SiteLaws.{known_many}
use Rattle.authority_cache.proofs.cache.Cache.known_count.Goals as goal

pub returns-clause-apart : goal.returns-clause-apart
returns-clause-apart c =
    subst (λ (k : Known). IsApart k) c.self.view_is (apart_from c.self.inside.sites.entries c.len.ensures.unique)

pub returns-clause-value : goal.returns-clause-value
returns-clause-value c = rw (← c.self.view_is) (c.len.ensures.len ∙ sym (known_many c.self.inside.limit c.self.inside.sites.entries c.self.invariant.known))
