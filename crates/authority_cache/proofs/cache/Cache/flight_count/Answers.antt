-- No authority is there twice.
use Rattle.std.proofs.Common.{subst}
use Rattle.authority_cache.specs.Sites.{IsApart, Known}
use Rattle.authority_cache.proofs.SweepLaws.{apart_from}
use Rattle.authority_cache.proofs.cache.Cache.flight_count.Goals as goal

pub returns-clause-apart : goal.returns-clause-apart
returns-clause-apart c =
    subst (λ (k : Known). IsApart k) c.self.view_is (apart_from c.self.inside.sites.entries c.len.ensures.unique)
