-- The state of a found authority is its own.
use Rattle.std.proofs.Common.{subst}
use Rattle.authority_cache.specs.Calls.{LooksAt}
use Rattle.authority_cache.specs.Sites.{State}
use Rattle.authority_cache.proofs.FoundLaws.{state_found}
use Rattle.authority_cache.proofs.cache.Cache.look.Goals as goal

pub returns : goal.returns
returns c =
    subst (λ (s : State). LooksAt s c.args.moment c.look_at.result) (state_found c.args.self.now c.args.authority.now c.find.result c.find.ensures) c.look_at.ensures
