use Rattle.std.proofs.Common.{◌≡◌, ℕ, ◌<◌, ◌≤◌, length, String, Global, Some}
use Rattle.std.specs.Prelude.{slice_get}
use Rattle.authority_cache.specs.declared.site.Site.{Site}
use Rattle.authority_cache.specs.Ends.{CoversAt}
use Rattle.authority_cache.specs.Sites.{said_site}
use Rattle.authority_cache.proofs.begin.renew.Given as goal

abbrev pub invariant-loop-index : goal.invariant-loop-index
invariant-loop-index l =
    ((i : ℕ) (e : String Global × Site) → i < l.index → slice_get l.sites.entries i ≡ Some e → CoversAt l.ends i (said_site e.1))
    × (length l.ends.ends ≤ l.index) × (l.initial.ends.room ≤ l.ends.room)
