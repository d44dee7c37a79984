-- The hops of a job, one redirect after another.
-- Used by the loop of `Worker::hops_from`.
use Rattle.std.proofs.Common.{◌≡◌, ◌≤◌, ◌++◌, ◌∷◌, [], ℕ, List, length, refl, sym, ap, ◌∙◌, subst, arith, append_assoc, append-nil, length-append}
use Rattle.gate_lock.specs.Desks.{DeskView}
use Rattle.gate_history.specs.declared.entry.Entry.{Entry}
use Rattle.robots_fetch.specs.Redirects.{most_redirects}
use Rattle.crawl_job.specs.declared.hop.Hop.{Hop}
use Rattle.page_worker.specs.declared.way_on.WayOn.TheVariants as ways
use Rattle.page_worker.specs.Outcomes.{AfterRefresh, AreHops, FollowsHops, IsFollowed, IsStopped}
use Rattle.page_worker.specs.Refreshes.{entries_of}
use Rattle.page_worker.specs.WaysOn.{AddsEntries, TellsWay}
use Rattle.page_worker.specs.World.{World}
use Rattle.page_worker.proofs.OwnEntries.{appended}

empty_front : (own : List Entry) → [] ++ own ≡ own ++ []
empty_front own = sym (append-nil own)

follows_more : (world : World) (token url mid next : List ℕ) (way : List Hop)
    (hop : Hop) (front own : List Entry) → FollowsHops world token url way mid front →
    AfterRefresh world mid (IsFollowed world token mid hop next) own →
    FollowsHops world token url (way ++ hop ∷ []) next (front ++ own)
follows_more world token url mid next [] hop front own follows after = (
  next,
  (
    own,
    (
      [],
      (
        subst (λ u. AfterRefresh world u (IsFollowed world token u hop next) own) (sym follows.0) after,
        (refl, refl),
        ap (λ (ds : List Entry). ds ++ own) follows.1 ∙ empty_front own,
      ),
    ),
  ),
)
follows_more world token url mid next (one ∷ way) hop front own follows after =
    let first = follows.1.0 in
    let rest = follows.1.1.0 in (
      follows.0,
      (
        first,
        (
          rest ++ own,
          (
            follows.1.1.1.0,
            follows_more world token follows.0 mid next way hop rest own follows.1.1.1.1 after,
            ap (λ (ds : List Entry). ds ++ own) follows.1.1.1.2 ∙ append_assoc first rest own,
          ),
        ),
      ),
    )

-- a desk has followed redirects, at most five
pub record HasCome
    (world : World) (token url : List ℕ) (way : List Hop) (end : List ℕ)
    (old now : DeskView)
    : Type 0 where
  pub own : List Entry
  pub adds : entries_of now.marks ≡ entries_of old.marks ++ own
  pub follows : FollowsHops world token url way end own
  pub few : length way ≤ most_redirects

pub come_on : (world : World) (token url mid next : List ℕ) (way all : List Hop)
    (hop : Hop) (followed : ℕ) (old now new : DeskView) → followed ≡ length way → all ≡ way ++ hop ∷ [] →
    HasCome world token url way mid old now →
    AddsEntries (AfterRefresh world mid (TellsWay world token mid followed (ways.Leads hop next))) now new →
    HasCome world token url all next old new
come_on world token url mid next way all hop followed old now new count is come added =
    let after : AfterRefresh world mid (IsFollowed world token mid hop next) added.own =
    record { before = added.tells.before; behind = added.tells.behind; may_refresh = added.tells.may_refresh; tells = added.tells.tells.0; own_is = added.tells.own_is } in
    subst (λ (hs : List Hop). HasCome world token url hs next old new) (sym is) (record {
      own = come.own ++ added.own;
      adds = appended (entries_of old.marks) (entries_of now.marks) (entries_of new.marks) come.own added.own come.adds added.adds;
      follows = follows_more world token url mid next way hop come.own added.own come.follows after;
      few = omega (arith, length-append way (hop ∷ []), added.tells.tells.1, count);
    })

pub come_to_stop : (world : World) (token url mid : List ℕ) (way more all : List Hop)
    (hop stop : Hop) (body : List ℕ) (followed : ℕ) (old now new : DeskView) → followed ≡ length way →
    more ≡ way ++ hop ∷ [] → all ≡ more ++ stop ∷ [] → body ≡ [] → HasCome world token url way mid old now →
    AddsEntries (AfterRefresh world mid (TellsWay world token mid followed (ways.Stops hop stop))) now new →
    AddsEntries (AreHops world token url all body) old new
come_to_stop world token url mid way more all hop stop body followed old now new count one other empty come added =
    let behind : AddsEntries (AfterRefresh world mid (TellsWay world token mid (length way) (ways.Stops hop stop))) now new =
    subst (λ n. AddsEntries (AfterRefresh world mid (TellsWay world token mid n (ways.Stops hop stop))) now new) count added in
    let ends : AfterRefresh world mid (IsStopped world token mid (length way) hop stop body) behind.own =
    subst (λ (octets : List ℕ). AfterRefresh world mid (IsStopped world token mid (length way) hop stop octets) behind.own) (sym empty) behind.tells in
    record {
      own = come.own ++ behind.own;
      adds = appended (entries_of old.marks) (entries_of now.marks) (entries_of new.marks) come.own behind.own come.adds behind.adds;
      tells = record {
        way = way;
        last = hop ∷ (stop ∷ []);
        end = mid;
        front = come.own;
        back = behind.own;
        are_all = other ∙ ap (λ (hs : List Hop). hs ++ stop ∷ []) one ∙ append_assoc way (hop ∷ []) (stop ∷ []);
        are_few = come.few;
        follows = come.follows;
        ends = ends;
        own_is = refl;
      };
    }
