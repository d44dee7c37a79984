-- The outcome of a job: fetches in sequence, each with its own permit, and how the hops end.
-- RFC 9309, sections 2.2 and 2.3.1; RFC 9110, section 15.4.
use Rattle.std.specs.Prelude.{◌≡◌, ◌<◌, ◌≤◌, ◌⊎◌, ◌++◌, ◌∷◌, [], ℕ, suc, List, Option, None, Result, Ok, Err, length, string_bytes}
use Rattle.std.specs.Option.{option_map}
use Rattle.path_normal.specs.PageText.{authority_of}
use Rattle.robots_verdict.specs.declared.said.Said.{Said}
use Rattle.gate_history.specs.declared.outcome.Cause.{Cause}
use Rattle.gate_history.specs.declared.outcome.Reason.{Reason}
use Rattle.gate_lock.specs.Desks.{DeskView}
use Rattle.gate_history.specs.declared.entry.Entry.{Entry}
use Rattle.gate_history.specs.declared.entry.Entry.TheVariants as entries
use Rattle.http_wire.specs.declared.fault.WireFault.{WireFault}
use Rattle.http_wire.specs.declared.response.HttpReply.{HttpReply}
use Rattle.robots_fetch.specs.declared.redirect.Stop.{Stop}
use Rattle.robots_fetch.specs.Redirects.{location_target, most_redirects, redirect_target}
use Rattle.robots_fetch.specs.Statuses.{class_of}
use Rattle.robots_fetch.specs.declared.status.StatusClass.TheVariants as classes
use Rattle.crawl_job.specs.declared.hop.Hop.{Hop}
use Rattle.crawl_job.specs.declared.hop.Hop.TheVariants as hops
use Rattle.crawl_job.specs.declared.hop.Refusal.TheVariants as refusals
use Rattle.crawl_job.specs.declared.job.Job.{Job}
use Rattle.crawl_job.specs.declared.job.Outcome.{Outcome}
use Rattle.fetchers.specs.Limits.{robots_limit}
use Rattle.page_worker.specs.Refreshes.{BeganStale, IsBrought, entries_of}
use Rattle.page_worker.specs.World.{IsSinceRead, World}

-- the hop of a fetch, by permit and result
abbrev pub hop_of : ℕ → Reason → Result HttpReply WireFault → Hop
hop_of number reason (Ok reply) = hops.Page number reason reply.status (length reply.body.items) reply.cut
hop_of number reason (Err fault) = hops.Fault number fault

-- the body that was given
abbrev pub body_given : Result HttpReply WireFault → List ℕ
body_given (Ok reply) = reply.body.items
body_given (Err fault) = []

-- the Location that was given
abbrev pub location_given : Result HttpReply WireFault → Option (List ℕ)
location_given (Ok reply) = option_map string_bytes reply.location
location_given (Err fault) = None

-- the reply has the status of a redirect
abbrev pub IsRedirect : Result HttpReply WireFault → Type 0
IsRedirect (Ok reply) = class_of reply.status ≡ classes.Redirect
IsRedirect (Err fault) = ⊥

-- a turn of the authority began when one was due, and brought an answer decided by fetches
pub record IsTurn
    (world : World) (authority : List ℕ) (own : List Entry)
    : Type 0 where
  pub begun : ℕ
  pub turn : ℕ
  pub arrived : ℕ
  pub says : Said
  pub life : ℕ
  pub since_begun : IsSinceRead world begun
  pub since_arrived : IsSinceRead world arrived
  pub stale : BeganStale world.closed_for authority begun turn
  pub brings : IsBrought world.schemes (world.gives robots_limit) authority says life
  pub own_is : own ≡ entries.Begun begun authority turn ∷ entries.Arrived life arrived authority turn says ∷ []

-- at most one such turn
abbrev pub MayRefresh : World → List ℕ → List Entry → Type 0
MayRefresh world authority own = (own ≡ []) ⊎ IsTurn world authority own

-- a hop after at most one turn of its authority
pub record AfterRefresh
    (world : World) (url : List ℕ) (Tells : List Entry → Type 0) (own : List Entry)
    : Type 0 where
  pub before : List Entry
  pub behind : List Entry
  pub may_refresh : MayRefresh world (authority_of url) before
  pub tells : Tells behind
  pub own_is : own ≡ before ++ behind

-- one fetch of a page: its own permit is granted for this token and URL, started and finished, and the hop has the
-- result
pub record IsFetch
    (world : World) (token url : List ℕ) (hop : Hop)
    (given : Result HttpReply WireFault) (own : List Entry)
    : Type 0 where
  pub number : ℕ
  pub reason : Reason
  pub granted : ℕ
  pub started : ℕ
  pub since_granted : IsSinceRead world granted
  pub since_started : IsSinceRead world started
  pub is_given : world.gives world.page_limit url given
  pub own_is :
      own ≡ entries.Granted granted number (record { token = token; url = url })
      ∷ entries.Started started number reason ∷ entries.Finished number ∷ []
  pub tells : hop ≡ hop_of number reason given

-- the denial of an ask for this token and URL
pub record IsAskDenied (world : World) (token url : List ℕ) (cause : Cause) (own : List Entry) : Type 0 where
  pub denied : ℕ
  pub since_denied : IsSinceRead world denied
  pub own_is : own ≡ entries.AskDenied denied (record { token = token; url = url }) cause ∷ []

-- the denied start of a permit that was granted for them
pub record IsStartDenied (world : World) (token url : List ℕ) (cause : Cause) (own : List Entry) : Type 0 where
  pub number : ℕ
  pub granted : ℕ
  pub denied : ℕ
  pub since_granted : IsSinceRead world granted
  pub since_denied : IsSinceRead world denied
  pub own_is :
      own ≡ entries.Granted granted number (record { token = token; url = url })
      ∷ entries.StartDenied denied number cause ∷ []

-- a fetch that gave no redirect, so no hop follows
pub record IsLastFetch
    (world : World) (token url : List ℕ) (hop : Hop) (body : List ℕ)
    (own : List Entry)
    : Type 0 where
  pub given : Result HttpReply WireFault
  pub fetch : IsFetch world token url hop given own
  pub ends : IsRedirect given → ⊥
  pub body_is : body ≡ body_given given

-- a fetch whose redirect leads to a hop at another URL
pub record IsFollowed
    (world : World) (token url : List ℕ) (hop : Hop) (next : List ℕ)
    (own : List Entry)
    : Type 0 where
  pub given : Result HttpReply WireFault
  pub fetch : IsFetch world token url hop given own
  pub redirects : IsRedirect given
  pub leads : location_target world.schemes url (location_given given) ≡ Ok next

-- why a redirect is not followed, after this many: no target, or no memory for it
abbrev pub IsStop : ℕ → Result (List ℕ) Stop → Hop → Type 0
IsStop followed target (hops.Stop stop) = target ≡ Err stop
IsStop followed target (hops.Err refusals.NoMemory) = followed < most_redirects
IsStop followed target _ = ⊥

-- a fetch, and why its redirect is not followed
pub record IsStopped
    (world : World) (token url : List ℕ) (followed : ℕ) (hop stop : Hop)
    (body : List ℕ) (own : List Entry)
    : Type 0 where
  pub given : Result HttpReply WireFault
  pub fetch : IsFetch world token url hop given own
  pub redirects : IsRedirect given
  pub stops : IsStop followed (redirect_target world.schemes followed url (location_given given)) stop
  pub body_is : body ≡ []

-- a single last hop: a fetch without redirect, a denial or a refusal
abbrev pub IsLastHop :
    World → List ℕ → List ℕ → Hop → List ℕ → List Entry → Type 0
IsLastHop world token url (hops.Page number reason status size cut) body own =
    IsLastFetch world token url (hops.Page number reason status size cut) body own
IsLastHop world token url (hops.Fault number fault) body own =
    IsLastFetch world token url (hops.Fault number fault) body own
IsLastHop world token url (hops.No denial) body own =
    (denial.url ≡ url) × (IsAskDenied world token url denial.cause own ⊎ IsStartDenied world token url denial.cause own)
    × (body ≡ [])
IsLastHop world token url (hops.Err refusal) body own = (own ≡ []) × (body ≡ [])
IsLastHop world token url (hops.Stop stop) body own = ⊥

-- the last hops at a URL after this many redirects: a single one, or a redirect and why it is not followed
abbrev pub IsEnd :
    World → List ℕ → List ℕ → ℕ → List Hop → List ℕ → List Entry → Type 0
IsEnd world token url followed [] body own = ⊥
IsEnd world token url followed (hop ∷ []) body own = AfterRefresh world url (IsLastHop world token url hop body) own
IsEnd world token url followed (hop ∷ (stop ∷ [])) body own =
    AfterRefresh world url (IsStopped world token url followed hop stop body) own
IsEnd world token url followed (hop ∷ (stop ∷ (other ∷ later))) body own = ⊥

-- the hops are redirects from one URL to the other, each followed by the next
abbrev pub FollowsHops :
    World → List ℕ → List ℕ → List Hop → List ℕ → List Entry → Type 0
FollowsHops world token url [] end own = (url ≡ end) × (own ≡ [])
FollowsHops world token url (hop ∷ later) end own =
    (next : List ℕ) × ((first : List Entry) × ((rest : List Entry) ×
    (AfterRefresh world url (IsFollowed world token url hop next) first
    × FollowsHops world token next later end rest × (own ≡ first ++ rest))))

-- hops and a body for a token and URL: at most five followed redirects, and their end
pub record AreHops
    (world : World) (token url : List ℕ) (all : List Hop) (body : List ℕ)
    (own : List Entry)
    : Type 0 where
  pub way : List Hop
  pub last : List Hop
  pub end : List ℕ
  pub front : List Entry
  pub back : List Entry
  pub are_all : all ≡ way ++ last
  pub are_few : length way ≤ most_redirects
  pub follows : FollowsHops world token url way end front
  pub ends : IsEnd world token end (length way) last body back
  pub own_is : own ≡ front ++ back

-- an outcome tells what a desk did for its job
abbrev pub IsOutcome : World → Job → Outcome → List Entry → Type 0
IsOutcome world job outcome own = AreHops world job.token job.url outcome.hops.items outcome.body.items own

-- a desk worked on a job: its marks meanwhile are the outcome's
abbrev pub Works : World → Job → Outcome → DeskView → DeskView → Type 0
Works world job outcome old new =
    (own : List Entry) × ((entries_of new.marks ≡ entries_of old.marks ++ own) × IsOutcome world job outcome own)

-- how many hops are fetches of a page, failed or not
abbrev pub fetches_in : List Hop → ℕ
fetches_in [] = 0
fetches_in (hops.Page number reason status size cut ∷ later) = suc (fetches_in later)
fetches_in (hops.Fault number fault ∷ later) = suc (fetches_in later)
fetches_in (_ ∷ later) = fetches_in later
