-- Where a job continues after a hop, and the hop's entries.
-- RFC 9309, sections 2.2 and 2.3.1; RFC 9110, section 15.4.
use Rattle.std.specs.Prelude.{◌≡◌, ◌<◌, ◌++◌, [], ℕ, List, Result, Ok}
use Rattle.gate_core.specs.declared.refusal.AskRefusal.{AskRefusal}
use Rattle.gate_core.specs.declared.refusal.AskRefusal.TheVariants as asks
use Rattle.gate_history.specs.declared.outcome.Reason.{Reason}
use Rattle.gate_lock.specs.Desks.{DeskView}
use Rattle.gate_history.specs.declared.entry.Entry.{Entry}
use Rattle.http_wire.specs.declared.fault.WireFault.{WireFault}
use Rattle.http_wire.specs.declared.response.HttpReply.{HttpReply}
use Rattle.robots_fetch.specs.declared.redirect.Stop.{Stop}
use Rattle.path_normal.specs.declared.schemes.Schemes.{Schemes}
use Rattle.robots_fetch.specs.Redirects.{most_redirects, redirect_target}
use Rattle.crawl_job.specs.declared.hop.Hop.{Hop}
use Rattle.crawl_job.specs.declared.hop.Hop.TheVariants as hops
use Rattle.crawl_job.specs.declared.hop.Refusal.TheVariants as refusals
use Rattle.page_worker.specs.declared.way_on.WayOn.{WayOn}
use Rattle.page_worker.specs.declared.way_on.WayOn.TheVariants as ways
use Rattle.page_worker.specs.Outcomes.{IsFollowed, IsLastHop, IsRedirect, IsStop, IsStopped, body_given, hop_of, location_given}
use Rattle.page_worker.specs.Refreshes.{entries_of}
use Rattle.page_worker.specs.World.{World}

-- a desk made some entries meanwhile, with this property
pub record AddsEntries (Tells : List Entry → Type 0) (old new : DeskView) : Type 0 where
  pub own : List Entry
  pub adds : entries_of new.marks ≡ entries_of old.marks ++ own
  pub tells : Tells own

-- the hop of an ask without permit
abbrev pub ask_hop : AskRefusal → Hop
ask_hop (asks.Denied denial) = hops.No denial
ask_hop asks.LogFull = hops.Err refusals.LogFull
ask_hop asks.Busy = hops.Err refusals.Busy
ask_hop asks.PermitsFull = hops.Err refusals.PermitsFull
ask_hop asks.NoMemory = hops.Err refusals.NoMemory

-- a redirect with its target or why it has none, after this many followed
abbrev pub LeadsOn : ℕ → Result (List ℕ) Stop → Hop → WayOn → Type 0
LeadsOn followed target page (ways.Ends hop body) = ⊥
LeadsOn followed target page (ways.Leads hop next) = (hop ≡ page) × (target ≡ Ok next)
LeadsOn followed target page (ways.Stops hop stop) = (hop ≡ page) × IsStop followed target stop

-- what follows a fetch, for these schemes: nothing without a redirect, else its target
abbrev pub GoesOn : Schemes → ℕ → Reason → ℕ → List ℕ → Result HttpReply WireFault → WayOn → Type 0
GoesOn schemes number reason followed url given (ways.Ends hop body) =
    (hop ≡ hop_of number reason given) × (IsRedirect given → ⊥) × (body.items ≡ body_given given)
GoesOn schemes number reason followed url given (ways.Leads hop next) =
    IsRedirect given
    × LeadsOn followed (redirect_target schemes followed url (location_given given)) (hop_of number reason given)
    (ways.Leads hop next)
GoesOn schemes number reason followed url given (ways.Stops hop stop) =
    IsRedirect given
    × LeadsOn followed (redirect_target schemes followed url (location_given given)) (hop_of number reason given)
    (ways.Stops hop stop)

-- the entries of a hop, after a refresh of its authority
abbrev pub TellsWay :
    World → List ℕ → List ℕ → ℕ → WayOn → List Entry → Type 0
TellsWay world token url followed (ways.Ends hop body) own = IsLastHop world token url hop body.items own
TellsWay world token url followed (ways.Leads hop next) own =
    IsFollowed world token url hop next own × (followed < most_redirects)
TellsWay world token url followed (ways.Stops hop stop) own = IsStopped world token url followed hop stop [] own
