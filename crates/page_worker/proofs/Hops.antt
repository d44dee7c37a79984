-- The entries of one hop, from those of the desk's steps.
-- Used by the answers of `Worker`.
use Rattle.std.proofs.Common.{◌≡◌, ◌<◌, ◌++◌, ◌∷◌, [], ℕ, Bool, true, false, List, Result, Ok, Err, Option, refl, sym, ap, subst, arith, inl, inr, append-nil, nat_lt}
use Rattle.std.specs.Prelude.{if◌then◌else◌}
use Rattle.std.proofs.lemmas.Bool.{ltb-true}
use Rattle.path_normal.specs.PageText.{authority_of}
use Rattle.gate_history.specs.declared.entry.Entry.TheVariants as entries
use Rattle.gate_history.specs.declared.outcome.Reason.{Reason}
use Rattle.gate_core.specs.declared.refusal.AskRefusal.{AskRefusal}
use Rattle.gate_core.specs.declared.refusal.AskRefusal.TheVariants as asks
use Rattle.gate_core.specs.declared.refusal.Denial.{Denial}
use Rattle.gate_core.specs.declared.state.Standing.{Standing}
use Rattle.gate_core.specs.Gate.{Gate}
use Rattle.gate_core.specs.Replies.{moment_at}
use Rattle.gate_lock.specs.Desks.{DeskView, Errand, Pass, Run}
use Rattle.gate_lock.specs.Steps.{DeskAsks, DeskFinishes, DeskStarts, Somewhere}
use Rattle.gate_history.specs.declared.entry.Entry.{Entry}
use Rattle.http_wire.specs.declared.fault.WireFault.{WireFault}
use Rattle.http_wire.specs.declared.response.HttpReply.{HttpReply}
use Rattle.robots_fetch.specs.declared.redirect.Stop.{Stop}
use Rattle.robots_fetch.specs.declared.redirect.Stop.TheVariants as stops
use Rattle.path_normal.specs.declared.schemes.Schemes.{Schemes}
use Rattle.robots_fetch.specs.Redirects.{location_target, most_redirects, redirect_target}
use Rattle.crawl_job.specs.declared.hop.Hop.{Hop}
use Rattle.crawl_job.specs.declared.hop.Hop.TheVariants as hops
use Rattle.crawl_job.specs.declared.hop.Refusal.{Refusal}
use Rattle.page_worker.specs.declared.way_on.WayOn.{WayOn}
use Rattle.page_worker.specs.declared.way_on.WayOn.TheVariants as ways
use Rattle.page_worker.specs.Outcomes.{AfterRefresh, IsFetch, IsLastHop, IsRedirect, IsTurn, MayRefresh, body_given, hop_of, location_given}
use Rattle.fetchers.specs.Limits.{robots_limit}
use Rattle.page_worker.specs.Refreshes.{BeginsStale, Brings, IsBrought, entries_of}
use Rattle.page_worker.specs.WaysOn.{AddsEntries, GoesOn, TellsWay, ask_hop}
use Rattle.page_worker.specs.World.{IsSinceRead, World}
use Rattle.page_worker.proofs.OwnEntries.{appended, looked, made}

pub since : (world : World) (g : Gate) (m : ℕ) → world.reads m → IsSinceRead world (moment_at g m)
since world g m reads = (m, (reads, omega arith))

pub answer_brought : (world : World) (authority : List ℕ) (turn : Errand) (word : Standing) (old mid new : DeskView) →
    BeginsStale world authority turn old mid → Brings world turn word mid new → AddsEntries (IsTurn world authority) old new
answer_brought world authority turn word old mid new begins brings =
    let h = brings.arrives.0 in
    let other = made mid h _ new brings.arrives.1.1.1.1 in
    let its_authority : turn.authority ≡ authority = ap (λ (t : Errand). t.authority) begins.turn_is in
    let P : List ℕ → Type 0 = λ name. IsBrought world.schemes (world.gives robots_limit) name brings.answer.says brings.answer.life in
    let brought = subst P its_authority brings.brings in
    record {
      own = entries.Begun begins.begun authority turn.turn
          ∷ entries.Arrived brings.answer.life (moment_at h brings.arrived) authority turn.turn brings.answer.says ∷ [];
      adds = appended (entries_of old.marks) (entries_of mid.marks) (entries_of new.marks) _
          (entries.Arrived brings.answer.life (moment_at h brings.arrived) authority turn.turn brings.answer.says ∷ []) begins.adds
          (subst (λ name. entries_of new.marks ≡ entries_of mid.marks ++ entries.Arrived brings.answer.life (moment_at h brings.arrived) name turn.turn brings.answer.says ∷ [])
          its_authority other);
      tells = record {
        begun = begins.begun;
        turn = turn.turn;
        arrived = moment_at h brings.arrived;
        says = brings.answer.says;
        life = brings.answer.life;
        since_begun = begins.since_begun;
        since_arrived = since world h brings.arrived brings.read_arrived;
        stale = begins.stale;
        brings = brought;
        own_is = refl;
      };
    }

pub refreshed : (world : World) (authority : List ℕ) (turn : Errand) (word : Standing) (old mid new : DeskView) →
    BeginsStale world authority turn old mid → Brings world turn word mid new → AddsEntries (MayRefresh world authority) old new
refreshed world authority turn word old mid new begins brings =
    let brought = answer_brought world authority turn word old mid new begins brings in
    record { own = brought.own; adds = brought.adds; tells = inr brought.tells }

pub behind_refresh : (world : World) (url : List ℕ) (Tells : List Entry → Type 0)
    (old mid new : DeskView) → AddsEntries (MayRefresh world (authority_of url)) old mid → AddsEntries Tells mid new →
    AddsEntries (AfterRefresh world url Tells) old new
behind_refresh world url Tells old mid new before behind = record {
  own = before.own ++ behind.own;
  adds = appended (entries_of old.marks) (entries_of mid.marks) (entries_of new.marks) before.own behind.own before.adds behind.adds;
  tells = record { before = before.own; behind = behind.own; may_refresh = before.tells; tells = behind.tells; own_is = refl };
}

pub refused : (world : World) (token url : List ℕ) (refusal : Refusal)
    (body : List ℕ) (desk : DeskView) → body ≡ [] → AddsEntries (IsLastHop world token url (hops.Err refusal) body) desk desk
refused world token url refusal body desk empty =
    record { own = []; adds = sym (append-nil (entries_of desk.marks)); tells = (refl, empty) }

pub ask_refused : (world : World) (token url : List ℕ) (m : ℕ)
    (refusal : AskRefusal) (body : List ℕ) (old new : DeskView) → world.reads m → body ≡ [] →
    Somewhere old (λ g g2. DeskAsks old g token url m (Err refusal) g2 new) →
    AddsEntries (IsLastHop world token url (ask_hop refusal) body) old new
ask_refused world token url m (asks.Denied denial) body old new reads empty step = record {
  own = entries.AskDenied (moment_at step.0 m) (record { token = token; url = url }) denial.cause ∷ [];
  adds = made old step.0 (entries.AskDenied (moment_at step.0 m) (record { token = token; url = url }) denial.cause) new step.1.1.1.1;
  tells = (
    step.1.1.1.0.1,
    inl (record { denied = moment_at step.0 m; since_denied = since world step.0 m reads; own_is = refl }),
    empty,
  );
}
ask_refused world token url m asks.LogFull body old new reads empty step =
    record { own = []; adds = looked old step.0 new step.1.1.1.1; tells = (refl, empty) }
ask_refused world token url m asks.Busy body old new reads empty step =
    record { own = []; adds = looked old step.0 new step.1.1.1.1; tells = (refl, empty) }
ask_refused world token url m asks.PermitsFull body old new reads empty step =
    record { own = []; adds = looked old step.0 new step.1.1.1.1; tells = (refl, empty) }
ask_refused world token url m asks.NoMemory body old new reads empty step =
    record { own = []; adds = looked old step.0 new step.1.1.1.1; tells = (refl, empty) }

pub ask_granted : (world : World) (token url : List ℕ) (m followed : ℕ)
    (permit : Pass) (way : WayOn) (old mid new : DeskView) →
    world.reads m → Somewhere old (λ g g2. DeskAsks old g token url m (Ok permit) g2 mid) →
    AddsEntries (λ (own : List Entry). (granted : ℕ) → IsSinceRead world granted → TellsWay world permit.token permit.url followed way
    (entries.Granted granted permit.number (record { token = permit.token; url = permit.url }) ∷ own)) mid new →
    AddsEntries (TellsWay world token url followed way) old new
ask_granted world token url m followed permit way old mid new reads step behind =
    let g = step.0 in
    let P : Pass → Type 0 = λ p. TellsWay world p.token p.url followed way
    (entries.Granted (moment_at g m) permit.number (record { token = p.token; url = p.url }) ∷ behind.own) in
    record {
      own = entries.Granted (moment_at g m) permit.number (record { token = token; url = url }) ∷ behind.own;
      adds = appended (entries_of old.marks) (entries_of mid.marks) (entries_of new.marks)
          (entries.Granted (moment_at g m) permit.number (record { token = token; url = url }) ∷ []) behind.own
          (made old g (entries.Granted (moment_at g m) permit.number (record { token = token; url = url })) mid step.1.1.1.2)
          behind.adds;
      tells = subst P step.1.1.1.1 (behind.tells (moment_at g m) (since world g m reads));
    }

pub start_denied : (world : World) (permit : Pass) (m followed : ℕ)
    (denial : Denial) (body : List ℕ) (old new : DeskView) → world.reads m → body ≡ [] →
    Somewhere old (λ g g2. DeskStarts old g permit m (Err denial) g2 new) →
    AddsEntries (λ (own : List Entry). (granted : ℕ) → IsSinceRead world granted → IsLastHop world permit.token permit.url (hops.No denial) body
    (entries.Granted granted permit.number (record { token = permit.token; url = permit.url }) ∷ own)) old new
start_denied world permit m followed denial body old new reads empty step = record {
  own = entries.StartDenied (moment_at step.0 m) permit.number denial.cause ∷ [];
  adds = made old step.0 (entries.StartDenied (moment_at step.0 m) permit.number denial.cause) new step.1.1.1.2;
  tells = λ granted since_granted. (
    step.1.1.1.1.0,
    inr (record {
      number = permit.number;
      granted = granted;
      denied = moment_at step.0 m;
      since_granted = since_granted;
      since_denied = since world step.0 m reads;
      own_is = refl;
    }),
    empty,
  );
}

not_both : (stop : Stop) (next : List ℕ) → Err stop ≡ Ok next → ⊥
not_both stop next is = cc

target_if : (few : Bool) (target : Result (List ℕ) Stop) (next : List ℕ) →
    (if few then target else Err stops.TooManyRedirects) ≡ Ok next → (few ≡ true) × (target ≡ Ok next)
target_if true target next is = (refl, is)
target_if false target next is = absurd (not_both stops.TooManyRedirects next is)

pub led : (schemes : Schemes) (followed : ℕ) (url : List ℕ) (location : Option (List ℕ)) (next : List ℕ) →
    redirect_target schemes followed url location ≡ Ok next → (followed < most_redirects) × (location_target schemes url location ≡ Ok next)
led schemes followed url location next is =
    let both = target_if (nat_lt followed most_redirects) (location_target schemes url location) next is in
    (ltb-true followed most_redirects both.0, both.1)

last_fetch : (world : World) (token url : List ℕ) (number : ℕ) (reason : Reason)
    (given : Result HttpReply WireFault) (body : List ℕ) (own : List Entry) →
    IsFetch world token url (hop_of number reason given) given own → (IsRedirect given → ⊥) → body ≡ body_given given →
    IsLastHop world token url (hop_of number reason given) body own
last_fetch world token url number reason (Ok reply) body own fetch ends is =
    record { given = Ok reply; fetch = fetch; ends = ends; body_is = is }
last_fetch world token url number reason (Err fault) body own fetch ends is =
    record { given = Err fault; fetch = fetch; ends = ends; body_is = is }

pub fetch_tells : (world : World) (token url : List ℕ) (number : ℕ)
    (reason : Reason) (granted started followed : ℕ) (given : Result HttpReply WireFault) (way : WayOn) →
    IsSinceRead world granted → IsSinceRead world started → world.gives world.page_limit url given →
    GoesOn world.schemes number reason followed url given way →
    TellsWay world token url followed way
    (entries.Granted granted number (record { token = token; url = url }) ∷ entries.Started started number reason
    ∷ entries.Finished number ∷ [])
fetch_tells world token url number reason granted started followed given (ways.Ends hop body) since_granted since_started is goes =
    let own : List Entry = entries.Granted granted number (record { token = token; url = url }) ∷ entries.Started started number reason
    ∷ entries.Finished number ∷ [] in
    subst (λ (h : Hop). IsLastHop world token url h body.items own) (sym goes.0)
    (last_fetch world token url number reason given body.items own
    (record { number = number; reason = reason; granted = granted; started = started; since_granted = since_granted; since_started = since_started; is_given = is; own_is = refl; tells = refl })
    goes.1 goes.2)
fetch_tells world token url number reason granted started followed given (ways.Leads hop next) since_granted since_started is goes =
    let on = led world.schemes followed url (location_given given) next goes.1.1 in (
      record {
        given = given;
        fetch = record { number = number; reason = reason; granted = granted; started = started; since_granted = since_granted; since_started = since_started; is_given = is; own_is = refl; tells = goes.1.0 };
        redirects = goes.0;
        leads = on.1;
      },
      on.0,
    )
fetch_tells world token url number reason granted started followed given (ways.Stops hop stop) since_granted since_started is goes = record {
  given = given;
  fetch = record { number = number; reason = reason; granted = granted; started = started; since_granted = since_granted; since_started = since_started; is_given = is; own_is = refl; tells = goes.1.0 };
  redirects = goes.0;
  stops = goes.1.1;
  body_is = refl;
}

pub fetched_once : (world : World) (permit : Pass) (m followed : ℕ) (run : Run)
    (given : Result HttpReply WireFault) (way : WayOn) (old mid new : DeskView) →
    world.reads m → Somewhere old (λ g g2. DeskStarts old g permit m (Ok run) g2 mid) →
    world.gives world.page_limit permit.url given →
    GoesOn world.schemes permit.number run.reason followed permit.url given way →
    Somewhere mid (λ g g2. DeskFinishes mid g permit.number g2 new) →
    AddsEntries (λ (own : List Entry). (granted : ℕ) → IsSinceRead world granted → TellsWay world permit.token permit.url followed way
    (entries.Granted granted permit.number (record { token = permit.token; url = permit.url }) ∷ own)) old new
fetched_once world permit m followed run given way old mid new reads starts is goes finishes = record {
  own = entries.Started (moment_at starts.0 m) permit.number run.reason ∷ entries.Finished permit.number ∷ [];
  adds = appended (entries_of old.marks) (entries_of mid.marks) (entries_of new.marks)
      (entries.Started (moment_at starts.0 m) permit.number run.reason ∷ []) (entries.Finished permit.number ∷ [])
      (made old starts.0 (entries.Started (moment_at starts.0 m) permit.number run.reason) mid starts.1.1.1.3)
      (made mid finishes.0 (entries.Finished permit.number) new finishes.1.1.1.1);
  tells = λ granted since_granted. fetch_tells world permit.token permit.url permit.number run.reason granted (moment_at starts.0 m) followed given way
      since_granted (since world starts.0 m reads) is goes;
}
