-- The fetches of an outcome are those that its desk started.
-- Used by the laws of outcomes, and by `work`.
use Rattle.std.proofs.Common.{◌≡◌, ◌+◌, ◌++◌, ◌∷◌, [], ℕ, suc, List, Result, Ok, Err, length, refl, sym, ap, ◌∙◌, arith, inl, inr, append-nil, length-append}
use Rattle.gate_history.specs.declared.outcome.Reason.{Reason}
use Rattle.gate_lock.specs.Desks.{DeskView}
use Rattle.gate_marks.specs.Marks.{starts_in}
use Rattle.gate_history.specs.declared.entry.Entry.{Entry}
use Rattle.gate_history.specs.declared.entry.Entry.TheVariants as entries
use Rattle.gate_marks.specs.declared.mark.Mark.{Mark}
use Rattle.http_wire.specs.declared.fault.WireFault.{WireFault}
use Rattle.http_wire.specs.declared.response.HttpReply.{HttpReply}
use Rattle.robots_fetch.specs.declared.redirect.Stop.{Stop}
use Rattle.crawl_job.specs.declared.hop.Hop.{Hop}
use Rattle.crawl_job.specs.declared.hop.Hop.TheVariants as hops
use Rattle.crawl_job.specs.declared.hop.Refusal.TheVariants as refusals
use Rattle.crawl_job.specs.declared.job.Job.{Job}
use Rattle.crawl_job.specs.declared.job.Outcome.{Outcome}
use Rattle.page_worker.specs.OutcomeLaws.{FetchesAreCounted, FetchesAreStarted, numbers_fetched, numbers_started}
use Rattle.page_worker.specs.Outcomes.{AfterRefresh, AreHops, FollowsHops, IsEnd, IsFetch, IsFollowed, IsLastHop, IsStop, IsStopped, MayRefresh, Works, fetches_in, hop_of}
use Rattle.page_worker.specs.Refreshes.{entries_of}
use Rattle.page_worker.specs.World.{World}

pub started_append : (xs ys : List Entry) → numbers_started (xs ++ ys) ≡ numbers_started xs ++ numbers_started ys
started_append [] ys = refl
started_append (entries.Started moment number reason ∷ xs) ys = ap (λ (ns : List ℕ). number ∷ ns) (started_append xs ys)
started_append (entry ∷ xs) ys = started_append xs ys

fetched_append : (xs ys : List Hop) → numbers_fetched (xs ++ ys) ≡ numbers_fetched xs ++ numbers_fetched ys
fetched_append [] ys = refl
fetched_append (hops.Page number reason status size cut ∷ xs) ys = ap (λ (ns : List ℕ). number ∷ ns) (fetched_append xs ys)
fetched_append (hops.Fault number fault ∷ xs) ys = ap (λ (ns : List ℕ). number ∷ ns) (fetched_append xs ys)
fetched_append (hop ∷ xs) ys = fetched_append xs ys

both_append : (front back : List Entry) (own : List Entry) (ns ms : List ℕ) → own ≡ front ++ back →
    numbers_started front ≡ ns → numbers_started back ≡ ms → numbers_started own ≡ ns ++ ms
both_append front back own ns ms is one other =
    ap numbers_started is ∙ started_append front back ∙ ap (λ (xs : List ℕ). xs ++ numbers_started back) one ∙ ap (λ (xs : List ℕ). ns ++ xs) other

no_start : (world : World) (authority : List ℕ) (own : List Entry) →
    MayRefresh world authority own → numbers_started own ≡ []
no_start world authority own (inl is) = ap numbers_started is
no_start world authority own (inr turn) = ap numbers_started turn.own_is

after_start : (world : World) (url : List ℕ) (Tells : List Entry → Type 0)
    (own : List Entry) (ns : List ℕ) → AfterRefresh world url Tells own →
    ((behind : List Entry) → Tells behind → numbers_started behind ≡ ns) → numbers_started own ≡ ns
after_start world url Tells own ns after starts =
    both_append after.before after.behind own [] ns after.own_is
    (no_start world _ after.before after.may_refresh) (starts after.behind after.tells)

number_of_hop : (number : ℕ) (reason : Reason) (given : Result HttpReply WireFault) →
    numbers_fetched (hop_of number reason given ∷ []) ≡ number ∷ []
number_of_hop number reason (Ok reply) = refl
number_of_hop number reason (Err fault) = refl

fetch_starts : (world : World) (token url : List ℕ) (hop : Hop)
    (given : Result HttpReply WireFault) (own : List Entry) → IsFetch world token url hop given own →
    numbers_started own ≡ numbers_fetched (hop ∷ [])
fetch_starts world token url hop given own fetch =
    ap numbers_started fetch.own_is
    ∙ sym (ap (λ (h : Hop). numbers_fetched (h ∷ [])) fetch.tells ∙ number_of_hop fetch.number fetch.reason given)

-- a fetch as single last hop is started by its number
last_starts : (world : World) (token url : List ℕ) (hop : Hop) (body : List ℕ)
    (own : List Entry) → IsLastHop world token url hop body own → numbers_started own ≡ numbers_fetched (hop ∷ [])
last_starts world token url (hops.Page number reason status size cut) body own last =
    fetch_starts world token url (hops.Page number reason status size cut) last.given own last.fetch
last_starts world token url (hops.Fault number fault) body own last =
    fetch_starts world token url (hops.Fault number fault) last.given own last.fetch
last_starts world token url (hops.No denial) body own (is, inl asked, empty) = ap numbers_started asked.own_is
last_starts world token url (hops.No denial) body own (is, inr started, empty) = ap numbers_started started.own_is
last_starts world token url (hops.Err refusal) body own last = ap numbers_started last.0
last_starts world token url (hops.Stop stop) body own last = absurd last

stop_starts : (followed : ℕ) (target : Result (List ℕ) Stop) (stop : Hop) → IsStop followed target stop →
    numbers_fetched (stop ∷ []) ≡ []
stop_starts followed target (hops.Stop stop) is = refl
stop_starts followed target (hops.Err refusals.NoMemory) is = refl
stop_starts followed target (hops.Err refusal) is = absurd is
stop_starts followed target (hops.Page number reason status size cut) is = absurd is
stop_starts followed target (hops.Fault number fault) is = absurd is
stop_starts followed target (hops.No denial) is = absurd is

end_starts : (world : World) (token url : List ℕ) (followed : ℕ) (last : List Hop)
    (body : List ℕ) (own : List Entry) → IsEnd world token url followed last body own →
    numbers_started own ≡ numbers_fetched last
end_starts world token url followed [] body own end = absurd end
end_starts world token url followed (hop ∷ []) body own end =
    after_start world url (IsLastHop world token url hop body) own (numbers_fetched (hop ∷ [])) end
    (λ behind last. last_starts world token url hop body behind last)
end_starts world token url followed (hop ∷ (stop ∷ [])) body own end =
    after_start world url (IsStopped world token url followed hop stop body) own (numbers_fetched (hop ∷ (stop ∷ []))) end
    (λ behind stopped.
    fetch_starts world token url hop stopped.given behind stopped.fetch ∙ sym (append-nil (numbers_fetched (hop ∷ [])))
    ∙ ap (λ (ns : List ℕ). numbers_fetched (hop ∷ []) ++ ns) (sym (stop_starts followed _ stop stopped.stops))
    ∙ sym (fetched_append (hop ∷ []) (stop ∷ [])))
end_starts world token url followed (hop ∷ (stop ∷ (other ∷ later))) body own end = absurd end

follow_starts : (world : World) (token url end : List ℕ) (way : List Hop)
    (own : List Entry) → FollowsHops world token url way end own → numbers_started own ≡ numbers_fetched way
follow_starts world token url end [] own follows = ap numbers_started follows.1
follow_starts world token url end (hop ∷ later) own follows =
    let first = follows.1.0 in
    let rest = follows.1.1.0 in
    both_append first rest own (numbers_fetched (hop ∷ [])) (numbers_fetched later) follows.1.1.1.2
    (after_start world url (IsFollowed world token url hop follows.0) first (numbers_fetched (hop ∷ [])) follows.1.1.1.0
    (λ behind followed. fetch_starts world token url hop followed.given behind followed.fetch))
    (follow_starts world token follows.0 end later rest follows.1.1.1.1)
    ∙ sym (fetched_append (hop ∷ []) later)

hops_start : (world : World) (token url : List ℕ) (all : List Hop) (body : List ℕ)
    (own : List Entry) → AreHops world token url all body own → numbers_started own ≡ numbers_fetched all
hops_start world token url all body own are =
    both_append are.front are.back own (numbers_fetched are.way) (numbers_fetched are.last) are.own_is
    (follow_starts world token url are.end are.way are.front are.follows)
    (end_starts world token are.end (length are.way) are.last body are.back are.ends)
    ∙ sym (ap numbers_fetched are.are_all ∙ fetched_append are.way are.last)

pub outcome_starts : (world : World) → FetchesAreStarted world
outcome_starts world job outcome own is = hops_start world job.token job.url outcome.hops.items outcome.body.items own is

pub fetches_counted : FetchesAreCounted
fetches_counted [] = refl
fetches_counted (hops.Page number reason status size cut ∷ all) = ap suc (fetches_counted all)
fetches_counted (hops.Fault number fault ∷ all) = ap suc (fetches_counted all)
fetches_counted (hop ∷ all) = fetches_counted all

one_counted : (place : ℕ) (entry : Entry) (rest : List Mark) → starts_in rest ≡ length (numbers_started (entries_of rest)) →
    starts_in (record { place = place; entry = entry } ∷ rest) ≡ length (numbers_started (entry ∷ entries_of rest))
one_counted place (entries.Started moment number reason) rest is = omega (arith, is)
one_counted place entry rest is = omega (arith, is)

pub starts_counted : (ms : List Mark) → starts_in ms ≡ length (numbers_started (entries_of ms))
starts_counted [] = refl
starts_counted (m ∷ ms) = one_counted m.place m.entry ms (starts_counted ms)

pub works_starts : (world : World) (job : Job) (outcome : Outcome) (old new : DeskView) →
    Works world job outcome old new → starts_in new.marks ≡ starts_in old.marks + fetches_in outcome.hops.items
works_starts world job outcome old new works =
    let all : numbers_started (entries_of new.marks) ≡ numbers_started (entries_of old.marks) ++ numbers_fetched outcome.hops.items =
    ap numbers_started works.1.0 ∙ started_append (entries_of old.marks) works.0
    ∙ ap (λ (ns : List ℕ). numbers_started (entries_of old.marks) ++ ns) (outcome_starts world job outcome works.0 works.1.1) in
    let sum : length (numbers_started (entries_of new.marks))
    ≡ length (numbers_started (entries_of old.marks)) + length (numbers_fetched outcome.hops.items) =
    ap length all ∙ length-append (numbers_started (entries_of old.marks)) (numbers_fetched outcome.hops.items) in
    omega (arith, sum, starts_counted new.marks, starts_counted old.marks, fetches_counted outcome.hops.items)
