-- What the tables refuse, as replies of the gate.
-- Used by `Book::grant` and `Book::begin`.
use Rattle.std.proofs.Common.{◌≡◌, ◌<◌, ◌≤◌, ℕ, false, List, sym, ap, ◌∙◌, subst, arith}
use Rattle.std.specs.Prelude.{◌&&◌, nat_le, not, IsErr, IsErrAnd, Result, Ok, Err}
use Rattle.std.proofs.lemmas.Bool.{true≢false}
use Rattle.authority_cache.specs.declared.refusal.FlightRefusal.{FlightRefusal}
use Rattle.authority_cache.specs.declared.refusal.FlightRefusal.TheVariants as cache
use Rattle.authority_cache.specs.declared.site.Flight.{Flight}
use Rattle.authority_cache.specs.Calls.{Begins as CacheBegins, cannot_know as CacheCannot}
use Rattle.authority_cache.specs.declared.refusal.Stale.{Stale}
use Rattle.authority_cache.specs.Sites.{has_turn, IsApart, Known, site_of}
use Rattle.authority_cache.specs.Lives.{Timed}
use Rattle.authority_cache.proofs.CallerLemmas as cache_laws
use Rattle.gate_history.specs.Cause.{Decides}
use Rattle.gate_history.specs.Standing.{has_turn as standing_turn, in_flight, is_fetching, standing}
use Rattle.gate_history.specs.History.{now}
use Rattle.gate_history.specs.declared.entry.Entry.TheVariants.{Granted}
use Rattle.gate_history.specs.declared.outcome.Reason.{Reason}
use Rattle.gate_history.specs.Legal.{MayFollow}
use Rattle.path_normal.specs.PageText.{authority_of}
use Rattle.permit_book.specs.declared.out.Fetch.{Fetch}
use Rattle.permit_book.specs.Next.{IsNext}
use Rattle.gate_core.specs.declared.book.Book.TheInside.{Inside}
use Rattle.gate_core.specs.declared.refusal.AskRefusal.{AskRefusal}
use Rattle.gate_core.specs.declared.refusal.AskRefusal.TheVariants as ask
use Rattle.gate_core.specs.Gate.{Gate, history}
use Rattle.gate_core.specs.Kept.{gate_of, IsKept}
use Rattle.gate_core.specs.Opened.{Grants, OpensTurn, RefusesGrant}
use Rattle.gate_core.specs.Refused.{begin_refusal}
use Rattle.gate_core.specs.PlaceCounts.{held_by}
use Rattle.gate_core.specs.Replies.{Arrives, cannot_know, HasPlace, IsBusy, NoneFree}
use Rattle.gate_core.proofs.Keeping.{held_many, next_new, none_free_is, told}

pub same_err : {A E : Type 0} (r : Result A E) (x : E) → IsErr r → IsErrAnd r (λ y. y ≡ x) → r ≡ Err x
same_err (Ok n) x is and = absurd (true≢false (sym is))
same_err (Err y) x is and = ap Err and

pub has_place : (b : Inside) → IsKept b → (g : Gate) → gate_of b ≡ g → (url : List ℕ) → held_by b.places (authority_of url) < b.limits.places → HasPlace g url
has_place b kept g is url few = let many = held_many b kept (authority_of url) in subst (λ (g : Gate). HasPlace g url) is (omega (arith, few, many))

pub refuses_grant : (b : Inside) → IsKept b → (g : Gate) → gate_of b ≡ g → (token url : List ℕ) (moment : ℕ) (x : AskRefusal) →
    RefusesGrant b.permits (held_by b.places (authority_of url)) b.limits.places x → Grants g token url moment (Err x) (gate_of b)
refuses_grant b kept g is token url moment ask.PermitsFull none = (has_place b kept g is url none.0, subst NoneFree is (none_free_is b kept b.entries none.1), is)
refuses_grant b kept g is token url moment ask.NoMemory none = is
refuses_grant b kept g is token url moment ask.LogFull none = absurd none
refuses_grant b kept g is token url moment ask.Busy none =
    let many = held_many b kept (authority_of url) in (subst (λ (g : Gate). IsBusy g url) is (omega (arith, none, many)), is)
refuses_grant b kept g is token url moment (ask.Denied d) none = absurd none

pub grant_fits : (b : Inside) → IsKept b → (g : Gate) → gate_of b ≡ g → (moment number : ℕ) (fetch : Fetch) → now (history g) ≤ moment →
    ((reason : Reason) × Decides (history g) fetch.token fetch.url moment (Ok reason)) → IsNext b.permits number → MayFollow (told b) (Granted moment number fetch)
grant_fits b kept g is moment number fetch late decided next = (
  subst (λ (g : Gate). now (history g) ≤ moment) (sym is) late,
  next_new b kept b.entries number next,
  subst (λ (g : Gate). (reason : Reason) × Decides (history g) fetch.token fetch.url moment (Ok reason)) (sym is) decided,
)

pub cache_same : (old : Known) (authority : List ℕ) (flight : Flight) (x : FlightRefusal) (new : Known) → CacheBegins old authority flight (Err x) new → new ≡ old
cache_same old authority flight cache.InFlight new is = is.1
cache_same old authority flight cache.AuthoritiesFull new is = is.2
cache_same old authority flight cache.NoMemory new is = is.2

pub cannot_is : (b : Inside) → IsKept b → IsApart b.cache → (authority : List ℕ) → CacheCannot b.cache authority ≡ cannot_know (gate_of b) authority
cannot_is b kept apart authority =
    let read = cache_laws.reads_alike b.cache (standing (told b)) (in_flight (told b)) kept.cache in
    let count = cache_laws.counts_alike b.cache (standing (told b)) (in_flight (told b)) kept.cache apart in
    λ i. not (read.known authority i) && nat_le (kept.authorities i) (count.known i)

pub opens_refused : (b : Inside) → IsKept b → (g : Gate) → gate_of b ≡ g → IsApart b.cache → (authority : List ℕ) (moment turn : ℕ) (x : FlightRefusal) (new : Known) →
    is_fetching (history g) authority ≡ false → CacheBegins b.cache authority (record { turn = turn; begun = moment }) (Err x) new → OpensTurn g authority moment (Err (begin_refusal x)) (gate_of b)
opens_refused b kept g is apart authority moment turn cache.InFlight new idle refused =
    let flying = (cache_laws.reads_alike b.cache (standing (told b)) (in_flight (told b)) kept.cache).flying authority in
    absurd (true≢false (sym refused.0 ∙ flying ∙ ap (λ (g : Gate). is_fetching (history g) authority) is ∙ idle))
opens_refused b kept g is apart authority moment turn cache.AuthoritiesFull new idle refused =
    (ap (λ (g : Gate). cannot_know g authority) (sym is) ∙ sym (cannot_is b kept apart authority) ∙ refused.1, is)
opens_refused b kept g is apart authority moment turn cache.NoMemory new idle refused = is

pub may_open : (b : Inside) → IsKept b → (g : Gate) → gate_of b ≡ g → IsApart b.cache → (authority : List ℕ) → CacheCannot b.cache authority ≡ false → cannot_know g authority ≡ false
may_open b kept g is apart authority may = ap (λ (g : Gate). cannot_know g authority) (sym is) ∙ sym (cannot_is b kept apart authority) ∙ may

pub arrives_refused : (b : Inside) → IsKept b → (g : Gate) → gate_of b ≡ g → (authority : List ℕ) (turn : ℕ) (answer : Timed) (moment : ℕ) (r : Result Unit Stale) → IsErr r →
    has_turn turn (site_of b.cache authority) ≡ false → Arrives g authority turn answer moment r (gate_of b)
arrives_refused b kept g is authority turn answer moment (Ok done) err none = absurd (true≢false (sym err))
arrives_refused b kept g is authority turn answer moment (Err stale) err none = (
  subst (λ (g : Gate). standing_turn (history g) authority turn ≡ false) is
      (sym ((cache_laws.reads_alike b.cache (standing (told b)) (in_flight (told b)) kept.cache).turns authority turn) ∙ none),
  is,
)
