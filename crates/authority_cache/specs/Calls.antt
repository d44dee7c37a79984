-- What each call on the cache may answer and leave, by cases.
-- RFC 9309, sections 2.3.1 and 2.4.
use Rattle.std.specs.Prelude.{◌≡◌, ℕ, ◌+◌, Bool, true, false, not, ◌&&◌, nat_le, List, Some, None, Result, Ok, Err, IfSome, IfNone, if◌then◌else◌, option_and_then, slice_get, unwrap_or}
use Rattle.std.specs.Map.{lookup}
use Rattle.std.specs.Option.{option_map}
use Rattle.std.specs.Str.{bytes_eq}
use Rattle.robots_verdict.specs.Answer.{said}
use Rattle.authority_cache.specs.declared.find.FoundSite.{FoundSite}
use Rattle.authority_cache.specs.declared.look.Look.{Look}
use Rattle.authority_cache.specs.declared.look.Look.TheVariants.{Unknown, Expired, InForce}
use Rattle.authority_cache.specs.declared.refusal.FlightRefusal.{FlightRefusal}
use Rattle.authority_cache.specs.declared.refusal.FlightRefusal.TheVariants as refusals
use Rattle.authority_cache.specs.declared.refusal.Stale.{Stale}
use Rattle.authority_cache.specs.declared.site.Flight.{Flight}
use Rattle.authority_cache.specs.Lives.{Timed}
use Rattle.authority_cache.specs.Sites.{Known, State, arrived, count_of, has_past, has_turn, is_flying, is_known, known_count, nothing_known, past_count, site_of, swept, with_flight}

-- 1 if a test passes, else 0
abbrev pub one_if : Bool → ℕ
one_if passes = if passes then 1 else 0

-- only this authority's state changes; a count by a test that unknown authorities fail changes by this authority
-- alone
pub record Changes (old : Known) (authority : List ℕ) (state : State) (new : Known) : Type 0 where
  pub limit : new.limit ≡ old.limit
  pub sites : (other : List ℕ) → site_of new other ≡ (if bytes_eq authority other then state else site_of old other)
  pub counts : (test : State → Bool) → test nothing_known ≡ false →
      count_of test new + one_if (test (site_of old authority)) ≡ count_of test old + one_if (test state)

-- what is known of a found authority
abbrev pub state_at : Known → FoundSite → State
state_at k found = unwrap_or (option_map (λ e. e.1) (option_and_then (slice_get k.sites) found.index)) nothing_known

-- find: where the authority is, with its state and whether a turn is in flight, or nowhere
pub record IsFound (k : Known) (authority : List ℕ) (found : FoundSite) : Type 0 where
  pub some : IfSome found.index (λ i. slice_get k.sites i ≡ Some (authority, site_of k authority))
  pub none : IfNone found.index (lookup (bytes_eq authority) k.sites ≡ None)
  pub fetching : found.is_fetching ≡ is_flying (site_of k authority)

-- the authority is unknown and the cache is full
abbrev pub cannot_know : Known → List ℕ → Bool
cannot_know k authority = not (is_known (site_of k authority)) && nat_le k.limit (known_count k)

-- whether a turn may begin, else InFlight or AuthoritiesFull
abbrev pub MayBegin : Known → List ℕ → Result Unit FlightRefusal → Type 0
MayBegin k authority (Ok _) = (is_flying (site_of k authority) ≡ false) × (cannot_know k authority ≡ false)
MayBegin k authority (Err refusals.InFlight) = is_flying (site_of k authority) ≡ true
MayBegin k authority (Err refusals.AuthoritiesFull) =
    (is_flying (site_of k authority) ≡ false) × (cannot_know k authority ≡ true)
MayBegin k authority (Err refusals.NoMemory) = ⊥

-- begin: InFlight; AuthoritiesFull; else NoMemory
abbrev pub Begins : Known → List ℕ → Flight → Result Unit FlightRefusal → Known → Type 0
Begins old authority flight (Ok _) new =
    (is_flying (site_of old authority) ≡ false) × (cannot_know old authority ≡ false)
    × Changes old authority (with_flight flight (site_of old authority)) new
Begins old authority flight (Err refusals.InFlight) new = (is_flying (site_of old authority) ≡ true) × (new ≡ old)
Begins old authority flight (Err refusals.AuthoritiesFull) new =
    (is_flying (site_of old authority) ≡ false) × (cannot_know old authority ≡ true) × (new ≡ old)
Begins old authority flight (Err refusals.NoMemory) new =
    (is_flying (site_of old authority) ≡ false) × (cannot_know old authority ≡ false) × (new ≡ old)

-- arrive: Stale if that turn of the authority is not in flight
abbrev pub Arrives : Known → List ℕ → ℕ → Timed → Result Unit Stale → Known → Type 0
Arrives old authority turn answer (Ok _) new =
    (has_turn turn (site_of old authority) ≡ true)
    × Changes old authority (arrived turn answer.says answer.life (site_of old authority)) new
Arrives old authority turn answer (Err _) new = (has_turn turn (site_of old authority) ≡ false) × (new ≡ old)

-- the answer: none; older than its lifetime; or in force
abbrev pub LooksAt : State → ℕ → Look → Type 0
LooksAt state moment Unknown = state.standing ≡ None
LooksAt state moment Expired = has_past moment state ≡ true
LooksAt state moment (InForce answer) =
    (has_past moment state ≡ false) × (option_map (λ s. s.says) state.standing ≡ Some (said answer.now))

-- look: what is found of the authority's answer
abbrev pub Looks : Known → List ℕ → ℕ → Look → Type 0
Looks k authority moment found = LooksAt (site_of k authority) moment found

-- sweep: each authority loses an answer older than its lifetime, this many in all
pub record Sweeps (old : Known) (moment count : ℕ) (new : Known) : Type 0 where
  pub limit : new.limit ≡ old.limit
  pub sites : (authority : List ℕ) → site_of new authority ≡ swept moment (site_of old authority)
  pub dropped : count ≡ past_count moment old
  pub counts : (test : State → Bool) → test nothing_known ≡ false
      → count_of test new ≡ count_of (λ state. test (swept moment state)) old
