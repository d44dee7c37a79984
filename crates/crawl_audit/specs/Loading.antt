-- Loading what a base left open into the open_state, one by one.
-- RFC 9309, sections 2.3.1 and 2.4.
use Rattle.std.specs.Prelude.{◌≡◌, ℕ, true, false, List}
use Rattle.authority_cache.specs.declared.site.Flight.{Flight}
use Rattle.authority_cache.specs.Calls.{Changes}
use Rattle.authority_cache.specs.Lives.{Timed}
use Rattle.authority_cache.specs.Sites.{Known, arrived, is_flying, site_of, with_flight}
use Rattle.gate_history.specs.declared.base.Numbers.{Numbers as Counts}
use Rattle.gate_history.specs.declared.base.SlotGrant.{SlotGrant}
use Rattle.crawl_audit.specs.declared.open_state.OpenState.{OpenState}
use Rattle.crawl_audit.specs.declared.numbers.PermitNumbers.{PermitNumbers}
use Rattle.crawl_audit.specs.Tables.{KeepsLast, lasts_of}

-- these numbers, with grants that must rise from now on
abbrev pub risen : PermitNumbers → PermitNumbers
risen numbers = record numbers { rising = true }

-- this open_state with the numbers of a base
abbrev pub counted_from : OpenState → Counts → OpenState
counted_from open_state numbers = record open_state {
  clock = numbers.moment;
  begins = numbers.begins;
  entries = numbers.entries;
  started = numbers.started;
  numbers = risen open_state.numbers;
}

-- this open_state with another cache
abbrev pub with_cache : OpenState → Known → OpenState
with_cache open_state cache = record open_state { cache = cache }

-- this open_state with other numbers of permits
abbrev pub with_numbers : OpenState → PermitNumbers → OpenState
with_numbers open_state numbers = record open_state { numbers = numbers }

-- a turn that began at this moment
abbrev pub flight_of : ℕ → ℕ → Flight
flight_of turn begun = record { turn = turn; begun = begun }

-- the authority now has its only turn in flight
pub record LoadsTurn (old : OpenState) (authority : List ℕ) (turn begun : ℕ) (new : OpenState) : Type 0 where
  pub rest : new ≡ with_cache old new.cache
  pub idle : is_flying (site_of old.cache authority) ≡ false
  pub began : Changes old.cache authority (with_flight (flight_of turn begun) (site_of old.cache authority)) new.cache

-- the turn began, and its answer arrived
pub record LoadsAnswer (old : OpenState) (authority : List ℕ) (turn begun : ℕ) (answer : Timed)
    (new : OpenState) : Type 0 where
  pub between : OpenState
  pub turned : LoadsTurn old authority turn begun between
  pub rest : new ≡ with_cache between new.cache
  pub came : Changes between.cache authority
      (arrived turn answer.says answer.life (site_of between.cache authority)) new.cache

-- the greatest generation of a slot is now this one
pub record Sets (old : PermitNumbers) (grant : SlotGrant) (new : PermitNumbers) : Type 0 where
  pub lasts : KeepsLast (lasts_of old) grant.slot grant.generation (lasts_of new)
  pub out : new.out ≡ old.out
  pub granted : new.granted ≡ old.granted
  pub rising : new.rising ≡ old.rising
