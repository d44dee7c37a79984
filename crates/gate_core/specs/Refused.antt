-- The gate's refusal for the cache's.
-- Used by the conversion in `refusal.rt`.
use Rattle.authority_cache.specs.declared.refusal.FlightRefusal.{FlightRefusal}
use Rattle.authority_cache.specs.declared.refusal.FlightRefusal.TheVariants as cache
use Rattle.gate_core.specs.declared.refusal.BeginRefusal.{BeginRefusal}
use Rattle.gate_core.specs.declared.refusal.BeginRefusal.TheVariants as begin

-- the refusal of the same name
abbrev pub begin_refusal : FlightRefusal → BeginRefusal
begin_refusal cache.InFlight = begin.InFlight
begin_refusal cache.AuthoritiesFull = begin.AuthoritiesFull
begin_refusal cache.NoMemory = begin.NoMemory
