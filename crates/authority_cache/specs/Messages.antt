-- The texts of refusals.
-- Printed by `Display` of `refusal.rt`.
use Rattle.std.specs.Prelude.{ℕ, List, codes}
use Rattle.authority_cache.specs.declared.refusal.FlightRefusal.{FlightRefusal}
use Rattle.authority_cache.specs.declared.refusal.FlightRefusal.TheVariants.{InFlight, AuthoritiesFull, NoMemory}

-- a refused begin's text
abbrev pub flight_refusal_text : FlightRefusal → List ℕ
flight_refusal_text InFlight = codes "a turn of the authority is in flight"
flight_refusal_text AuthoritiesFull = codes "too many authorities are known"
flight_refusal_text NoMemory = codes "no memory for the authority"
