-- The cache's invariant: each site is known, and found by its name; its count of turns is that
-- of the sites; each answer's end is kept, with room for the turns in flight.
-- Used in `cache.rt`.
use Rattle.std.specs.Prelude.{◌≡◌, ℕ, true, List, Some, map, slice_get, string_bytes}
use Rattle.std.specs.List.{list_all}
use Rattle.std.specs.declared.string.String.{String}
use Rattle.authority_cache.specs.declared.cache.Cache.TheInside.{Inside}
use Rattle.authority_cache.specs.declared.site.Site.{Site}
use Rattle.authority_cache.specs.Ends.{Covers, HasRoomForEnds, KeptEnds}
use Rattle.authority_cache.specs.Sites.{Known, State, flight_count, is_known, said_site}

-- an entry of the map, as known
abbrev pub said_entry : {Y : Type 0} → String Y × Site → List ℕ × State
said_entry e = (string_bytes e.0, said_site e.1)

-- the map's entries, as known
abbrev pub said_entries : {Y : Type 0} → List (String Y × Site) → List (List ℕ × State)
said_entries entries = map said_entry entries

-- what entries of the map show, with a limit
abbrev pub known_in : {Y : Type 0} → ℕ → List (String Y × Site) → Known
known_in limit entries = record { limit = limit; sites = said_entries entries }

-- the text by which the map finds a site is the site's name
abbrev pub IsNamed : {Y : Type 0} → String Y × Site → Type 0
IsNamed e = e.1.name ≡ string_bytes e.0

-- each site is found by its name
abbrev pub AreNamed : {Y : Type 0} → List (String Y × Site) → Type 0
AreNamed {Y = Y} entries = (i : ℕ) (e : String Y × Site) → slice_get entries i ≡ Some e → IsNamed e

-- each site is known, and found by its name
pub record AllKnown {Y : Type 0} (entries : List (String Y × Site)) : Type 0 where
  pub known : list_all (λ e. is_known (said_site e.1)) entries ≡ true
  pub named : AreNamed entries

-- the cache as its callers see it
abbrev pub known_of : Inside → Known
known_of c = known_in c.limit c.sites.entries

-- all sites are known, each answer's end is kept, and there is room for the turns in flight
pub record IsTended {Y : Type 0} (ends : KeptEnds) (entries : List (String Y × Site)) : Type 0 where
  pub known : AllKnown entries
  pub covered : Covers ends entries
  pub room : HasRoomForEnds ends (flight_count (known_in 0 entries))

-- the invariant of every cache
pub record IsSound (c : Inside) : Type 0 where
  pub known : AllKnown c.sites.entries
  pub flights : c.flights ≡ flight_count (known_of c)
  pub covered : Covers c.ends c.sites.entries
  pub room : HasRoomForEnds c.ends c.flights
