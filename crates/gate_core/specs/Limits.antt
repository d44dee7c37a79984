-- A book's limits, which the code's constants equal.
-- RFC 9309, section 2.4, leaves them to the crawler.
use Rattle.std.specs.Prelude.{ℕ, ◌≤◌}
use Rattle.permit_book.specs.Numbers.{last_generation, most_slots}
use Rattle.gate_core.specs.declared.config.Limits.{Limits}

-- the most entries of a history
abbrev pub most_entries : ℕ
most_entries = 1000000

-- the most authorities known at a time
abbrev pub most_authorities : ℕ
most_authorities = 65536

-- the most outstanding permits of an authority
abbrev pub most_places : ℕ
most_places = 65536

-- the greatest count of entries: that of 64 bits
abbrev pub greatest_number : ℕ
greatest_number = 18446744073709551615

-- the default limits
abbrev pub usual_limits : Limits
usual_limits =
    record { slots = 1024; first_generation = 1; log_limit = 1000000; authority_limit = 65536; places = 65536 }

-- each limit is within its bounds
pub record AreLimits (limits : Limits) : Type 0 where
  pub some_slot : 1 ≤ limits.slots
  pub slots : limits.slots ≤ most_slots
  pub first : 1 ≤ limits.first_generation
  pub last : limits.first_generation ≤ last_generation
  pub some_entry : 1 ≤ limits.log_limit
  pub entries : limits.log_limit ≤ most_entries
  pub some_authority : 1 ≤ limits.authority_limit
  pub authorities : limits.authority_limit ≤ most_authorities
  pub some_place : 1 ≤ limits.places
  pub places : limits.places ≤ most_places
