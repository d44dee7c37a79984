-- What a book keeps beside its history, and how it agrees with that.
-- The invariant of `book.rt`.
use Rattle.std.specs.Prelude.{◌≡◌, ℕ, ◌+◌, ◌≤◌, Bool, true, ◌&&◌, nat_le, nat_lt, List, length, vec_capacity}
use Rattle.std.specs.List.{list_all}
use Rattle.authority_cache.specs.Lists.{TellsCache}
use Rattle.permit_book.specs.Numbers.{last_generation}
use Rattle.permit_book.specs.Outstanding.{TellsPermits}
use Rattle.permit_book.specs.Table.{held_count}
use Rattle.gate_history.specs.History.{begins, from, now, started_count}
use Rattle.gate_history.specs.Legal.{AllRise, IsLegal}
use Rattle.gate_history.specs.declared.base.SlotGrant.{SlotGrant}
use Rattle.gate_history.specs.Outstanding.{grants, greatest_in, running, unspent}
use Rattle.gate_history.specs.Standing.{in_flight, standing}
use Rattle.gate_core.specs.declared.book.Book.TheInside.{Inside}
use Rattle.gate_core.specs.declared.config.Limits.{Limits}
use Rattle.gate_core.specs.Gate.{Gate, history, most_room, promised}
use Rattle.gate_core.specs.Limits.{AreLimits, greatest_number}
use Rattle.gate_core.specs.TurnNames.{HasNames, names_by}
use Rattle.gate_core.specs.PlaceCounts.{held_by}

-- the book as callers see it
abbrev pub gate_of : Inside → Gate
gate_of b = record { limits = b.limits; base = b.base; entries = b.entries.items }

-- the grant has a slot within the limits and a possible generation
abbrev pub is_grant_of : Limits → SlotGrant → Bool
is_grant_of limits grant =
    nat_lt grant.slot limits.slots && (nat_lt 0 grant.generation && nat_le grant.generation last_generation)

-- the invariant of every book
pub record IsKept (b : Inside) : Type 0 where
  pub limits : AreLimits b.limits
  pub legal : IsLegal (history (gate_of b))
  pub rises : AllRise (from b.base) b.entries.items
  pub clock : b.clock ≡ now (history (gate_of b))
  pub begins : b.begins ≡ begins (history (gate_of b))
  pub few_begins : b.begins ≤ b.base.entries + length b.entries.items
  pub starts : b.starts ≡ started_count (history (gate_of b))
  pub sealed : b.base.entries ≤ greatest_number
  pub cache : TellsCache b.cache (standing (history (gate_of b))) (in_flight (history (gate_of b)))
  pub authorities : b.cache.limit ≡ b.limits.authority_limit
  pub permits : TellsPermits b.permits (unspent (history (gate_of b))) (running (history (gate_of b)))
      (greatest_in (history (gate_of b)))
  pub grants : list_all (is_grant_of b.limits) (grants (history (gate_of b))) ≡ true
  pub slots : length b.permits.slots ≡ b.limits.slots
  pub first : b.permits.first_generation ≡ b.limits.first_generation
  pub names : HasNames (names_by b.names) (in_flight (history (gate_of b)))
  pub places : (authority : List ℕ) → held_by b.places authority ≡ held_count b.permits authority
  pub logged : length b.entries.items + promised (history (gate_of b)) ≤ most_room b.limits b.base
  pub entry_room : length b.entries.items + promised (history (gate_of b)) ≤ vec_capacity b.entries
