-- A server's numbers for its connections, and how it ends.
-- The contracts of `count_of` and of `Server::run`.
use Rattle.std.specs.Prelude.{◌≡◌, ◌<◌, ◌≤◌, ◌++◌, ◌∷◌, [], ℕ, Bool, true, false, List, Ok, set}
use Rattle.client_connections.specs.Accepts.{max_connections}
use Rattle.client_connections.specs.declared.connections.Connections.{Connections}
use Rattle.client_connections.specs.declared.connections.Connections.TheVariants.{AtMost, Endless}
use Rattle.gate_marks.specs.Marks.{Receipt}
use Rattle.gate_settlement.specs.Settling.{IsWholeUnlessSealed, SettlesSome}
use Rattle.gate_lock.specs.Resting.{Totals}
use Rattle.job_line.specs.Covers.{SeatView, jobs_of}
use Rattle.job_line.specs.Limits.{max_workers}

-- a number for each connection, if possible; an endless server has one for each worker
abbrev pub AreNumbered : Connections → ℕ → Type 0
AreNumbered (AtMost count) numbers = count ≤ max_connections → numbers ≡ count
AreNumbered Endless numbers = numbers ≡ max_workers

-- a seat drew a number of its line, or found the end of it
abbrev pub Draws : SeatView → SeatView → Bool → Type 0
Draws seat seat2 true = (n : ℕ) × ((n < jobs_of seat) × (seat2 ≡ record seat { drawn = seat.drawn ++ n ∷ [] }))
Draws seat seat2 false = seat2 ≡ record seat { ended = set seat.ended 0 true }

-- these receipts settled a gate to these totals, and are a whole history if nothing was handed out
abbrev pub IsServed : List Receipt → Totals → Type 0
IsServed receipts settled = SettlesSome receipts (Ok settled) × IsWholeUnlessSealed receipts settled

-- these end the list of receipts
abbrev pub HasLast : Receipt → List Receipt → Type 0
HasLast past receipts = (others : List Receipt) × (receipts ≡ others ++ past ∷ [])
