-- How many connections are accepted, and why one was not, by the numbers of accept(2) of Linux.
-- Used by `AcceptFault`, and of the program's words.
use Rattle.std.specs.Prelude.{ℕ, ◌≤◌, ℤ, pos, int_lt, unsigned_abs, List, [], ◌∷◌, Option, Some, None, if◌then◌else◌, ◌==◌, nat_lt, ◌*◌}
use Rattle.client_connections.specs.declared.accept_fault.AcceptFault.{AcceptFault}
use Rattle.client_connections.specs.declared.accept_fault.AcceptFault.TheVariants.{Client, Want, Device}
use Rattle.client_connections.specs.declared.connections.Connections.{Connections}
use Rattle.client_connections.specs.declared.connections.Connections.TheVariants.{AtMost, Endless}

-- the most connections counted before a server ends
abbrev pub max_connections : ℕ
max_connections = 4096

-- a server may take this many connections
abbrev pub AreServed : Connections → Type 0
AreServed (AtMost connections) = (1 ≤ connections) × (connections ≤ max_connections)
AreServed Endless = Unit {0}

-- the failing accepts in a row that make the device fail
abbrev pub max_accept_faults : ℕ
max_accept_faults = 900

-- the wait for descriptors and memory before the next try, in milliseconds
abbrev pub want_milliseconds : ℕ
want_milliseconds = 200

-- the numbers that are not the listener's fault: a connection that failed before, or that a firewall forbids; no
-- memory; no descriptor of the system or the process
abbrev pub passing_faults : List (ℕ × AcceptFault)
passing_faults = (1, Client) ∷ (12, Want) ∷ (23, Want) ∷ (24, Want) ∷ (64, Client) ∷ (71, Client) ∷ (92, Client)
    ∷ (95, Client) ∷ (100, Client) ∷ (101, Client) ∷ (103, Client) ∷ (105, Want) ∷ (110, Client) ∷ (112, Client)
    ∷ (113, Client) ∷ []

-- the fault of a number, by these rows
abbrev pub fault_in : List (ℕ × AcceptFault) → ℕ → AcceptFault
fault_in [] number = Device
fault_in (row ∷ rows) number = if number == row.0 then row.1 else fault_in rows number

-- the fault of a system error, by its number if any
abbrev pub fault_of : Option ℤ → AcceptFault
fault_of None = Device
fault_of (Some number) = if int_lt number (pos 0) then Device else fault_in passing_faults (unsigned_abs number)

-- the wait before the next try in nanoseconds, after this many faults in a row
abbrev pub wait_after : AcceptFault → ℕ → Option ℕ
wait_after Device faults = None
wait_after Client faults = if nat_lt faults max_accept_faults then Some 0 else None
wait_after Want faults = if nat_lt faults max_accept_faults then Some (want_milliseconds * 1_000_000) else None
