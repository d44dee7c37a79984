-- The possible replies and effects of each call, by cases on the reply. A void reply leaves the gate unchanged, and
-- so does NoMemory where the relation names it.
use Rattle.std.specs.Prelude.{◌≡◌, ℕ, ◌+◌, ◌<◌, ◌≤◌, Bool, true, false, not, ◌&&◌, nat_le, List, Result, Ok, Err, MatchBool}
use Rattle.path_normal.specs.PageText.{authority_of}
use Rattle.authority_cache.specs.declared.refusal.Stale.{Stale}
use Rattle.authority_cache.specs.Lives.{Timed}
use Rattle.permit_book.specs.declared.refusal.NotOut.{NotOut}
use Rattle.permit_book.specs.Outstanding.{IsNextBy, NoneFreeBy}
use Rattle.gate_history.specs.declared.entry.Entry.TheVariants.{Begun, Arrived, Granted, AskDenied, Started, StartDenied, Returned, Finished, Swept}
use Rattle.gate_history.specs.declared.outcome.Reason.{Reason}
use Rattle.gate_history.specs.declared.outcome.Cause.TheVariants.{Spent}
use Rattle.gate_history.specs.Cause.{Decides}
use Rattle.gate_history.specs.History.{at_moment, begins}
use Rattle.gate_history.specs.Outstanding.{greatest_in, is_running, is_unspent, running, stands, unspent}
use Rattle.gate_history.specs.Standing.{has_turn, is_fetching, is_known, known_count, past_count}
use Rattle.gate_core.specs.declared.refusal.AskRefusal.{AskRefusal}
use Rattle.gate_core.specs.declared.refusal.AskRefusal.TheVariants as ask
use Rattle.gate_core.specs.declared.refusal.BeginRefusal.{BeginRefusal}
use Rattle.gate_core.specs.declared.refusal.BeginRefusal.TheVariants as begin
use Rattle.gate_core.specs.declared.refusal.Denial.{Denial}
use Rattle.gate_core.specs.declared.refusal.Started.{Started as Start}
use Rattle.gate_core.specs.declared.refusal.SweepRefusal.{SweepRefusal}
use Rattle.gate_core.specs.declared.refusal.SweepRefusal.TheVariants as sweep
use Rattle.gate_core.specs.Gate.{Adds, Gate, HasRoom, held, history, IsFull, Stays}

-- the moment of a call of the gate
abbrev pub moment_at : Gate → ℕ → ℕ
moment_at g handed_in = at_moment (history g) handed_in

-- the authority is unknown, and the limit is reached
abbrev pub cannot_know : Gate → List ℕ → Bool
cannot_know g authority =
    not (is_known (history g) authority) && nat_le g.limits.authority_limit (known_count (history g))

-- begin: InFlight; LogFull, without room for the begin and its arrival; AuthoritiesFull
abbrev pub Begins : Gate → List ℕ → ℕ → Result ℕ BeginRefusal → Gate → Type 0
Begins old authority m (Ok turn) new =
    (is_fetching (history old) authority ≡ false) × HasRoom old 2 × (cannot_know old authority ≡ false)
    × (turn ≡ begins (history old) + 1) × Adds old (Begun (moment_at old m) authority turn) new
Begins old authority m (Err begin.InFlight) new = (is_fetching (history old) authority ≡ true) × Stays old new
Begins old authority m (Err begin.LogFull) new =
    (is_fetching (history old) authority ≡ false) × IsFull old 2 × Stays old new
Begins old authority m (Err begin.AuthoritiesFull) new =
    (is_fetching (history old) authority ≡ false) × HasRoom old 2 × (cannot_know old authority ≡ true) × Stays old new
Begins old authority m (Err begin.NoMemory) new =
    (is_fetching (history old) authority ≡ false) × HasRoom old 2 × Stays old new

-- arrive: Stale, unless that turn is in flight for the authority
abbrev pub Arrives : Gate → List ℕ → ℕ → Timed → ℕ → Result Unit Stale → Gate → Type 0
Arrives old authority turn answer m (Ok _) new =
    (has_turn (history old) authority turn ≡ true)
    × Adds old (Arrived answer.life (moment_at old m) authority turn answer.says) new
Arrives old authority turn answer m (Err _) new = (has_turn (history old) authority turn ≡ false) × Stays old new

-- the fetch is allowed at the moment of a call
abbrev pub IsAllowed : Gate → List ℕ → List ℕ → ℕ → Type 0
IsAllowed g token url m = (reason : Reason) × Decides (history g) token url (moment_at g m) (Ok reason)

-- the URL's authority has a free place
abbrev pub HasPlace : Gate → List ℕ → Type 0
HasPlace g url = held (history g) (authority_of url) < g.limits.places

-- the URL's authority has no free place
abbrev pub IsBusy : Gate → List ℕ → Type 0
IsBusy g url = g.limits.places ≤ held (history g) (authority_of url)

-- the next number of the gate
abbrev pub IsNext : Gate → ℕ → Type 0
IsNext g number = IsNextBy g.limits.slots g.limits.first_generation (unspent (history g)) (running (history g))
    (greatest_in (history g)) number

-- no slot of the gate is free
abbrev pub NoneFree : Gate → Type 0
NoneFree g = NoneFreeBy g.limits.slots (unspent (history g)) (running (history g)) (greatest_in (history g))

-- ask: LogFull, without room for the grant, its start and its end; the denial, which is an entry; Busy, if it is
-- allowed and the authority has no place; PermitsFull, if no slot is free for it
abbrev pub Asks : Gate → List ℕ → List ℕ → ℕ → Result ℕ AskRefusal → Gate → Type 0
Asks old token url m (Ok number) new =
    HasRoom old 3 × IsAllowed old token url m × HasPlace old url × IsNext old number
    × Adds old (Granted (moment_at old m) number (record { token = token; url = url })) new
Asks old token url m (Err ask.LogFull) new = IsFull old 3 × Stays old new
Asks old token url m (Err (ask.Denied d)) new =
    HasRoom old 3 × (d.url ≡ url) × Decides (history old) token url (moment_at old m) (Err d.cause)
    × Adds old (AskDenied (moment_at old m) (record { token = token; url = url }) d.cause) new
Asks old token url m (Err ask.Busy) new = HasRoom old 3 × IsAllowed old token url m × IsBusy old url × Stays old new
Asks old token url m (Err ask.PermitsFull) new =
    HasRoom old 3 × IsAllowed old token url m × HasPlace old url × NoneFree old × Stays old new
Asks old token url m (Err ask.NoMemory) new = HasRoom old 3 × Stays old new

-- start: Spent, without such a permit; else the denial, an entry that spends the permit. Neither log nor memory can
-- refuse a start
abbrev pub Starts : Gate → ℕ → List ℕ → List ℕ → ℕ → Result Start Denial → Gate → Type 0
Starts old number token url m (Ok s) new =
    (stands (history old) number token url ≡ true) × (s.number ≡ number) × (s.url ≡ url)
    × Decides (history old) token url (moment_at old m) (Ok s.reason)
    × Adds old (Started (moment_at old m) number s.reason) new
Starts old number token url m (Err d) new =
    (d.url ≡ url)
    × MatchBool (stands (history old) number token url)
    (Decides (history old) token url (moment_at old m) (Err d.cause)
    × Adds old (StartDenied (moment_at old m) number d.cause) new)
    ((d.cause ≡ Spent) × Stays old new)

-- back: NotOut, if the number has no unspent permit
abbrev pub Returns : Gate → ℕ → Result Unit NotOut → Gate → Type 0
Returns old number (Ok _) new = (is_unspent (history old) number ≡ true) × Adds old (Returned number) new
Returns old number (Err _) new = (is_unspent (history old) number ≡ false) × Stays old new

-- finish: NotOut, if the number is not running
abbrev pub Finishes : Gate → ℕ → Result Unit NotOut → Gate → Type 0
Finishes old number (Ok _) new = (is_running (history old) number ≡ true) × Adds old (Finished number) new
Finishes old number (Err _) new = (is_running (history old) number ≡ false) × Stays old new

-- sweep: LogFull, if its entry has no room
abbrev pub Sweeps : Gate → ℕ → Result ℕ SweepRefusal → Gate → Type 0
Sweeps old m (Ok count) new =
    HasRoom old 1 × (count ≡ past_count (history old) (moment_at old m))
    × Adds old (Swept (moment_at old m) count) new
Sweeps old m (Err sweep.LogFull) new = IsFull old 1 × Stays old new
Sweeps old m (Err sweep.NoMemory) new = HasRoom old 1 × Stays old new
