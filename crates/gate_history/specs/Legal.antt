-- Legal histories: from a base, with each entry legal after those before it.
-- RFC 9309, sections 2.2.2, 2.3.1 and 2.4.
use Rattle.std.specs.Prelude.{◌≡◌, ℕ, ◌+◌, ◌≤◌, true, false, List, [], ◌∷◌, Result, Ok, Err}
use Rattle.authority_cache.specs.Lives.{life_of}
use Rattle.gate_history.specs.declared.entry.Entry.{Entry}
use Rattle.gate_history.specs.declared.entry.Entry.TheVariants.{Begun, Arrived, Granted, AskDenied, Started, StartDenied, Returned, Finished, Swept}
use Rattle.gate_history.specs.declared.outcome.Reason.{Reason}
use Rattle.gate_history.specs.declared.outcome.Cause.{Cause}
use Rattle.gate_history.specs.Base.{IsBase}
use Rattle.gate_history.specs.Grants.{is_covered}
use Rattle.gate_history.specs.History.{History, from, ◌▸◌, now, begins}
use Rattle.gate_history.specs.Standing.{has_turn, is_fetching, past_count}
use Rattle.gate_history.specs.Outstanding.{grants, is_running, is_unspent, stands, was_granted}
use Rattle.gate_history.specs.Cause.{Decides}

-- the number has an unspent permit, with this decision now
abbrev pub SpendsAs : History → ℕ → ℕ → Result Reason Cause → Type 0
SpendsAs h number moment outcome =
    (token : List ℕ) × ((url : List ℕ) × ((stands h number token url ≡ true) × Decides h token url moment outcome))

-- the entry is legal after this history
abbrev pub MayFollow : History → Entry → Type 0
-- a begin finds no turn of its authority in flight, and has the next number
MayFollow h (Begun moment authority turn) = (now h ≤ moment) × (is_fetching h authority ≡ false) × (turn ≡ begins h + 1)
-- an arrival answers the authority's turn in flight, with a suitable life
MayFollow h (Arrived life moment authority turn says) =
    (now h ≤ moment) × (has_turn h authority turn ≡ true) × (life_of says life ≡ life)
-- a granted number is new, and its fetch is allowed
MayFollow h (Granted moment number fetch) =
    (now h ≤ moment) × (was_granted h number ≡ false)
    × ((reason : Reason) × Decides h fetch.token fetch.url moment (Ok reason))
-- a denied ask has the cause by the history before it
MayFollow h (AskDenied moment fetch cause) = (now h ≤ moment) × Decides h fetch.token fetch.url moment (Err cause)
-- a start spends an unspent permit, with the decision of its own moment
MayFollow h (Started moment number reason) = (now h ≤ moment) × SpendsAs h number moment (Ok reason)
MayFollow h (StartDenied moment number cause) = (now h ≤ moment) × SpendsAs h number moment (Err cause)
-- a return names an unspent permit, a finish a running one
MayFollow h (Returned number) = is_unspent h number ≡ true
MayFollow h (Finished number) = is_running h number ≡ true
-- a sweep counts the answers that it ends
MayFollow h (Swept moment count) = (now h ≤ moment) × (count ≡ past_count h moment)

-- from a base, each entry is legal after those before it
abbrev pub IsLegal : History → Type 0
IsLegal (from base) = IsBase base
IsLegal (h ▸ e) = IsLegal h × MayFollow h e

-- a grant after this history has a generation above all earlier ones of its slot
abbrev pub Rises : History → Entry → Type 0
Rises h (Granted _ number _) = is_covered (grants h) number ≡ false
Rises h _ = Unit {0}

-- each grant of the entries after this history does so
abbrev pub AllRise : History → List Entry → Type 0
AllRise h [] = Unit {0}
AllRise h (e ∷ later) = Rises h e × AllRise (h ▸ e) later
