-- A history of the gate: a base and the entries since, the last outermost; its counts, and its moment, by which
-- answers age (RFC 9309, 2.4).
use Rattle.std.specs.Prelude.{ℕ, ◌+◌, max, Bool, true, false, List, [], ◌∷◌}
use Rattle.gate_history.specs.declared.entry.Entry.{Entry}
use Rattle.gate_history.specs.declared.entry.Entry.TheVariants.{Begun, Arrived, Granted, AskDenied, Started, StartDenied, Returned, Finished, Swept}
use Rattle.gate_history.specs.Base.{Base}

infixl 20 ◌▸◌
-- a base, or a history and one more entry
pub data History : Type 0 where
  from : Base → History
  ◌▸◌ : History → Entry → History

-- a history and the entries after it, oldest first
abbrev pub followed_by : History → List Entry → History
followed_by h [] = h
followed_by h (e ∷ later) = followed_by (h ▸ e) later

-- the moment of an entry; returns and finishes have none
abbrev pub moment_of : Entry → ℕ
moment_of (Begun moment _ _) = moment
moment_of (Arrived _ moment _ _ _) = moment
moment_of (Granted moment _ _) = moment
moment_of (AskDenied moment _ _) = moment
moment_of (Started moment _ _) = moment
moment_of (StartDenied moment _ _) = moment
moment_of (Returned _) = 0
moment_of (Finished _) = 0
moment_of (Swept moment _) = moment

-- the gate's moment: the greatest of an entry, or 0
abbrev pub now : History → ℕ
now (from base) = base.moment
now (h ▸ e) = max (moment_of e) (now h)

-- the moment of a call: its own or the gate's, whichever is greater
abbrev pub at_moment : History → ℕ → ℕ
at_moment h handed_in = max handed_in (now h)

-- how many begins there were
abbrev pub begins : History → ℕ
begins (from base) = base.begins
begins (h ▸ Begun _ _ _) = begins h + 1
begins (h ▸ _) = begins h

-- the count of entries; an entry's place is the count before it
abbrev pub entry_count : History → ℕ
entry_count (from base) = base.entries
entry_count (h ▸ _) = entry_count h + 1

-- the entry is a started fetch
abbrev pub is_start : Entry → Bool
is_start (Started _ _ _) = true
is_start _ = false

-- how many Started entries there were
abbrev pub started_count : History → ℕ
started_count (from base) = base.started
started_count (h ▸ Started _ _ _) = started_count h + 1
started_count (h ▸ _) = started_count h
