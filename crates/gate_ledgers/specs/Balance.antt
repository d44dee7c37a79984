-- A gate's numbers that ledgers count, and how the ledgers are divided.
-- Cited by the counted book, and for an idle gate.
use Rattle.std.specs.Prelude.{◌≡◌, ℕ, ◌+◌, ◌≤◌, length}
use Rattle.gate_history.specs.Base.{Base, empty_base}
use Rattle.gate_history.specs.History.{History, entry_count, started_count}
use Rattle.gate_history.specs.Outstanding.{running, unspent}
use Rattle.gate_history.specs.Standing.{in_flight}

-- entries, started fetches, entries handed out, unspent permits, running fetches and turns in flight
pub record Balance : Type 0 where
  pub entries : ℕ
  pub starts : ℕ
  pub handed : ℕ
  pub unspent : ℕ
  pub running : ℕ
  pub turns : ℕ

-- a gate's ledgers, by their names
pub record Ledgers : Type 0 where
  pub entries : ℕ
  pub starts : ℕ
  pub handed : ℕ
  pub unspent : ℕ
  pub running : ℕ
  pub turns : ℕ

-- the ledgers of no gate
abbrev pub no_ledgers : Ledgers
no_ledgers = record { entries = 0; starts = 0; handed = 0; unspent = 0; running = 0; turns = 0 }

-- nothing is counted yet
abbrev pub nothing_counted : Balance
nothing_counted = record { entries = 0; starts = 0; handed = 0; unspent = 0; running = 0; turns = 0 }

-- a base's balance with nothing out: its entries, all handed out, and its started fetches
abbrev pub counted_before : Base → Balance
counted_before base = record {
  entries = base.entries;
  starts = base.started;
  handed = base.entries;
  unspent = 0;
  running = 0;
  turns = 0;
}

-- the most desks of a gate
abbrev pub most_desks : ℕ
most_desks = 65536

-- a ledger's parts: one for each desk, one for all before, and one that is left
abbrev pub all_desk_parts : ℕ
all_desk_parts = 65538

-- a ledger's parts for permits, runs or turns out: 2 ^ 40, more than can be out
abbrev pub all_out_parts : ℕ
all_out_parts = 1099511627776

-- each ledger of what desks did consists of the parts of desks, that of all before, and those left
pub record AreDeskParts (desks entry_parts start_parts handed_parts : ℕ) : Type 0 where
  pub few_desks : desks ≤ most_desks
  pub entries_are : entry_parts + desks + 1 ≡ all_desk_parts
  pub starts_are : start_parts + desks + 1 ≡ all_desk_parts
  pub handed_are : handed_parts + desks + 1 ≡ all_desk_parts

-- each ledger of what is out consists of the parts handed out and those left
pub record AreOutParts (unspent unspent_parts running running_parts turns turn_parts : ℕ) : Type 0 where
  pub unspent_are : unspent_parts + unspent ≡ all_out_parts
  pub running_are : running_parts + running ≡ all_out_parts
  pub turns_are : turn_parts + turns ≡ all_out_parts

-- the balance is that of the history
pub record IsBalanceOf (h : History) (b : Balance) : Type 0 where
  pub entries : b.entries ≡ entry_count h
  pub starts : b.starts ≡ started_count h
  pub unspent : b.unspent ≡ length (unspent h)
  pub running : b.running ≡ length (running h)
  pub turns : b.turns ≡ length (in_flight h)

-- all sealed entries were handed out; without any, the history began empty
pub record IsHandedOut (base : Base) (handed : ℕ) : Type 0 where
  pub handed_are : handed ≡ base.entries
  pub from_start : base.entries ≡ 0 → base ≡ empty_base

-- these numbers of unspent permits, running fetches and turns are gone; all else stays
pub record Loses (old new : Balance) (permits runs turns_less : ℕ) : Type 0 where
  pub entries_are : new.entries ≡ old.entries
  pub starts_are : new.starts ≡ old.starts
  pub handed_are : new.handed ≡ old.handed
  pub unspent_are : new.unspent + permits ≡ old.unspent
  pub running_are : new.running + runs ≡ old.running
  pub turns_are : new.turns + turns_less ≡ old.turns
