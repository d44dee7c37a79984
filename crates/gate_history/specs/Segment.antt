-- A segment: sealed entries and the base before them, as a history of its own.
-- RFC 9309, sections 2.3.1 and 2.4; the value of `segment.rt`.
use Rattle.std.specs.Prelude.{List, []}
use Rattle.gate_history.specs.declared.entry.Entry.{Entry}
use Rattle.gate_history.specs.Base.{Base, empty_base}
use Rattle.gate_history.specs.History.{History, followed_by, from}

-- the base, and the entries after it
pub record Sealed : Type 0 where
  pub base : Base
  pub entries : List Entry

-- the segment without entries, which has no base
abbrev pub nothing_sealed : Sealed
nothing_sealed = record { base = empty_base; entries = [] }

-- the history that it is
abbrev pub history_in : Sealed → History
history_in s = followed_by (from s.base) s.entries
