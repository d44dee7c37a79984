-- The entries of the audit's records.
-- Used by all that reads, writes or enters them.
use Rattle.robots_verdict.specs.Answer.{said}
use Rattle.gate_history.specs.declared.entry.Entry.{Entry}
use Rattle.gate_history.specs.declared.entry.Entry.TheVariants.{Begun, Arrived, Granted, AskDenied, Started, StartDenied, Returned, Finished, Swept}
use Rattle.crawl_audit.specs.declared.record.Record.{Record}
use Rattle.crawl_audit.specs.declared.record.Record.TheVariants as records

-- the entry that a record is
abbrev pub entry_of : Record → Entry
entry_of (records.Begun moment authority turn) = Begun moment authority turn
entry_of (records.Arrived moment authority turn answer life) = Arrived life moment authority turn (said answer)
entry_of (records.Granted moment number fetch) = Granted moment number fetch
entry_of (records.AskDenied moment fetch cause) = AskDenied moment fetch cause
entry_of (records.Started moment number reason) = Started moment number reason
entry_of (records.StartDenied moment number cause) = StartDenied moment number cause
entry_of (records.Returned number) = Returned number
entry_of (records.Finished number) = Finished number
entry_of (records.Swept moment count) = Swept moment count
