-- The parts of this crate's types.
-- Cited by their contracts.
use Rattle.std.specs.Prelude.{ℕ}
use Rattle.journal.specs.declared.journaled_sink.JournaledSink.{JournaledSink}
use Rattle.journal.specs.declared.file_tape.FileTape.{FileTape}

-- what comes up before each write
abbrev pub ahead_of : {A W : Type 0} → JournaledSink A W → A
ahead_of behind = behind.ahead

-- the sink inside
abbrev pub sink_of : {A W : Type 0} → JournaledSink A W → W
sink_of behind = behind.sink

-- how many of its writes failed, modulo 2^64
abbrev pub failures_of : {A W : Type 0} → JournaledSink A W → ℕ
failures_of behind = behind.failures

-- the number of the next write, modulo 2^64
abbrev pub number_of : {A W : Type 0} → JournaledSink A W → ℕ
number_of behind = behind.number

-- how many calls of a file failed, modulo 2^64
abbrev pub file_failures : {F : Type 0} → FileTape F → ℕ
file_failures tape = tape.failures
