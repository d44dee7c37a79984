-- A base of numbers that left nothing open.
-- Used where a base's first line was read.
use Rattle.std.specs.Prelude.{[]}
use Rattle.gate_history.specs.declared.base.Numbers.{Numbers}
use Rattle.gate_history.specs.Base.{Base}

-- a base with these numbers and nothing open
abbrev pub numbered : Numbers → Base
numbered numbers = record {
  standing = [];
  in_flight = [];
  unspent = [];
  running = [];
  grants = [];
  begins = numbers.begins;
  moment = numbers.moment;
  entries = numbers.entries;
  started = numbers.started;
}
