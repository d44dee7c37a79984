-- The base as callers see it.
-- The value of `base.rt`.
use Rattle.gate_history.specs.declared.base.LeftOpen.{LeftOpen}
use Rattle.gate_history.specs.declared.base.Numbers.{Numbers}
use Rattle.gate_history.specs.Base.{Base}
use Rattle.gate_history.specs.Order.{in_order}

-- what was left open, and the numbers
abbrev pub base_with : LeftOpen → Numbers → Base
base_with left numbers = record {
  standing = left.standing.items;
  in_flight = left.in_flight.items;
  unspent = left.unspent.items;
  running = left.running.items;
  grants = left.grants.items;
  begins = numbers.begins;
  moment = numbers.moment;
  entries = numbers.entries;
  started = numbers.started;
}

-- the same with the answers in order, whatever order they are kept in
abbrev pub ordered_with : LeftOpen → Numbers → Base
ordered_with left numbers = record {
  standing = in_order left.standing.items;
  in_flight = left.in_flight.items;
  unspent = left.unspent.items;
  running = left.running.items;
  grants = left.grants.items;
  begins = numbers.begins;
  moment = numbers.moment;
  entries = numbers.entries;
  started = numbers.started;
}
