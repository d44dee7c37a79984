-- The outcomes so far, and room for the others.
-- Used by `no_outcomes`.
use Rattle.std.proofs.Common.{◌≡◌, ◌≤◌}
use Rattle.std.specs.Prelude.{vec_len, vec_capacity}
use Rattle.crawl_workers.proofs.shift.no_outcomes.Given as goal

abbrev pub invariant-loop : goal.invariant-loop
invariant-loop l = record {
  so_many : vec_len l.outcomes ≡ l.counter;
  room : l.count ≤ vec_capacity l.outcomes;
}
