-- The seats so far have a part each without draws, and the last one has the rest.
-- Used by `JobLine::of_sites`.
use Rattle.std.proofs.Common.{◌≡◌, ◌≤◌, ◌+◌, [], false, length, replicate}
use Rattle.std.specs.Prelude.{All, vec_len, vec_capacity}
use Rattle.job_line.specs.Covers.{IsNew, parts_of}
use Rattle.job_line.proofs.line.JobLine.of_sites.Given as goal

abbrev pub invariant-loop : goal.invariant-loop
invariant-loop l = record {
  its_line : l.last.line ≡ l.line-inside.table.shared.table_id;
  its_counts : l.last.counts ≡ l.fn.counts;
  goes : l.last.ended ≡ replicate (length l.fn.counts) false;
  nothing : l.last.drawn ≡ [];
  left : l.last.parts + vec_len l.seats ≡ 16;
  count : vec_len l.seats + 1 ≡ l.counter;
  dealt : All (IsNew l.line-inside.table.shared.table_id l.fn.counts) l.seats.items;
  parts : parts_of l.seats.items ≡ vec_len l.seats;
  room : l.fn.workers ≤ vec_capacity l.seats;
}
