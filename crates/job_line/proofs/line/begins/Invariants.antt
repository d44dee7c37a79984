-- The beginnings of the sites so far, and their jobs.
-- Used by `begins`.
use Rattle.std.proofs.Common.{◌≡◌, ◌≤◌, length, take}
use Rattle.std.specs.Prelude.{vec_capacity, vec_len}
use Rattle.job_line.specs.Sums.{begins_from, jobs_in}
use Rattle.job_line.proofs.line.begins.Given as goal

abbrev pub invariant-loop-count : goal.invariant-loop-count
invariant-loop-count l = record {
  begins : l.begins.items ≡ begins_from 0 (take l.count-index l.counts);
  jobs : l.jobs ≡ jobs_in (take l.count-index l.counts);
  count : vec_len l.begins ≡ l.count-index;
  room : length l.counts ≤ vec_capacity l.begins;
}
