-- The jobs so far have their places, and other places are unchanged.
-- Used by `place`.
use Rattle.std.proofs.Common.{◌≡◌, ◌++◌, ℕ, List, length}
use Rattle.std.specs.List.{slice_get}
use Rattle.job_line.specs.Sums.{weigh}
use Rattle.crawl_workers.specs.declared.crew.Done.{Done}
use Rattle.crawl_workers.specs.Crews.{one_at_number}
use Rattle.crawl_workers.specs.Shifts.{ArePlaced, numbers_of}
use Rattle.crawl_workers.proofs.places.place.Given as goal

abbrev pub invariant-loop-job : goal.invariant-loop-job
invariant-loop-job l = record {
  taken : List Done;
  all : l.fn.done.items ≡ taken ++ l.job-iterator.rest.items;
  len : length l.outcomes ≡ length l.fn.outcomes;
  placed : ArePlaced l.outcomes taken;
  others : (n : ℕ) → weigh (one_at_number n) (numbers_of taken) ≡ 0 → slice_get l.outcomes n ≡ slice_get l.fn.outcomes n;
}
