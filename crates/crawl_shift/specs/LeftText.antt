-- What is told of the jobs that a shift left undone, as docs/FORMATS.md has it.
-- Used by `left_jobs`.
use Rattle.std.specs.Prelude.{ℕ, List, ◌++◌, codes, decimal}
use Rattle.crawl_shift.specs.declared.left_jobs.LeftJob.{LeftJob}

-- how many jobs are left
abbrev pub left_jobs_text : ℕ → List ℕ
left_jobs_text count = codes "crawlgate: shift: ended early, " ++ (decimal count ++ codes " jobs were not done\n")

-- the number of a job, its token and its page
abbrev pub left_job_text : LeftJob → List ℕ
left_job_text left =
    decimal left.number ++ (codes " " ++ (left.job.now.token ++ (codes " " ++ (left.job.now.url ++ codes "\n"))))
