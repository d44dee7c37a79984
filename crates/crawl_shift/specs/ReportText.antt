-- The report of a shift, as docs/FORMATS.md has it (Jobs and their report).
-- Used by `report_text` and `report_lines`.
use Rattle.std.specs.Prelude.{ℕ, ◌+◌, ◌-◌, ◌^◌, List, [], ◌∷◌, decimal, length, min}
use Rattle.command_lines.specs.HopText.{hops_text}
use Rattle.crawl_job.specs.declared.hop.Hop.{Hop}
use Rattle.crawl_shift.specs.ShiftText.{sums_text}
use Rattle.crawl_workers.specs.declared.report.Crawled.{Crawled}

-- the lines of a job, whose number is counted from 1
abbrev pub job_text : ℕ → List Hop → List ℕ
job_text number hops = hops_text (decimal number) 1 hops

-- how many hops the outcomes have
abbrev pub hop_count : List Crawled → ℕ
hop_count [] = 0
hop_count (crawled ∷ later) = length crawled.hops.items + hop_count later

-- the lines of each job, the first with this number, and then the last line
abbrev pub report_texts : ℕ → List Crawled → List ℕ → List (List ℕ)
report_texts number [] last = last ∷ []
report_texts number (crawled ∷ later) last = job_text number crawled.hops.items ∷ report_texts (number + 1) later last

-- the texts of a whole report, with the number of started fetches
abbrev pub whole_report : List Crawled → ℕ → List (List ℕ)
whole_report outcomes starts =
    report_texts 1 outcomes (sums_text (length outcomes) (min (hop_count outcomes) (2 ^ 64 - 1)) starts)
