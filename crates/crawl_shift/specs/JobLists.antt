-- A job's line, and what ends the reading of a shift's lines.
-- Used by `read_job_lines`; see docs/FORMATS.md.
use Rattle.std.specs.Prelude.{◌≡◌, ◌≢◌, ◌⊎◌, ℕ, ◌+◌, List, [], ◌∷◌, ◌++◌, length, Option, Result, Ok, Err}
use Rattle.path_normal.specs.Capacity.{IsRead}
use Rattle.path_normal.specs.declared.schemes.Schemes.{Schemes}
use Rattle.counted_io.specs.Lines.{FindsTooLong}
use Rattle.crawl_job.specs.declared.job.Job.{Job}
use Rattle.command_lines.specs.Input.{FindsLine, TakesLines}
use Rattle.command_lines.specs.JobWords.{job_of}
use Rattle.command_lines.specs.declared.fault.LineFault.{LineFault}
use Rattle.command_lines.specs.declared.fault.LineFault.TheVariants as faults
use Rattle.job_line.specs.Limits.{max_jobs}
use Rattle.crawl_shift.specs.declared.job_list.JobList.{JobList}

-- the most octets of a line, without its end
abbrev pub job_line_limit : ℕ
job_line_limit = 8192

-- the line has this fault, or memory was refused
abbrev pub MayFail : Schemes → List ℕ → LineFault → Type 0
MayFail schemes line fault = IsRead (Err fault) (job_of schemes line) ⊎ (fault ≡ faults.Memory)

-- a line's job was added; or its fault is returned, and the list is unchanged
abbrev pub AddsJob : Schemes → JobList → List ℕ → Result (Unit {0}) LineFault → JobList → Type 0
AddsJob schemes old line (Ok _) new =
    (job : Job) × (IsRead (Ok job) (job_of schemes line) × (new.jobs.items ≡ old.jobs.items ++ job ∷ [])
    × (new.fault ≡ old.fault))
AddsJob schemes old line (Err fault) new =
    MayFail schemes line fault × (new.jobs.items ≡ old.jobs.items) × (new.fault ≡ old.fault)

-- after these lines came one with a fault
pub record HasFault (schemes : Schemes) (input : Option (List ℕ)) (lines : List (List ℕ)) : Type 0 where
  pub line : List ℕ
  pub behind : Option (List ℕ)
  pub fault : LineFault
  pub took : TakesLines job_line_limit input behind (lines ++ line ∷ [])
  pub fails : IsRead (Err fault) (job_of schemes line)
  pub no_memory : fault ≢ faults.Memory

-- the next line is too long
pub record IsTooLong (input left : Option (List ℕ)) (lines : List (List ℕ)) : Type 0 where
  pub behind : Option (List ℕ)
  pub unread : List ℕ
  pub took : TakesLines job_line_limit input behind lines
  pub found : FindsTooLong job_line_limit behind unread left

-- the next line is one too many
pub record IsTooMany (input left : Option (List ℕ)) (lines : List (List ℕ)) : Type 0 where
  pub behind : Option (List ℕ)
  pub unread : List ℕ
  pub took : TakesLines job_line_limit input behind lines
  pub all : length lines ≡ max_jobs
  pub found : FindsLine job_line_limit behind unread left
