-- The jobs of a shift's lines, and the lines that can't be read, each with its fault; or the line that ended the
-- reading.
-- Used by `read_job_lines`; see docs/FORMATS.md.
use Rattle.std.specs.Prelude.{◌≡◌, ◌≢◌, ◌⊎◌, ℕ, ◌+◌, ◌≤◌, Bool, true, false, List, [], ◌∷◌, ◌++◌, length, Option, None, Some, Result, Ok, Err, codes, decimal}
use Rattle.std.specs.declared.alloc.AllocError.{AllocError}
use Rattle.path_normal.specs.Capacity.{IsRead}
use Rattle.path_normal.specs.declared.schemes.Schemes.{Schemes}
use Rattle.counted_io.specs.Device.{one_more}
use Rattle.counted_io.specs.Lines.{IsDrained}
use Rattle.crawl_job.specs.declared.job.Job.{Job}
use Rattle.command_lines.specs.FaultText.{fault_words}
use Rattle.command_lines.specs.Input.{TakesLines}
use Rattle.command_lines.specs.JobWords.{job_of}
use Rattle.command_lines.specs.declared.fault.LineFault.{LineFault}
use Rattle.command_lines.specs.declared.fault.LineFault.TheVariants as faults
use Rattle.command_lines.specs.declared.session_fault.SessionFault.{SessionFault}
use Rattle.command_lines.specs.declared.session_fault.SessionFault.TheVariants as session
use Rattle.job_line.specs.Limits.{max_jobs}
use Rattle.crawl_shift.specs.JobLists.{AddsJob, HasFault, IsTooLong, IsTooMany, MayFail, job_line_limit}
use Rattle.crawl_shift.specs.declared.job_lines.BadJobLine.{BadJobLine}
use Rattle.crawl_shift.specs.declared.job_lines.BadLines.{BadLines}
use Rattle.crawl_shift.specs.declared.job_lines.BadLines.TheVariants.{End, Skip}
use Rattle.crawl_shift.specs.declared.job_lines.JobLines.{JobLines}
use Rattle.crawl_shift.specs.declared.job_lines.JobLinesFault.{JobLinesFault}
use Rattle.crawl_shift.specs.declared.job_lines.JobLinesFault.TheVariants.{BadLine, Read, NoMemory}
use Rattle.crawl_shift.specs.declared.job_lines.Reading.{Reading}

-- what is wrong with a line: what a command line is told, but of one too many how many there may be (max_jobs)
abbrev pub bad_line_words : LineFault → List ℕ
bad_line_words faults.Lines = codes "a shift has at most 4096 jobs"
bad_line_words fault = fault_words fault

-- what is reported of a line that can't be read
abbrev pub bad_line_text : BadJobLine → List ℕ
bad_line_text bad = codes "line " ++ (decimal bad.number ++ (codes ": " ++ (bad_line_words bad.fault ++ codes "\n")))

-- the line of this number has the reported fault
pub record IsToldOf (schemes : Schemes) (number : ℕ) (line : List ℕ) (told : BadJobLine) : Type 0 where
  pub number_is : told.number ≡ number
  pub fails : IsRead (Err told.fault) (job_of schemes line)
  pub no_memory : told.fault ≢ faults.Memory

-- a line is the first of the jobs
pub record GivesJob (schemes : Schemes) (line : List ℕ) (jobs : List Job) (rest : List Job → Type 0) : Type 0 where
  pub job : Job
  pub later : List Job
  pub jobs_are : jobs ≡ job ∷ later
  pub read : IsRead (Ok job) (job_of schemes line)
  pub then : rest later

-- the first of the bad lines is this line
pub record IsTold (schemes : Schemes) (number : ℕ) (line : List ℕ) (bad : List BadJobLine)
    (rest : List BadJobLine → Type 0) : Type 0 where
  pub told : BadJobLine
  pub later : List BadJobLine
  pub bad_are : bad ≡ told ∷ later
  pub is : IsToldOf schemes number line told
  pub then : rest later

-- each line is its job, or a bad line with its number, counted from this one, and fault
abbrev pub AreSorted : Schemes → ℕ → List (List ℕ) → List Job → List BadJobLine → Type 0
AreSorted schemes number [] jobs bad = (jobs ≡ []) × (bad ≡ [])
AreSorted schemes number (line ∷ lines) jobs bad =
    GivesJob schemes line jobs (λ later. AreSorted schemes (number + 1) lines later bad)
    ⊎ IsTold schemes number line bad (λ later. AreSorted schemes (number + 1) lines jobs later)

-- bad lines are kept only if they are skipped
abbrev pub MayKeep : BadLines → List BadJobLine → Type 0
MayKeep End bad = bad ≡ []
MayKeep Skip bad = Unit {0}

-- the jobs and bad lines of all lines of the input, not too many or too long
pub record AreJobLines (schemes : Schemes) (bad_lines : BadLines) (input left : Option (List ℕ))
    (read : JobLines) : Type 0 where
  pub lines : List (List ℕ)
  pub behind : Option (List ℕ)
  pub unread : List ℕ
  pub took : TakesLines job_line_limit input behind lines
  pub none : IsDrained unread left
  pub sorted : AreSorted schemes 1 lines read.jobs.items read.bad.items
  pub keeps : MayKeep bad_lines read.bad.items
  pub few : length read.jobs.items ≤ max_jobs

-- the next line can't be read, with this fault, and such lines end the reading; or it is too long, or one too many
abbrev pub EndsReading : Schemes → BadLines → Option (List ℕ) → Option (List ℕ) → List (List ℕ) → LineFault → Type 0
EndsReading schemes bad_lines input left lines fault =
    ((bad_lines ≡ End) × ((has : HasFault schemes input lines) × (has.fault ≡ fault)))
    ⊎ ((fault ≡ faults.Long) × IsTooLong input left lines)
    ⊎ ((fault ≡ faults.Lines) × IsTooMany input left lines)

-- after lines read or kept, this line ended the reading
pub record IsLastLine (schemes : Schemes) (bad_lines : BadLines) (input left : Option (List ℕ))
    (last : BadJobLine) : Type 0 where
  pub lines : List (List ℕ)
  pub jobs : List Job
  pub bad : List BadJobLine
  pub sorted : AreSorted schemes 1 lines jobs bad
  pub keeps : MayKeep bad_lines bad
  pub number_is : last.number ≡ length lines + 1
  pub ends : EndsReading schemes bad_lines input left lines last.fault

-- why no jobs were read
abbrev pub IsLinesFault : Schemes → BadLines → Option (List ℕ) → Option (List ℕ) → JobLinesFault → Type 0
IsLinesFault schemes bad_lines input left (BadLine last) = IsLastLine schemes bad_lines input left last
IsLinesFault schemes bad_lines input left Read = Unit {0}
IsLinesFault schemes bad_lines input left NoMemory = Unit {0}

-- a fault of a read is reported only after one failed
abbrev pub FailsToReadLines : ℕ → ℕ → JobLinesFault → Type 0
FailsToReadLines failures failures' Read = failures' ≡ one_more failures
FailsToReadLines failures failures' _ = Unit {0}

-- the number of the next line
abbrev pub next_number : Reading → ℕ
next_number reading = length reading.list.jobs.items + length reading.bad.items + 1

-- a line with this fault was kept, or memory ran out
abbrev pub Skips : Reading → LineFault → Result (Unit {0}) AllocError → Reading → Type 0
Skips old fault (Ok _) new =
    (told : BadJobLine) ×
    ((told.number ≡ next_number old) × (told.fault ≡ fault) × (new.bad.items ≡ old.bad.items ++ told ∷ [])
    × (new.list.jobs.items ≡ old.list.jobs.items) × (new.list.fault ≡ old.list.fault))
Skips old fault (Err _) new =
    (new.bad.items ≡ old.bad.items) × (new.list.jobs.items ≡ old.list.jobs.items) × (new.list.fault ≡ old.list.fault)

-- a line with this fault was kept, or ends the reading
abbrev pub MeetsFault : BadLines → Reading → LineFault → Bool → Reading → Type 0
MeetsFault bad_lines old fault false new =
    (bad_lines ≡ Skip) × (fault ≢ faults.Memory) × Skips old fault (Ok tt) new
MeetsFault bad_lines old fault true new =
    (new.list.jobs.items ≡ old.list.jobs.items)
    × (new.bad.items ≡ old.bad.items)
    × ((new.list.fault ≡ Some faults.Memory) ⊎ ((bad_lines ≡ End) × (new.list.fault ≡ Some fault)))

-- the reply is empty: a job was added, or the line has a fault
abbrev pub TakesLine : Schemes → BadLines → Reading → List ℕ → List ℕ → Bool → Reading → Type 0
TakesLine schemes bad_lines old line reply false new =
    (reply ≡ [])
    × ((AddsJob schemes old.list line (Ok tt) new.list × (new.bad.items ≡ old.bad.items))
    ⊎ ((fault : LineFault) × (MayFail schemes line fault × MeetsFault bad_lines old fault false new)))
TakesLine schemes bad_lines old line reply true new =
    (reply ≡ []) × ((fault : LineFault) × (MayFail schemes line fault × MeetsFault bad_lines old fault true new))

-- the input came to its end, and nothing ended the reading
abbrev pub LeavesWell : Reading → Result (Unit {0}) SessionFault → JobLines → Type 0
LeavesWell reading end read =
    (reading.list.fault ≡ None) × (end ≡ Ok tt) × (read.jobs.items ≡ reading.list.jobs.items)
    × (read.bad.items ≡ reading.bad.items)

-- the reading ended early, for this reason, at the next line
abbrev pub LeavesBadly : Reading → Result (Unit {0}) SessionFault → JobLinesFault → Type 0
LeavesBadly reading end (BadLine last) =
    (last.number ≡ next_number reading)
    × (((reading.list.fault ≡ Some last.fault) × (last.fault ≢ faults.Memory))
    ⊎ ((reading.list.fault ≡ None) × (last.fault ≡ faults.Long) × (end ≡ Err session.LongLine))
    ⊎ ((reading.list.fault ≡ None) × (last.fault ≡ faults.Lines) × (end ≡ Err session.Lines)))
LeavesBadly reading end Read = end ≡ Err session.Read
LeavesBadly reading end NoMemory = Unit {0}
