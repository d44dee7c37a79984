-- The job of a line, as docs/FORMATS.md has it.
-- Cited by `job_words`.
use Rattle.std.specs.Prelude.{ℕ, List, Result, Err, if◌then◌else◌}
use Rattle.path_normal.specs.Capacity.{Capacity}
use Rattle.path_normal.specs.declared.schemes.Schemes.{Schemes}
use Rattle.line_text.specs.Words.{words_of}
use Rattle.crawl_job.specs.declared.job.Job.{Job}
use Rattle.command_lines.specs.declared.fault.LineFault.{LineFault}
use Rattle.command_lines.specs.declared.fault.LineFault.TheVariants as faults
use Rattle.command_lines.specs.CallOf.{has_line_octets, job_words_of}

-- a line's job in these schemes, or its first fault
abbrev pub job_of : Schemes → List ℕ → Capacity → Result Job LineFault
job_of schemes line capacity =
    if has_line_octets line then job_words_of schemes (words_of line) capacity else Err faults.Chars
