-- Why a shift has no whole report.
-- The conversions of `not_shifted` cite it.
use Rattle.crawl_workers.specs.declared.report.ShiftFault.{ShiftFault}
use Rattle.crawl_workers.specs.declared.report.ShiftFault.TheVariants as shift
use Rattle.gate_settlement.specs.declared.settlement.SettleFault.TheVariants as settle
use Rattle.crawl_shift.specs.declared.job_lines.JobLinesFault.{JobLinesFault}
use Rattle.crawl_shift.specs.declared.job_lines.JobLinesFault.TheVariants as jobs_fault
use Rattle.crawl_shift.specs.declared.not_shifted.NotShifted.{NotShifted}
use Rattle.crawl_shift.specs.declared.not_shifted.NotShifted.TheVariants.{BadLine, NoMemory, Device, Over}

-- the jobs were not read
abbrev pub by_jobs : JobLinesFault → NotShifted
by_jobs (jobs_fault.BadLine bad) = BadLine bad.number
by_jobs jobs_fault.Read = Device
by_jobs jobs_fault.NoMemory = NoMemory

-- the workers failed, or their gate was not settled
abbrev pub by_workers : ShiftFault → NotShifted
by_workers shift.NoMemory = NoMemory
by_workers shift.DesksFull = Device
by_workers shift.Over = Over
by_workers (shift.Unsettled settle.NoMemory) = NoMemory
by_workers (shift.Unsettled _) = Device
