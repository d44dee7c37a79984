-- What a shift did, and its history as a text, by its workers' receipts.
-- The contract of `Shift`; see docs/FORMATS.md.
use Rattle.std.specs.Prelude.{◌≡◌, ℕ, List, [], Option}
use Rattle.std.specs.Io.KnownBytes.{Appends}
use Rattle.gate_core.specs.Gate.{Gate, HasLegalHistory}
use Rattle.gate_marks.specs.Marks.{Receipt}
use Rattle.gate_settlement.specs.Settling.{AreHistory}
use Rattle.history_text.specs.Exports.{present_segment}
use Rattle.history_text.specs.SpellBase.{spell_segment}
use Rattle.crawl_job.specs.declared.job.Job.{Job}
use Rattle.crawl_workers.specs.Shifts.{IsShift, ReportView}
use Rattle.page_worker.specs.World.{World}

-- the receipts are the gate's whole history, with nothing sealed before
pub record AreWholeHistory (gate : Gate) (receipts : List Receipt) : Type 0 where
  pub from_start : gate.base.entries ≡ 0
  pub are : AreHistory gate receipts

-- the legal history of the receipts was written after earlier output
pub record WritesReceipts (receipts : List Receipt) (old new : Option (List ℕ)) : Type 0 where
  pub gate : Gate
  pub legal : HasLegalHistory gate
  pub are : AreWholeHistory gate receipts
  pub wrote : Appends old new (spell_segment (present_segment gate))

-- a shift of these workers did the jobs, and its receipts' history was written
pub record WritesJobs (world : World) (workers : ℕ) (jobs : List Job) (old new : Option (List ℕ)) : Type 0 where
  pub report : ReportView
  pub shift : IsShift world jobs workers [] report
  pub wrote : WritesReceipts report.receipts old new

-- a shift of these workers did the jobs over a gate of these earlier receipts
pub record DoesJobs (world : World) (workers : ℕ) (jobs : List Job) (past : List Receipt) : Type 0 where
  pub report : ReportView
  pub shift : IsShift world jobs workers past report

-- the legal history of a gate was written after earlier output, as it stood
pub record WritesHistory (old new : Option (List ℕ)) : Type 0 where
  pub gate : Gate
  pub legal : HasLegalHistory gate
  pub wrote : Appends old new (spell_segment (present_segment gate))
