-- A server without a keeper.
use Rattle.keepers.specs.declared.no_keeper.NoKeeper.{NoKeeper}
use Rattle.keepers.specs.declared.no_keeper.NoKeeper.TheVariants as refusals
use Rattle.line_server.specs.declared.fault.ServeFault.{ServeFault}
use Rattle.line_server.specs.declared.fault.ServeFault.TheVariants as faults

-- the fault of a missing keeper
abbrev pub serve_fault : NoKeeper → ServeFault
serve_fault refusals.DesksFull = faults.DesksFull
serve_fault refusals.NoMemory = faults.NoMemory
