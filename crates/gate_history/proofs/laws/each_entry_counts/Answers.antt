-- Each kind of entry has its counts.
use Rattle.gate_history.proofs.EntryCounts as laws
use Rattle.gate_history.proofs.laws.each_entry_counts.Goals as goal

pub returns : goal.returns
returns c = laws.each_entry_counts
