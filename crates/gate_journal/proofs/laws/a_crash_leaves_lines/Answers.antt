-- The lines are taken one by one.
use Rattle.gate_journal.proofs.Lines.{leaves_lines}
use Rattle.gate_journal.proofs.laws.a_crash_leaves_lines.Goals as goal

pub returns : goal.returns
returns c = leaves_lines
