-- The gate's ledgers are the new ones.
use Rattle.gate_settlement.proofs.visit.with_gate.Given as goal

abbrev pub ghosts-visit_new : goal.ghosts-visit_new
ghosts-visit_new g a = record { ledgers = a.blanks }
