-- The gate's ledgers are the new ones.
use Rattle.tests_gate.proofs.tests.resumed.settled_behind_a_seal.Given as goal

abbrev pub ghosts-from_sealed : goal.ghosts-from_sealed
ghosts-from_sealed g a = record { ledgers = a.blanks }
