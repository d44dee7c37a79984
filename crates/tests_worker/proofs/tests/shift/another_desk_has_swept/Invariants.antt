-- The gate's ledgers are the new ones.
use Rattle.tests_worker.proofs.tests.shift.another_desk_has_swept.Given as goal

abbrev pub ghosts-sweep_new : goal.ghosts-sweep_new
ghosts-sweep_new g a = record { ledgers = a.blanks }
