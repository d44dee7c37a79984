-- The gate's ledgers are the new ones.
use Rattle.tests_session.proofs.tests.sweeps.events_of.Given as goal

abbrev pub ghosts-serve_two : goal.ghosts-serve_two
ghosts-serve_two g a = record { ledgers = a.blanks }
