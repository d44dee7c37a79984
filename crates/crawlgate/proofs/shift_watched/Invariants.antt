-- The ledgers of the program's one gate are those of its blanks.
use Rattle.crawlgate.proofs.shift_watched.Given as goal

abbrev pub ghosts-shift_jobs : goal.ghosts-shift_jobs
ghosts-shift_jobs g a = record { ledgers = a.blanks }
