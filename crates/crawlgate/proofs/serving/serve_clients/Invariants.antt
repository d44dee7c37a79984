-- The ledgers of the server's one gate are those of its blanks.
use Rattle.crawlgate.proofs.serving.serve_clients.Given as goal

abbrev pub ghosts-run_server : goal.ghosts-run_server
ghosts-run_server g a = record { ledgers = a.blanks }
