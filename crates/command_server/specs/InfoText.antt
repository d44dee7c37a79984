-- The reply to INFO: names and numbers in one line. docs/FORMATS.md, replies.
-- Cited by `info_text` and `told`.
use Rattle.std.specs.Prelude.{List, ℕ, ◌++◌, codes, decimal}
use Rattle.keepers.specs.declared.counts.Counts.{Counts}
use Rattle.command_server.specs.declared.server_counters.DenialCounts.{DenialCounts}
use Rattle.command_server.specs.declared.server_counters.ServerCounts.{ServerCounts}
use Rattle.fetchers.specs.declared.fetch_meter.RobotsFaults.{RobotsFaults}
use Rattle.journal.specs.declared.meter.JournalCounts.{JournalCounts}

-- the entries, the starts, and the permits out
unfoldable pub begin_of_info : Counts → List ℕ
begin_of_info counts =
    codes "INFO entries " ++ (decimal counts.entries
    ++ (codes " ever " ++ (decimal counts.ever
    ++ (codes " starts " ++ (decimal counts.starts
    ++ (codes " permits " ++ decimal counts.permits))))))

-- the fetches under way, and the authorities
unfoldable pub end_of_info : Counts → List ℕ
end_of_info counts =
    codes " running " ++ (decimal counts.running
    ++ (codes " turns " ++ (decimal counts.turns
    ++ (codes " authorities " ++ (decimal counts.authorities ++ codes " room ")))))

-- the history's room, and the server's connections
unfoldable pub server_of_info : Counts → ServerCounts → List ℕ
server_of_info counts server =
    decimal counts.room ++ (codes " connections " ++ (decimal server.connections
    ++ (codes " clients " ++ decimal server.clients)))

-- the denials by cause, but for those of spent permits
unfoldable pub denials_of_info : DenialCounts → List ℕ
denials_of_info denials =
    codes " denied_line " ++ (decimal denials.line
    ++ (codes " denied_closed " ++ (decimal denials.closed
    ++ (codes " denied_unknown " ++ (decimal denials.unknown
    ++ (codes " denied_expired " ++ (decimal denials.expired ++ codes " denied_spent ")))))))

-- the denials of spent permits, and the fetches without a response
unfoldable pub faults_of_info : ServerCounts → List ℕ
faults_of_info server =
    decimal server.denials.spent
    ++ (codes " failed_pages " ++ (decimal server.failed_pages
    ++ (codes " failed_robots " ++ (decimal server.failed_robots ++ codes " journal_octets "))))

-- what the journal has written
unfoldable pub journal_of_info : JournalCounts → List ℕ
journal_of_info journal =
    decimal journal.octets
    ++ (codes " journal_syncs " ++ (decimal journal.syncs
    ++ (codes " slowest_sync " ++ (decimal journal.slowest_sync ++ codes " robots_no_name "))))

-- the fetches of robots.txt files that heard nothing of a server, by cause
unfoldable pub unheard_of_info : RobotsFaults → List ℕ
unheard_of_info faults =
    decimal faults.no_name
    ++ (codes " robots_refused " ++ (decimal faults.refused
    ++ (codes " robots_timed_out " ++ (decimal faults.timed_out ++ codes " robots_tls "))))

-- the other failed fetches of robots.txt files, by cause, and the clients that wait
unfoldable pub refusals_of_info : ServerCounts → List ℕ
refusals_of_info server =
    decimal server.robots_faults.tls
    ++ (codes " robots_status " ++ (decimal server.robots_faults.status
    ++ (codes " robots_other " ++ (decimal server.robots_faults.other
    ++ (codes " waiting " ++ (decimal server.waiting ++ codes "\n"))))))

-- the failed fetches of robots.txt files by cause, and the clients that wait
abbrev pub causes_of_info : ServerCounts → List ℕ
causes_of_info server = unheard_of_info server.robots_faults ++ refusals_of_info server

-- what follows the fetches without a response
abbrev pub records_of_info : ServerCounts → List ℕ
records_of_info server = journal_of_info server.journal ++ causes_of_info server

-- what follows the denials
abbrev pub work_of_info : ServerCounts → List ℕ
work_of_info server = faults_of_info server ++ records_of_info server

-- what follows the connections
abbrev pub events_of_info : ServerCounts → List ℕ
events_of_info server = denials_of_info server.denials ++ work_of_info server

-- what follows the authorities
abbrev pub after_authorities : Counts → ServerCounts → List ℕ
after_authorities counts server = server_of_info counts server ++ events_of_info server

-- what follows the permits
abbrev pub rest_of_info : Counts → ServerCounts → List ℕ
rest_of_info counts server = end_of_info counts ++ after_authorities counts server

-- the reply
abbrev pub info_text : Counts → ServerCounts → List ℕ
info_text counts server = begin_of_info counts ++ rest_of_info counts server
