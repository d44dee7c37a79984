-- The page of numbers for a collector, in Prometheus' text format, version 0.0.4.
-- docs/FORMATS.md has its lines.
use Rattle.std.specs.Prelude.{◌++◌, ℕ, List, [], codes, decimal}
use Rattle.command_server.specs.declared.server_counters.DenialCounts.{DenialCounts}
use Rattle.command_server.specs.declared.server_counters.ServerCounts.{ServerCounts}
use Rattle.fetchers.specs.declared.fetch_meter.RobotsFaults.{RobotsFaults}
use Rattle.journal.specs.declared.meter.JournalCounts.{JournalCounts}
use Rattle.keepers.specs.declared.counts.Counts.{Counts}
use Rattle.turns.specs.declared.load.Load.{Load}

-- a text, and then a number with its name and its kind
unfoldable pub with_metric : List ℕ → (name kind : List ℕ) → ℕ → List ℕ
with_metric text name kind number =
    ((((((((text ++ codes "# TYPE crawlgate_") ++ name) ++ codes " ") ++ kind) ++ codes "\ncrawlgate_") ++ name)
    ++ codes " ") ++ decimal number) ++ codes "\n"

-- a text, and then a number that goes up and down
abbrev pub with_gauge : List ℕ → List ℕ → ℕ → List ℕ
with_gauge text name number = with_metric text name (codes "gauge") number

-- a text, and then a number that only grows
abbrev pub with_counter : List ℕ → List ℕ → ℕ → List ℕ
with_counter text name number = with_metric text name (codes "counter") number

-- a text, and then what the gate keeps
abbrev pub with_counts : List ℕ → Counts → List ℕ
with_counts text counts =
    let entries = with_gauge text (codes "entries") counts.entries in
    let ever = with_counter entries (codes "entries_total") counts.ever in
    let starts = with_counter ever (codes "starts_total") counts.starts in
    let permits = with_gauge starts (codes "permits") counts.permits in
    let running = with_gauge permits (codes "running") counts.running in
    let turns = with_gauge running (codes "turns") counts.turns in
    let authorities = with_gauge turns (codes "authorities") counts.authorities in
    with_gauge authorities (codes "room") counts.room

-- a text, and then the clients that send lines
abbrev pub with_clients : List ℕ → ServerCounts → List ℕ
with_clients text server =
    let taken = with_counter text (codes "connections_total") server.connections in
    let served = with_gauge taken (codes "clients") server.clients in
    with_gauge served (codes "waiting") server.waiting

-- a text, and then the denials by an answer
abbrev pub with_rulings : List ℕ → DenialCounts → List ℕ
with_rulings text denials =
    let line = with_counter text (codes "denied_by_lines_total") denials.line in
    with_counter line (codes "denied_closed_total") denials.closed

-- a text, and then the denials for want of an answer in force, or of a permit
abbrev pub with_wants : List ℕ → DenialCounts → List ℕ
with_wants text denials =
    let unknown = with_counter text (codes "denied_unknown_total") denials.unknown in
    let expired = with_counter unknown (codes "denied_expired_total") denials.expired in
    with_counter expired (codes "denied_spent_total") denials.spent

-- a text, and then the fetches that gave no response
abbrev pub with_faults : List ℕ → ServerCounts → List ℕ
with_faults text server =
    let pages = with_counter text (codes "failed_pages_total") server.failed_pages in
    with_counter pages (codes "failed_robots_total") server.failed_robots

-- a text, and then what the journal has written
abbrev pub with_journal : List ℕ → JournalCounts → List ℕ
with_journal text journal =
    let octets = with_counter text (codes "journal_octets_total") journal.octets in
    let syncs = with_counter octets (codes "journal_syncs_total") journal.syncs in
    with_gauge syncs (codes "journal_slowest_sync_microseconds") journal.slowest_sync

-- a text, and then the failed fetches of robots.txt files by cause
abbrev pub with_robots : List ℕ → RobotsFaults → List ℕ
with_robots text faults =
    let no_name = with_counter text (codes "robots_no_name_total") faults.no_name in
    let refused = with_counter no_name (codes "robots_refused_total") faults.refused in
    let timed_out = with_counter refused (codes "robots_timed_out_total") faults.timed_out in
    let tls = with_counter timed_out (codes "robots_tls_total") faults.tls in
    let status = with_counter tls (codes "robots_status_total") faults.status in
    with_counter status (codes "robots_other_total") faults.other

-- a text, and then how busy the loop of HTTP clients is
abbrev pub with_load : List ℕ → Load → List ℕ
with_load text load =
    let connected = with_gauge text (codes "http_connections") load.open in
    let called = with_gauge connected (codes "http_waiting") load.called in
    let slow = with_gauge called (codes "http_waiting_visits") load.called_slow in
    with_gauge slow (codes "http_visits") load.slow

-- a text, and then what the server counts
abbrev pub with_server : List ℕ → ServerCounts → List ℕ
with_server text server =
    let denied = with_wants (with_rulings (with_clients text server) server.denials) server.denials in
    with_robots (with_journal (with_faults denied server) server.journal) server.robots_faults

-- the whole page
abbrev pub metrics_text : Counts → ServerCounts → Load → List ℕ
metrics_text counts server load = with_load (with_server (with_counts [] counts) server) load
