-- What the program's arguments may ask for: each option is in its range, and is
-- the one matched under its own name. docs/crawlgate.1.md has the ranges.
use Rattle.std.specs.Prelude.{◌≡◌, ◌≤◌, ◌⊎◌, ℕ, ◌^◌, ◌-◌, IfSome, List, Option, Some, None, String, codes, string_bytes}
use Rattle.std.specs.declared.alloc.Global.{Global}
use Rattle.clap.specs.Words.{first_value, one_text}
use Rattle.clap.specs.declared.parser.matches.Found.{Found}
use Rattle.program_arguments.specs.declared.subcommand.Ahead.{Ahead}
use Rattle.program_arguments.specs.declared.subcommand.Ahead.TheVariants as aheads
use Rattle.program_arguments.specs.declared.subcommand.BadJobs.{BadJobs}
use Rattle.program_arguments.specs.declared.subcommand.BadJobs.TheVariants as bad_jobs
use Rattle.program_arguments.specs.declared.subcommand.CheckOptions.{CheckOptions}
use Rattle.program_arguments.specs.declared.subcommand.CheckedText.{CheckedText}
use Rattle.program_arguments.specs.declared.subcommand.CheckedText.TheVariants.{Input, File}
use Rattle.program_arguments.specs.Blocks.{AreBlocksOf}
use Rattle.program_arguments.specs.Contacts.{IsAllowedContact, IsContactOf}
use Rattle.program_arguments.specs.Journals.{IsJournalOf, IsRoom}
use Rattle.program_arguments.specs.Numbers.{IsBoundOf, IsBoundWithin, IsNumberOf}
use Rattle.program_arguments.specs.Tls.{IsLoopback, IsTlsByOf}
use Rattle.program_arguments.specs.declared.subcommand.Notes.{Notes}
use Rattle.program_arguments.specs.declared.subcommand.Notes.TheVariants as notes
use Rattle.program_arguments.specs.declared.subcommand.HttpOptions.{HttpOptions}
use Rattle.program_arguments.specs.declared.subcommand.ClientFields.{ClientFields}
use Rattle.program_arguments.specs.declared.subcommand.ClientFields.TheVariants.{Dropped, Forwarded}
use Rattle.program_arguments.specs.declared.subcommand.PageConnections.{PageConnections}
use Rattle.program_arguments.specs.declared.subcommand.PageConnections.TheVariants.{Kept, Single}
use Rattle.program_arguments.specs.declared.subcommand.RetryAfter.{RetryAfter}
use Rattle.program_arguments.specs.declared.subcommand.RetryAfter.TheVariants.{Heeded, Ignored}
use Rattle.program_arguments.specs.declared.subcommand.ListenAddress.{ListenAddress}
use Rattle.program_arguments.specs.declared.subcommand.ListenAddress.TheVariants as places
use Rattle.program_arguments.specs.declared.subcommand.ReplayOptions.{ReplayOptions}
use Rattle.program_arguments.specs.declared.subcommand.ServeOptions.{ServeOptions}
use Rattle.program_arguments.specs.declared.subcommand.ShiftOptions.{ShiftOptions}
use Rattle.program_arguments.specs.declared.subcommand.Subcommand.{Subcommand}
use Rattle.program_arguments.specs.declared.subcommand.Subcommand.TheVariants.{Replay, Export, Lines, Check, Audit, Shift, Serve}
use Rattle.program_arguments.specs.declared.fetching.Fetching.{Fetching}
use Rattle.program_arguments.specs.declared.http.HttpNumbers.{HttpNumbers}
use Rattle.program_arguments.specs.declared.numbers.ClientBounds.{ClientBounds}
use Rattle.program_arguments.specs.declared.numbers.ServeNumbers.{ServeNumbers}
use Rattle.program_arguments.specs.declared.numbers.ShiftNumbers.{ShiftNumbers}
use Rattle.program_arguments.specs.declared.places.ServePlaces.{ServePlaces}
use Rattle.program_arguments.specs.declared.words.Chosen.{Chosen}
use Rattle.program_arguments.specs.declared.words.Chosen.TheVariants.{Taken, Refused}
use Rattle.program_arguments.specs.declared.subcommand.CheckDetail.{CheckDetail}
use Rattle.program_arguments.specs.declared.subcommand.CheckDetail.TheVariants.{Plain, Explained}
use Rattle.client_connections.specs.Accepts.{AreServed}
use Rattle.client_connections.specs.Ahead.{IsAhead}
use Rattle.client_connections.specs.Waiting.{IsPatience}
use Rattle.client_connections.specs.declared.connections.Connections.{Connections}
use Rattle.client_connections.specs.declared.connections.Connections.TheVariants.{AtMost, Endless}
use Rattle.gate_core.specs.Limits.{AreLimits, most_authorities, most_entries}
use Rattle.job_line.specs.Limits.{IsCrew}
use Rattle.permit_book.specs.Numbers.{most_slots}
use Rattle.robots_text.specs.Lines.{text_limit}
use Rattle.path_normal.specs.declared.schemes.Schemes.{Schemes}
use Rattle.path_normal.specs.declared.schemes.Schemes.TheVariants.{Http, HttpAndHttps}
use Rattle.gate_core.specs.declared.config.Limits.{Limits}
use Rattle.http_client.specs.TimeLimits.{AreOfSeconds, AreWithin}
use Rattle.http_client.specs.declared.reach.Reach.{Reach}
use Rattle.http_client.specs.declared.reach.Reach.TheVariants.{Anywhere, PublicOnly}
use Rattle.http_client.specs.declared.time_limits.TimeLimits.{TimeLimits}

-- the seconds allowed between the starts of two fetches at a site: up to ten minutes
abbrev pub IsDelay : ℕ → Type 0
IsDelay seconds = seconds ≤ 600

-- the seconds for which a network fault keeps a site closed, if they are set: a minute to a day
abbrev pub IsRetry : Option ℕ → Type 0
IsRetry seconds = IsBoundWithin 60 86400 seconds

-- a shift has as many workers as may share it and pauses within the limit, its book's limits are in range, its
-- fetches take no longer than those of crawlers, and the program that opens TLS is on this machine
pub record AreForShift (options : ShiftOptions) : Type 0 where
  pub crew : IsCrew options.workers
  pub delay : IsDelay options.delay
  pub limits : AreLimits options.limits
  pub times : AreWithin options.times
  pub tls : IfSome options.tls_by IsLoopback
  pub contact : IsAllowedContact options.contact
  pub retry_closed : IsRetry options.retry_closed
  pub journal : IfSome options.journal (λ journal. IsRoom journal.room)

-- the gate's time for lines sent ahead is within the limit
abbrev pub IsAllowedAhead : Ahead → Type 0
IsAllowedAhead aheads.Unbounded = Unit {0}
IsAllowedAhead (aheads.Seconds seconds) = IsAhead seconds

-- what one client may have out, make known and enter, if it is bounded: no more than all clients together
pub record AreBoundsOfClients (permits authorities entries : Option ℕ) : Type 0 where
  pub permits_in : IsBoundWithin 1 most_slots permits
  pub authorities_in : IsBoundWithin 1 most_authorities authorities
  pub entries_in : IsBoundWithin 1 most_entries entries

-- the octets of robots texts that are kept, if they are bounded: one of the longest fits, and they are no more than a
-- file may have
abbrev pub AreTexts : Option ℕ → Type 0
AreTexts texts = IsBoundWithin text_limit (2 ^ 63 - 1) texts

-- the octets that are read of a page: at least one, and at most 64 MiB
abbrev pub IsPageLimit : ℕ → Type 0
IsPageLimit limit = (1 ≤ limit) × (limit ≤ 67108864)

-- how HTTP clients are served is in range
pub record AreHttpWithin (http : HttpOptions) : Type 0 where
  pub connections : (1 ≤ http.connections) × (http.connections ≤ 10000)
  pub fetchers : (1 ≤ http.fetchers) × (http.fetchers ≤ 1024)
  pub delay : http.delay ≤ 600

-- a server's workers, connections and patience are within their limits, and so are the bounds of its clients; its
-- book's limits and its fetches are as for a shift
pub record AreForServe (options : ServeOptions) : Type 0 where
  pub crew : IsCrew options.workers
  pub connections : AreServed options.connections
  pub limits : AreLimits options.limits
  pub times : AreWithin options.times
  pub tls : IfSome options.tls_by IsLoopback
  pub contact : IsAllowedContact options.contact
  pub retry_closed : IsRetry options.retry_closed
  pub patience : IsPatience options.patience
  pub ahead : IsAllowedAhead options.ahead
  pub bounds : AreBoundsOfClients options.client_permits options.client_authorities options.client_entries
  pub texts : AreTexts options.texts
  pub page_limit : IsPageLimit options.page_limit
  pub journal : IfSome options.journal (λ journal. IsRoom journal.room)
  pub http : IfSome options.http AreHttpWithin

-- the TLS program of what fetches is on this machine, its contact can be a comment, and its seconds for closed sites
-- and its journal's room are in range
pub record AreForFetching (options : Fetching) : Type 0 where
  pub tls : IfSome options.tls_by IsLoopback
  pub contact : IsAllowedContact options.contact
  pub retry_closed : IsRetry options.retry_closed
  pub journal : IfSome options.journal (λ journal. IsRoom journal.room)

-- the subcommand's options are in their ranges
abbrev pub IsInRange : Subcommand → Type 0
IsInRange (Replay options) = AreLimits options.limits
IsInRange (Export options) = AreLimits options.limits
IsInRange (Lines notes) = Unit {0}
IsInRange (Check options) = Unit {0}
IsInRange (Audit schemes) = Unit {0}
IsInRange (Shift options) = AreForShift options
IsInRange (Serve options) = AreForServe options

-- a taken subcommand's options are in range
abbrev pub IsChosen : Chosen → Type 0
IsChosen (Taken subcommand) = IsInRange subcommand
IsChosen (Refused reason) = Unit {0}

-- the book's limits but its first generation are those matched, each under its own name
pub record AreLimitsOf (words : Found) (limits : Limits) : Type 0 where
  pub slots : IsNumberOf words (codes "slots") limits.slots
  pub log : IsNumberOf words (codes "log") limits.log_limit
  pub authorities : IsNumberOf words (codes "authorities") limits.authority_limit
  pub places : IsNumberOf words (codes "places") limits.places

-- the time limits are the seconds matched, each under its own name
pub record AreTimesOf (words : Found) (times : TimeLimits) : Type 0 where
  pub connect : ℕ
  pub step : ℕ
  pub whole : ℕ
  pub connect_is : IsNumberOf words (codes "connect-timeout") connect
  pub step_is : IsNumberOf words (codes "read-timeout") step
  pub whole_is : IsNumberOf words (codes "fetch-timeout") whole
  pub are : AreOfSeconds connect step whole times

-- fetches reach only public internet addresses if the flag says so, else all
pub record IsReachOf (words : Found) (reach : Reach) : Type 0 where
  pub public : one_text words (codes "public") ≡ Some (codes "true") → reach ≡ PublicOnly
  pub anywhere : one_text words (codes "public") ≡ Some (codes "false") → reach ≡ Anywhere

-- connections stay open for the next page if the flag says so, else each page has its own
pub record ArePageConnectionsOf (words : Found) (connections : PageConnections) : Type 0 where
  pub kept : one_text words (codes "keep-alive") ≡ Some (codes "true") → connections ≡ Kept
  pub single : one_text words (codes "keep-alive") ≡ Some (codes "false") → connections ≡ Single

-- pages of `https` are read too if the flag says so
pub record AreSchemesOf (words : Found) (schemes : Schemes) : Type 0 where
  pub both : one_text words (codes "https") ≡ Some (codes "true") → schemes ≡ HttpAndHttps
  pub http : one_text words (codes "https") ≡ Some (codes "false") → schemes ≡ Http

-- notes are told if the flag says so
pub record AreNotesOf (words : Found) (asked : Notes) : Type 0 where
  pub told : one_text words (codes "notes") ≡ Some (codes "true") → asked ≡ notes.Told
  pub untold : one_text words (codes "notes") ≡ Some (codes "false") → asked ≡ notes.Untold

-- lines that are no jobs are skipped if the flag says so, else end the shift
pub record AreBadJobsOf (words : Found) (asked : BadJobs) : Type 0 where
  pub skip : one_text words (codes "skip") ≡ Some (codes "true") → asked ≡ bad_jobs.Skip
  pub end : one_text words (codes "skip") ≡ Some (codes "false") → asked ≡ bad_jobs.End

-- the pipe is the one that was matched, if any
abbrev pub IsPipeOf : Found → Option (String Global) → Type 0
IsPipeOf words None = first_value words (codes "until") ≡ None
IsPipeOf words (Some path) = first_value words (codes "until") ≡ Some (string_bytes path)

-- the numbers of a shift are in their ranges
pub record AreShiftNumbers (numbers : ShiftNumbers) : Type 0 where
  pub crew : IsCrew numbers.workers
  pub delay : IsDelay numbers.delay
  pub limits : AreLimits numbers.limits
  pub times : AreWithin numbers.times

-- the numbers of a shift are those matched
pub record AreShiftNumbersOf (words : Found) (numbers : ShiftNumbers) : Type 0 where
  pub workers : IsNumberOf words (codes "workers") numbers.workers
  pub delay : IsNumberOf words (codes "delay") numbers.delay
  pub limits : AreLimitsOf words numbers.limits
  pub times : AreTimesOf words numbers.times

-- the options of what fetches are those matched
pub record AreFetchingOf (words : Found) (options : Fetching) : Type 0 where
  pub reach : IsReachOf words options.reach
  pub not_to : AreBlocksOf words options.not_to.items
  pub tls : IsTlsByOf words options.tls_by
  pub contact : IsContactOf words options.contact
  pub retry_closed : IsBoundOf words (codes "retry-closed") options.retry_closed
  pub page_connections : ArePageConnectionsOf words options.page_connections
  pub journal : IsJournalOf words options.journal

-- the options of a shift are those matched
pub record AreShiftOf (words : Found) (options : ShiftOptions) : Type 0 where
  pub reach : IsReachOf words options.reach
  pub not_to : AreBlocksOf words options.not_to.items
  pub tls : IsTlsByOf words options.tls_by
  pub contact : IsContactOf words options.contact
  pub retry_closed : IsBoundOf words (codes "retry-closed") options.retry_closed
  pub page_connections : ArePageConnectionsOf words options.page_connections
  pub workers : IsNumberOf words (codes "workers") options.workers
  pub delay : IsNumberOf words (codes "delay") options.delay
  pub limits : AreLimitsOf words options.limits
  pub times : AreTimesOf words options.times
  pub skips : AreBadJobsOf words options.bad_jobs
  pub until : IsPipeOf words options.until
  pub journal : IsJournalOf words options.journal

-- the limit is the number matched under its own name
abbrev pub AreCounted : Found → Connections → Type 0
AreCounted words (AtMost count) = IsNumberOf words (codes "connections") count
AreCounted words Endless = ⊥

-- the connections are unlimited if the flag says so, else as many as matched
pub record AreConnectionsOf (words : Found) (connections : Connections) : Type 0 where
  pub endless : one_text words (codes "endless") ≡ Some (codes "true") → connections ≡ Endless
  pub counted : one_text words (codes "endless") ≡ Some (codes "false") → AreCounted words connections

-- clients connect at the matched socket, else at the port
abbrev pub IsPlaceOf : Found → ListenAddress → Type 0
IsPlaceOf words (places.Port port) = (first_value words (codes "socket") ≡ None) × IsNumberOf words (codes "port") port
IsPlaceOf words (places.Socket path) = first_value words (codes "socket") ≡ Some (string_bytes path)

-- clients connect at the socket of this path
abbrev pub IsSocketAt : List ℕ → ListenAddress → Type 0
IsSocketAt text (places.Port port) = ⊥
IsSocketAt text (places.Socket path) = text ≡ string_bytes path

-- overseers connect at the matched socket, else at the matched port
abbrev pub IsSealPlaceBy : Found → ListenAddress → Type 0
IsSealPlaceBy words (places.Port port) =
    (first_value words (codes "seal-socket") ≡ None) × IsNumberOf words (codes "seal-port") port
IsSealPlaceBy words (places.Socket path) = first_value words (codes "seal-socket") ≡ Some (string_bytes path)

-- overseers have a place of their own if one was matched
abbrev pub IsSealPlaceOf : Found → Option ListenAddress → Type 0
IsSealPlaceOf words None =
    (first_value words (codes "seal-socket") ≡ None) × (first_value words (codes "seal-port") ≡ None)
IsSealPlaceOf words (Some place) = IsSealPlaceBy words place

-- HTTP clients connect at the matched socket, else at the matched port
abbrev pub IsHttpPlaceBy : Found → ListenAddress → Type 0
IsHttpPlaceBy words (places.Port port) =
    (first_value words (codes "http-socket") ≡ None) × IsNumberOf words (codes "http") port
IsHttpPlaceBy words (places.Socket path) = first_value words (codes "http-socket") ≡ Some (string_bytes path)

-- HTTP clients have a place if one was matched
abbrev pub IsHttpPlaceOf : Found → Option ListenAddress → Type 0
IsHttpPlaceOf words None = (first_value words (codes "http-socket") ≡ None) × (first_value words (codes "http") ≡ None)
IsHttpPlaceOf words (Some place) = IsHttpPlaceBy words place

-- clients, overseers and HTTP clients connect where the options say
pub record ArePlacesOf (words : Found) (places : ServePlaces) : Type 0 where
  pub clients : IsPlaceOf words places.clients
  pub overseers : IsSealPlaceOf words places.overseers
  pub http : IsHttpPlaceOf words places.http

-- the numbers for HTTP clients are in their ranges
pub record AreHttpNumbers (numbers : HttpNumbers) : Type 0 where
  pub connections : IsBoundWithin 1 10000 numbers.connections
  pub fetchers : IsBoundWithin 1 1024 numbers.fetchers
  pub delay : IsBoundWithin 0 600 numbers.delay

-- the numbers for HTTP clients are those matched
pub record AreHttpNumbersOf (words : Found) (numbers : HttpNumbers) : Type 0 where
  pub connections : IsBoundOf words (codes "http-connections") numbers.connections
  pub fetchers : IsBoundOf words (codes "fetchers") numbers.fetchers
  pub delay : IsBoundOf words (codes "delay") numbers.delay

-- the number matched under this name; without it the usual one
abbrev pub IsNumberOr : Found → List ℕ → ℕ → ℕ → Type 0
IsNumberOr words name usual number =
    IsNumberOf words name number ⊎ ((first_value words name ≡ None) × (number ≡ usual))

-- a site's Retry-After is heeded if the flag says so
pub record IsRetryAfterOf (words : Found) (retry_after : RetryAfter) : Type 0 where
  pub heeded : one_text words (codes "heed-retry-after") ≡ Some (codes "true") → retry_after ≡ Heeded
  pub ignored : one_text words (codes "heed-retry-after") ≡ Some (codes "false") → retry_after ≡ Ignored

-- fields of a client's request go to the site if the flag says so
pub record AreClientFieldsOf (words : Found) (fields : ClientFields) : Type 0 where
  pub forwarded : one_text words (codes "forward") ≡ Some (codes "true") → fields ≡ Forwarded
  pub dropped : one_text words (codes "forward") ≡ Some (codes "false") → fields ≡ Dropped

-- HTTP clients are served as matched; without a number as many threads fetch as there are workers
pub record AreHttpOf (words : Found) (workers : ℕ) (http : HttpOptions) : Type 0 where
  pub place : IsHttpPlaceBy words http.place
  pub connections : IsNumberOr words (codes "http-connections") 1024 http.connections
  pub fetchers : IsNumberOr words (codes "fetchers") workers http.fetchers
  pub delay : IsNumberOr words (codes "delay") 0 http.delay
  pub retry_after : IsRetryAfterOf words http.retry_after
  pub fields : AreClientFieldsOf words http.fields

-- HTTP clients are served if a place was matched; without one nothing else was matched for them
abbrev pub IsHttpOf : Found → ℕ → Option HttpOptions → Type 0
IsHttpOf words workers None =
    IsHttpPlaceOf words None
    × ((first_value words (codes "http-connections") ≡ None) × (first_value words (codes "fetchers") ≡ None)
    × (first_value words (codes "delay") ≡ None) × IsRetryAfterOf words Ignored
    × AreClientFieldsOf words Dropped)
IsHttpOf words workers (Some http) = AreHttpOf words workers http

-- the seconds are the number matched, else unlimited
abbrev pub IsAheadOf : Found → Ahead → Type 0
IsAheadOf words aheads.Unbounded = first_value words (codes "ahead") ≡ None
IsAheadOf words (aheads.Seconds seconds) = IsNumberOf words (codes "ahead") seconds

-- what one client of a server may have is within the limits
pub record AreClientBounds (bounds : ClientBounds) : Type 0 where
  pub patience : IsPatience bounds.patience
  pub ahead : IsAllowedAhead bounds.ahead
  pub bounds_in : AreBoundsOfClients bounds.client_permits bounds.client_authorities bounds.client_entries

-- what one client of a server may have is as matched
pub record AreClientBoundsOf (words : Found) (bounds : ClientBounds) : Type 0 where
  pub patience : IsNumberOf words (codes "patience") bounds.patience
  pub ahead : IsAheadOf words bounds.ahead
  pub client_permits : IsBoundOf words (codes "client-permits") bounds.client_permits
  pub client_authorities : IsBoundOf words (codes "client-authorities") bounds.client_authorities
  pub client_entries : IsBoundOf words (codes "client-entries") bounds.client_entries

-- the numbers of a server are in their ranges
pub record AreServeNumbers (numbers : ServeNumbers) : Type 0 where
  pub crew : IsCrew numbers.workers
  pub connections : AreServed numbers.connections
  pub limits : AreLimits numbers.limits
  pub times : AreWithin numbers.times
  pub texts : AreTexts numbers.texts
  pub page_limit : IsPageLimit numbers.page_limit
  pub http : AreHttpNumbers numbers.http
  pub clients : AreClientBounds numbers.clients

-- the numbers of a server are those matched
pub record AreServeNumbersOf (words : Found) (numbers : ServeNumbers) : Type 0 where
  pub workers : IsNumberOf words (codes "workers") numbers.workers
  pub connections : AreConnectionsOf words numbers.connections
  pub limits : AreLimitsOf words numbers.limits
  pub times : AreTimesOf words numbers.times
  pub texts : IsBoundOf words (codes "texts") numbers.texts
  pub page_limit : IsNumberOf words (codes "page-limit") numbers.page_limit
  pub http : AreHttpNumbersOf words numbers.http
  pub clients : AreClientBoundsOf words numbers.clients

-- the options of a server are those matched
pub record AreServeOf (words : Found) (options : ServeOptions) : Type 0 where
  pub reach : IsReachOf words options.reach
  pub not_to : AreBlocksOf words options.not_to.items
  pub tls : IsTlsByOf words options.tls_by
  pub contact : IsContactOf words options.contact
  pub retry_closed : IsBoundOf words (codes "retry-closed") options.retry_closed
  pub page_connections : ArePageConnectionsOf words options.page_connections
  pub place : IsPlaceOf words options.place
  pub seal_place : IsSealPlaceOf words options.seal_place
  pub http : IsHttpOf words options.workers options.http
  pub workers : IsNumberOf words (codes "workers") options.workers
  pub connections : AreConnectionsOf words options.connections
  pub limits : AreLimitsOf words options.limits
  pub times : AreTimesOf words options.times
  pub texts : IsBoundOf words (codes "texts") options.texts
  pub page_limit : IsNumberOf words (codes "page-limit") options.page_limit
  pub patience : IsNumberOf words (codes "patience") options.patience
  pub ahead : IsAheadOf words options.ahead
  pub client_permits : IsBoundOf words (codes "client-permits") options.client_permits
  pub client_authorities : IsBoundOf words (codes "client-authorities") options.client_authorities
  pub client_entries : IsBoundOf words (codes "client-entries") options.client_entries
  pub journal : IsJournalOf words options.journal

-- the options of a replay are those matched
pub record AreReplayOf (words : Found) (options : ReplayOptions) : Type 0 where
  pub limits_are : AreLimitsOf words options.limits
  pub generation : IsNumberOf words (codes "generation") options.limits.first_generation
  pub schemes_are : AreSchemesOf words options.schemes

-- the robots text is the file matched under `robots`, else the input
abbrev pub IsTextOf : Found → CheckedText → Type 0
IsTextOf words Input = first_value words (codes "robots") ≡ None
IsTextOf words (File name) = first_value words (codes "robots") ≡ Some (string_bytes name)

-- answers are explained if the flag says so
pub record IsDetailOf (words : Found) (detail : CheckDetail) : Type 0 where
  pub explained : one_text words (codes "explain") ≡ Some (codes "true") → detail ≡ Explained
  pub plain : one_text words (codes "explain") ≡ Some (codes "false") → detail ≡ Plain

-- a check's options but its token and its URLs are those matched
pub record AreCheckOf (words : Found) (options : CheckOptions) : Type 0 where
  pub text : IsTextOf words options.text
  pub detail : IsDetailOf words options.detail

-- the subcommand's options are those matched, each under its own name
abbrev pub IsSetBy : Found → Subcommand → Type 0
IsSetBy words (Replay options) = AreReplayOf words options
IsSetBy words (Export options) = AreReplayOf words options
IsSetBy words (Lines asked) = AreNotesOf words asked
IsSetBy words (Check options) = AreCheckOf words options
IsSetBy words (Audit schemes) = AreSchemesOf words schemes
IsSetBy words (Shift options) = AreShiftOf words options
IsSetBy words (Serve options) = AreServeOf words options

-- a taken subcommand's options are those matched
abbrev pub IsChosenBy : Found → Chosen → Type 0
IsChosenBy words (Taken subcommand) = IsSetBy words subcommand
IsChosenBy words (Refused reason) = Unit {0}
