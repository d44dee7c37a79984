-- What a keeper does for a client's line, and the reply.
-- Cited by `serve`.
use Rattle.std.specs.Prelude.{◌≡◌, ◌⊎◌, ◌||◌, ℕ, Bool, true, false, List, Option, Some, None, IfSome, Result, Ok, Err}
use Rattle.path_normal.specs.Capacity.{Enough, Overflows, Refused}
use Rattle.gate_history.specs.Segment.{Sealed}
use Rattle.gate_core.specs.declared.call.Call.{Call}
use Rattle.gate_core.specs.declared.call.Call.TheVariants as calls
use Rattle.gate_core.specs.declared.refusal.BeginRefusal.{BeginRefusal}
use Rattle.gate_core.specs.declared.refusal.NoMemory.{NoMemory}
use Rattle.gate_core.specs.declared.state.Standing.{Standing}
use Rattle.gate_core.specs.declared.state.State.{State}
use Rattle.crawl_job.specs.declared.job.Outcome.{Outcome}
use Rattle.keepers.specs.Deals.{Deals}
use Rattle.command_lines.specs.CallOf.{command_of}
use Rattle.command_server.specs.FirstLines.{is_turned_away}
use Rattle.command_lines.specs.Limits.{max_client_line, max_lines}
use Rattle.command_server.specs.Readings.{next_reading}
use Rattle.command_lines.specs.Session.{Session}
use Rattle.command_server.specs.ClientReplyText.{client_reply_text}
use Rattle.command_server.specs.WhyReply.{is_closed}
use Rattle.command_lines.specs.declared.command.Command.{Command}
use Rattle.command_lines.specs.declared.command.Command.TheVariants as commands
use Rattle.command_lines.specs.declared.fault.LineFault.{LineFault}
use Rattle.command_lines.specs.declared.fault.LineFault.TheVariants as faults
use Rattle.command_server.specs.declared.first_line.FirstLine.{FirstLine}
use Rattle.command_lines.specs.declared.session_fault.SessionFault.{SessionFault}
use Rattle.command_server.specs.declared.client_reply.ClientReply.{ClientReply}
use Rattle.command_server.specs.declared.client_reply.ClientReply.TheVariants as replies
use Rattle.command_lines.specs.declared.verbs.Speaker.{Speaker}
use Rattle.command_lines.specs.Verbs.{dialogue_of}

-- the reply to a refresh: unknown verb if the keeper fetches nothing
abbrev pub refreshed : List ℕ → Option (Result Standing BeginRefusal) → ClientReply
refreshed authority (Some result) = replies.Refreshed authority result
refreshed authority None = replies.Fault faults.Verb

-- the reply to a fetch
abbrev pub fetched : Option (Result Outcome NoMemory) → ClientReply
fetched (Some (Ok outcome)) = replies.Fetched outcome
fetched (Some (Err _)) = replies.NoMemory
fetched None = replies.Fault faults.Verb

-- the farewell ends the session
abbrev pub is_farewell : ClientReply → Bool
is_farewell replies.Bye = true
is_farewell _ = false

-- a client's session between two lines: its keeper, and the next reading's number
pub record ClientState (S : Type 0) : Type 0 where
  pub keeper : S
  pub number : ℕ

module _ {S : Type 0} (deals : Deals S) where
  -- the reply is a fault; nothing is done
  abbrev pub TellsFault : S → LineFault → ClientReply → S → Type 0
  TellsFault old fault told new = (told ≡ replies.Fault fault) × (new ≡ old)

  -- the keeper makes a client's call, whose result is the reply; clients make no others
  abbrev pub DoesCall : S → Call → ClientReply → S → Type 0
  DoesCall old (calls.Ask token url m) (replies.Asked result) new = deals.asks old token url m result new
  DoesCall old (calls.Start number token url m) (replies.Started named result) new =
      (named ≡ number) × deals.starts old number token url m result new
  DoesCall old (calls.Back number) (replies.Returned named result) new =
      (named ≡ number) × deals.returns old number result new
  DoesCall old (calls.Finish number) (replies.Finished named result) new =
      (named ≡ number) × deals.finishes old number result new
  DoesCall old (calls.Begin authority m) told new = TellsFault old faults.Verb told new
  DoesCall old (calls.Arrive authority turn answer m) told new = TellsFault old faults.Verb told new
  DoesCall old (calls.Sweep m) told new = TellsFault old faults.Verb told new
  DoesCall old _ _ new = ⊥

  -- the reply to INFO tells what the keeper counts, beside what its server counted
  abbrev pub TellsCounts : S → ClientReply → Type 0
  TellsCounts old (replies.Counted info) = deals.counts old info.now.gate
  TellsCounts old _ = ⊥

  -- the reply to WHY tells the keeper's answer of the authority, and what closed its site only if it is closed
  abbrev pub Explains : S → List ℕ → ClientReply → Type 0
  Explains old authority (replies.Explained named result closed_by) =
      (named ≡ authority) × deals.answers old authority result × IfSome closed_by (λ by. is_closed result ≡ true)
  Explains old authority _ = ⊥

  -- the keeper does a command, whose result is the reply; a line with a fault does nothing
  abbrev pub DoesCommand : (ℕ → Type 0) → S → Result Command LineFault → ClientReply → S → Type 0
  DoesCommand reads old (Ok (commands.Call call)) told new = DoesCall old call told new
  DoesCommand reads old (Ok (commands.Arrive arrival)) told new = TellsFault old faults.Verb told new
  DoesCommand reads old (Ok (commands.State authority m)) told new =
      (state : State) × (deals.reads old authority m state new × (told ≡ replies.Known authority state))
  DoesCommand reads old (Ok commands.Seal) told new =
      (result : Result Sealed NoMemory) × (deals.seals old result new × (told ≡ replies.Sealed result))
  DoesCommand reads old (Ok (commands.Refresh authority)) told new =
      (result : Option (Result Standing BeginRefusal))
      × (deals.refreshes reads old authority result new × (told ≡ refreshed authority result))
  DoesCommand reads old (Ok (commands.Fetch job)) told new =
      (result : Option (Result Outcome NoMemory)) × (deals.fetches reads old job result new × (told ≡ fetched result))
  DoesCommand reads old (Ok (commands.Url url)) told new = (told ≡ replies.Written url) × (new ≡ old)
  DoesCommand reads old (Ok commands.Info) told new = TellsCounts old told × (new ≡ old)
  DoesCommand reads old (Ok (commands.Why authority)) told new = Explains old authority told × (new ≡ old)
  DoesCommand reads old (Ok commands.Quit) told new = deals.ends old new × (told ≡ replies.Bye)
  DoesCommand reads old (Err fault) told new = TellsFault old fault told new

  -- a line does what it means at this reading for its speaker, in the keeper's schemes, with enough capacity; or,
  -- with too little, gets the fault of the word that needs more. Its fetches read the clock anew, under the next
  -- number
  abbrev pub DoesRequest : Speaker → (ℕ → ℕ → Type 0) → ℕ → S → List ℕ → ClientReply → S → Type 0
  DoesRequest speaker reads number old line told new =
      (m : ℕ) × (reads number m
      × (DoesCommand (reads (next_reading number)) old
      (command_of (deals.schemes old) (dialogue_of speaker m (deals.can_fetch old)) line Enough) told new
      ⊎ DoesCommand (reads (next_reading number)) old
      (command_of (deals.schemes old) (dialogue_of speaker m (deals.can_fetch old)) line Overflows) told new
      ⊎ DoesCommand (reads (next_reading number)) old
      (command_of (deals.schemes old) (dialogue_of speaker m (deals.can_fetch old)) line Refused) told new))

  -- the text of the reply to a client's line. The session ends after a farewell, and after a first line that is
  -- turned away. Each line has its own readings
  abbrev pub AnswersClient : Speaker → FirstLine → (ℕ → ℕ → Type 0) → ClientState S → List ℕ → List ℕ → Bool
      → ClientState S → Type 0
  AnswersClient speaker first reads old line text ended new =
      (told : ClientReply) × (DoesRequest speaker reads old.number old.keeper line told new.keeper
      × ((text ≡ client_reply_text told) × (ended ≡ (is_turned_away first old.number line || is_farewell told))
      × (new.number ≡ next_reading (next_reading old.number))))

  -- a session of a client, and its end, whatever the session met
  pub record Serves (speaker : Speaker) (first : FirstLine) (reads : ℕ → ℕ → Type 0) (old new : S)
      (input left written written_new : Option (List ℕ)) (result : Result (Unit {0}) SessionFault) : Type 0 where
    pub last : ClientState S
    pub session : Session (AnswersClient speaker first reads) max_client_line max_lines
        (record { keeper = old; number = 0 }) last input left written written_new result
    pub ends : deals.ends last.keeper new
