-- A book's answers to lines: texts of replies that the calls may have.
-- Cited by `replay` and `replay_among`.
use Rattle.std.specs.Prelude.{◌≡◌, ◌⊎◌, ℕ, Bool, true, false, List, Result, Ok, Err}
use Rattle.path_normal.specs.Capacity.{Enough, Overflows, Refused}
use Rattle.path_normal.specs.declared.schemes.Schemes.{Schemes}
use Rattle.path_normal.specs.declared.schemes.Schemes.TheVariants.{Http}
use Rattle.authority_cache.specs.Lives.{Timed}
use Rattle.gate_history.specs.Segment.{Sealed}
use Rattle.gate_core.specs.declared.call.Call.{Call}
use Rattle.gate_core.specs.declared.call.Call.TheVariants as calls
use Rattle.gate_core.specs.declared.call.Reply.{Reply}
use Rattle.gate_core.specs.declared.refusal.NoMemory.{NoMemory}
use Rattle.gate_core.specs.declared.state.State.{State}
use Rattle.gate_core.specs.Gate.{Gate, history, Stays}
use Rattle.gate_core.specs.Headline.{IsTold}
use Rattle.gate_core.specs.Calls.{Step}
use Rattle.gate_core.specs.Replies.{moment_at}
use Rattle.gate_core.specs.Sealing.{Seals}
use Rattle.gate_core.specs.States.{IsState}
use Rattle.command_lines.specs.declared.command.Command.{Command}
use Rattle.command_lines.specs.declared.command.Command.TheVariants as commands
use Rattle.command_lines.specs.declared.fault.LineFault.{LineFault}
use Rattle.command_lines.specs.declared.fault.LineFault.TheVariants as faults
use Rattle.command_lines.specs.declared.verbs.Dialogue.TheVariants.{Replay}
use Rattle.command_lines.specs.declared.arrival.Arrival.{Arrival}
use Rattle.command_lines.specs.Arrival.{BringsAmong}
use Rattle.command_lines.specs.CallOf.{command_of}
use Rattle.command_lines.specs.FaultText.{line_fault_text}
use Rattle.command_lines.specs.SealText.{seal_text}
use Rattle.command_lines.specs.ReplyText.{bye_text, reply_text, state_text}

-- the text is a reply that the call may have, says what the headline says, and leads to the new gate
pub record AnswersCall (old : Gate) (call : Call) (text : List ℕ) (new : Gate) : Type 0 where
  pub reply : Reply
  pub step : Step old call reply new
  pub told : IsTold (history old) call reply
  pub text_is : text ≡ reply_text reply

-- the text is what is known of the authority; no change
abbrev pub AnswersState : Gate → List ℕ → ℕ → List ℕ → Gate → Type 0
AnswersState old authority m text new =
    (state : State) × (IsState (history old) authority (moment_at old m) state
    × ((text ≡ state_text authority state) × Stays old new))

-- the replies' answer is brought to the gate, or the text is a fault and nothing changes
abbrev pub AnswersBrought : Gate → Arrival → Result Timed LineFault → List ℕ → Gate → Type 0
AnswersBrought old arrival (Ok brought) text new =
    AnswersCall old (calls.Arrive arrival.authority arrival.turn brought arrival.moment) text new
AnswersBrought old arrival (Err fault) text new = (text ≡ line_fault_text fault) × Stays old new

-- the text answers what an arrival's replies bring in these schemes: an answer or a fault
abbrev pub AnswersArrival : Schemes → Gate → Arrival → List ℕ → Gate → Type 0
AnswersArrival schemes old arrival text new =
    (brought : Result Timed LineFault) × (BringsAmong schemes arrival.authority arrival.replies brought
    × AnswersBrought old arrival brought text new)

-- the text of what was sealed
abbrev pub AnswersSeal : Gate → List ℕ → Gate → Type 0
AnswersSeal old text new = (result : Result Sealed NoMemory) × (Seals old result new × (text ≡ seal_text result))

-- a verb that no line of a replay has
abbrev pub AnswersNoVerb : Gate → List ℕ → Bool → Gate → Type 0
AnswersNoVerb old text ended new = (text ≡ line_fault_text faults.Verb) × (ended ≡ false) × Stays old new

-- the answer to a command: a call's reply, a farewell that ends the session for QUIT, or a fault; only calls change
-- anything
abbrev pub AnswersCommand : Schemes → Gate → Result Command LineFault → List ℕ → Bool → Gate → Type 0
AnswersCommand schemes old (Ok (commands.Call call)) text ended new = AnswersCall old call text new × (ended ≡ false)
AnswersCommand schemes old (Ok (commands.Arrive arrival)) text ended new =
    AnswersArrival schemes old arrival text new × (ended ≡ false)
AnswersCommand schemes old (Ok (commands.State authority m)) text ended new =
    AnswersState old authority m text new × (ended ≡ false)
AnswersCommand schemes old (Ok commands.Seal) text ended new = AnswersSeal old text new × (ended ≡ false)
AnswersCommand schemes old (Ok (commands.Refresh authority)) text ended new = AnswersNoVerb old text ended new
AnswersCommand schemes old (Ok (commands.Fetch job)) text ended new = AnswersNoVerb old text ended new
AnswersCommand schemes old (Ok (commands.Url url)) text ended new = AnswersNoVerb old text ended new
AnswersCommand schemes old (Ok commands.Info) text ended new = AnswersNoVerb old text ended new
AnswersCommand schemes old (Ok (commands.Why authority)) text ended new = AnswersNoVerb old text ended new
AnswersCommand schemes old (Ok commands.Quit) text ended new = (text ≡ bye_text) × (ended ≡ true) × Stays old new
AnswersCommand schemes old (Err fault) text ended new = (text ≡ line_fault_text fault) × (ended ≡ false) × Stays old new

-- the answer to a line in these schemes: what it means with enough capacity; or, with too little, the fault of the
-- word that needs more, and no change
abbrev pub AnswersLineAmong : Schemes → Gate → List ℕ → List ℕ → Bool → Gate → Type 0
AnswersLineAmong schemes old line text ended new =
    AnswersCommand schemes old (command_of schemes Replay line Enough) text ended new
    ⊎ AnswersCommand schemes old (command_of schemes Replay line Overflows) text ended new
    ⊎ AnswersCommand schemes old (command_of schemes Replay line Refused) text ended new

-- the answer to a line for `http`
abbrev pub AnswersLine : Gate → List ℕ → List ℕ → Bool → Gate → Type 0
AnswersLine = AnswersLineAmong Http
