-- What a command line means: checks 3 to 8 of docs/FORMATS.md, in their order.
-- Cited by `calls` and `command`. Schemes are the first argument.
use Rattle.std.specs.Prelude.{ℕ, Bool, List, [], ◌∷◌, Result, Ok, Err, ok_or, if◌then◌else◌}
use Rattle.std.specs.Int.{is_in_range}
use Rattle.std.specs.List.{list_all, list_any}
use Rattle.path_normal.specs.Capacity.{Capacity}
use Rattle.path_normal.specs.declared.schemes.Schemes.{Schemes}
use Rattle.gate_core.specs.Calls.{HasSpare}
use Rattle.gate_core.specs.declared.call.Call.{Call}
use Rattle.gate_core.specs.declared.call.Call.TheVariants as calls
use Rattle.command_lines.specs.declared.command.Command.{Command}
use Rattle.command_lines.specs.declared.command.Command.TheVariants as commands
use Rattle.command_lines.specs.declared.fault.LineFault.{LineFault}
use Rattle.command_lines.specs.declared.fault.LineFault.TheVariants as faults
use Rattle.command_lines.specs.declared.verbs.Dialogue.{Dialogue}
use Rattle.command_lines.specs.declared.verbs.Dialogue.TheVariants.{Client, Overseer, Replay}
use Rattle.command_lines.specs.declared.verbs.Verb.{Verb}
use Rattle.command_lines.specs.declared.verbs.Verb.TheVariants as verbs
use Rattle.command_lines.specs.Arguments.{authority_word, number_word, page_word, read_on, token_word}
use Rattle.command_lines.specs.Arrival.{reply_words_of}
use Rattle.command_lines.specs.declared.arrival.Arrival.{Arrival}
use Rattle.crawl_job.specs.declared.job.Job.{Job}
use Rattle.line_text.specs.Number.{number_of}
use Rattle.command_lines.specs.Verbs.{row_of, verb_of}
use Rattle.line_text.specs.Words.{is_count_within, is_empty_word, words_of}

-- an authority alone: `STATE <authority>` and `REFRESH <authority>`
abbrev pub authority_alone : Schemes → List (List ℕ) → Capacity → Result (List ℕ) LineFault
authority_alone schemes (authority ∷ []) capacity = authority_word schemes authority capacity
authority_alone schemes _ capacity = Err faults.Words

-- `BEGIN <authority>`
abbrev pub begin_of : Schemes → ℕ → List (List ℕ) → Capacity → Result Call LineFault
begin_of schemes moment words capacity =
    read_on (authority_alone schemes words capacity) (λ a. Ok (calls.Begin a moment))

-- `ARRIVE <authority> <turn> <reply> ..`
abbrev pub arrive_of : Schemes → ℕ → List (List ℕ) → Capacity → Result Arrival LineFault
arrive_of schemes moment (authority ∷ turn ∷ replies) capacity =
    read_on (authority_word schemes authority capacity) (λ a. read_on (number_word turn) (λ t.
    read_on (reply_words_of replies) (λ words.
    Ok (record { authority = a; turn = t; replies = words; moment = moment }))))
arrive_of schemes moment _ capacity = Err faults.Words

-- `FETCH <token> <url>`, and a job of a shift
abbrev pub job_words_of : Schemes → List (List ℕ) → Capacity → Result Job LineFault
job_words_of schemes (token ∷ url ∷ []) capacity =
    read_on (token_word token capacity) (λ t.
    read_on (page_word schemes url capacity) (λ u. Ok (record { token = t; url = u })))
job_words_of schemes _ capacity = Err faults.Words

-- `ASK <token> <url>`
abbrev pub ask_of : Schemes → ℕ → List (List ℕ) → Capacity → Result Call LineFault
ask_of schemes moment words capacity =
    read_on (job_words_of schemes words capacity) (λ job. Ok (calls.Ask job.token job.url moment))

-- `START <n> <token> <url>`
abbrev pub start_of : Schemes → ℕ → List (List ℕ) → Capacity → Result Call LineFault
start_of schemes moment (number ∷ token ∷ url ∷ []) capacity =
    read_on (number_word number) (λ n.
    read_on (job_words_of schemes (token ∷ url ∷ []) capacity) (λ job. Ok (calls.Start n job.token job.url moment)))
start_of schemes moment _ capacity = Err faults.Words

-- a permit's number alone
abbrev pub permit_alone : List (List ℕ) → Result ℕ LineFault
permit_alone (number ∷ []) = number_word number
permit_alone _ = Err faults.Words

-- `BACK <n>`
abbrev pub back_of : List (List ℕ) → Result Call LineFault
back_of words = read_on (permit_alone words) (λ n. Ok (calls.Back n))

-- `DONE <n>`
abbrev pub done_of : List (List ℕ) → Result Call LineFault
done_of words = read_on (permit_alone words) (λ n. Ok (calls.Finish n))

-- a page's URL alone: `URL <url>`
abbrev pub page_alone : Schemes → List (List ℕ) → Capacity → Result (List ℕ) LineFault
page_alone schemes (url ∷ []) capacity = page_word schemes url capacity
page_alone schemes _ capacity = Err faults.Words

-- the command that makes a call
abbrev pub calling : Result Call LineFault → Result Command LineFault
calling call = read_on call (λ c. Ok (commands.Call c))

-- a call's answer has a spare; only the walk brings one
abbrev pub CanBeMade : Command → Type 0
CanBeMade (commands.Call call) = HasSpare call
CanBeMade _ = Unit {0}

-- check 8: a verb's arguments, from left to right; BACK, DONE, SEAL and QUIT use no moment
abbrev pub arguments_of : Schemes → Verb → ℕ → List (List ℕ) → Capacity → Result Command LineFault
arguments_of schemes verbs.Begin moment words capacity = calling (begin_of schemes moment words capacity)
arguments_of schemes verbs.Arrive moment words capacity =
    read_on (arrive_of schemes moment words capacity) (λ arrival. Ok (commands.Arrive arrival))
arguments_of schemes verbs.Ask moment words capacity = calling (ask_of schemes moment words capacity)
arguments_of schemes verbs.Start moment words capacity = calling (start_of schemes moment words capacity)
arguments_of schemes verbs.Back moment words capacity = calling (back_of words)
arguments_of schemes verbs.Done moment words capacity = calling (done_of words)
arguments_of schemes verbs.State moment words capacity =
    read_on (authority_alone schemes words capacity) (λ authority. Ok (commands.State authority moment))
arguments_of schemes verbs.Sweep moment words capacity = Ok (commands.Call (calls.Sweep moment))
arguments_of schemes verbs.Seal moment words capacity = Ok commands.Seal
arguments_of schemes verbs.Refresh moment words capacity =
    read_on (authority_alone schemes words capacity) (λ authority. Ok (commands.Refresh authority))
arguments_of schemes verbs.Fetch moment words capacity =
    read_on (job_words_of schemes words capacity) (λ job. Ok (commands.Fetch job))
arguments_of schemes verbs.Url moment words capacity =
    read_on (page_alone schemes words capacity) (λ url. Ok (commands.Url url))
arguments_of schemes verbs.Info moment words capacity = Ok commands.Info
arguments_of schemes verbs.Why moment words capacity =
    read_on (authority_alone schemes words capacity) (λ authority. Ok (commands.Why authority))
arguments_of schemes verbs.Quit moment words capacity = Ok commands.Quit

-- the verb takes this many arguments
abbrev pub takes : Verb → List (List ℕ) → Bool
takes verb words = is_count_within (row_of verb).least (row_of verb).most words

-- check 7: the number of arguments
abbrev pub counted_of : Schemes → Verb → ℕ → List (List ℕ) → Capacity → Result Command LineFault
counted_of schemes verb moment words capacity =
    if takes verb words then arguments_of schemes verb moment words capacity else Err faults.Words

-- check 6: the verb
abbrev pub verb_words_of : Schemes → Dialogue → ℕ → List (List ℕ) → Capacity → Result Command LineFault
verb_words_of schemes dialogue moment [] capacity = Err faults.Verb
verb_words_of schemes dialogue moment (name ∷ words) capacity =
    read_on (ok_or (verb_of dialogue name) faults.Verb) (λ verb. counted_of schemes verb moment words capacity)

-- check 5: the moment of a replay line
abbrev pub timed_words_of : Schemes → List (List ℕ) → Capacity → Result Command LineFault
timed_words_of schemes [] capacity = Err faults.Moment
timed_words_of schemes (first ∷ words) capacity =
    read_on (ok_or (number_of first) faults.Moment) (λ moment. verb_words_of schemes Replay moment words capacity)

-- a client's line has no moment
abbrev pub dialogue_words_of : Schemes → Dialogue → List (List ℕ) → Capacity → Result Command LineFault
dialogue_words_of schemes Replay words capacity = timed_words_of schemes words capacity
dialogue_words_of schemes (Client moment fetches) words capacity =
    verb_words_of schemes (Client moment fetches) moment words capacity
dialogue_words_of schemes (Overseer moment) words capacity =
    verb_words_of schemes (Overseer moment) moment words capacity

-- check 4: no word is empty
abbrev pub full_words_of : Schemes → Dialogue → List (List ℕ) → Capacity → Result Command LineFault
full_words_of schemes dialogue words capacity =
    if list_any is_empty_word words then Err faults.Words else dialogue_words_of schemes dialogue words capacity

-- the octet may stand in a command line
abbrev pub is_line_octet : ℕ → Bool
is_line_octet octet = is_in_range 32 126 octet

-- the line has only such octets
abbrev pub has_line_octets : List ℕ → Bool
has_line_octets line = list_all is_line_octet line

-- a line's command, or its first fault with some capacity; check 3: its octets
abbrev pub command_of : Schemes → Dialogue → List ℕ → Capacity → Result Command LineFault
command_of schemes dialogue line capacity =
    if has_line_octets line then full_words_of schemes dialogue (words_of line) capacity else Err faults.Chars
