-- The table of the verbs: the name of each, and its least and most arguments.
-- Cited by `verbs` and `command`; docs/FORMATS.md prints the same table.
use Rattle.std.specs.Prelude.{ℕ, ◌^◌, ◌-◌, Bool, true, false, not, ◌&&◌, List, [], ◌∷◌, Option, codes}
use Rattle.std.specs.List.{find}
use Rattle.std.specs.Str.{bytes_eq}
use Rattle.command_lines.specs.declared.verbs.Dialogue.{Dialogue}
use Rattle.command_lines.specs.declared.verbs.Dialogue.TheVariants.{Client, Overseer, Replay}
use Rattle.command_lines.specs.declared.verbs.Speaker.{Speaker}
use Rattle.command_lines.specs.declared.verbs.Speaker.TheVariants as speakers
use Rattle.command_lines.specs.declared.verbs.Verb.{Verb}
use Rattle.command_lines.specs.declared.verbs.Verb.TheVariants as verbs

-- a row of the table
pub record Row : Type 0 where
  pub name : List ℕ
  pub least : ℕ
  pub most : ℕ

-- a row by its parts
abbrev pub row : List ℕ → ℕ → ℕ → Row
row name least most = record { name = name; least = least; most = most }

-- the most arguments of a verb without a bound
abbrev pub unbounded : ℕ
unbounded = 2 ^ 64 - 1

-- the table
abbrev pub row_of : Verb → Row
row_of verbs.Begin = row (codes "BEGIN") 1 1
row_of verbs.Arrive = row (codes "ARRIVE") 2 unbounded
row_of verbs.Ask = row (codes "ASK") 2 2
row_of verbs.Start = row (codes "START") 3 3
row_of verbs.Back = row (codes "BACK") 1 1
row_of verbs.Done = row (codes "DONE") 1 1
row_of verbs.State = row (codes "STATE") 1 1
row_of verbs.Sweep = row (codes "SWEEP") 0 0
row_of verbs.Seal = row (codes "SEAL") 0 0
row_of verbs.Refresh = row (codes "REFRESH") 1 1
row_of verbs.Fetch = row (codes "FETCH") 2 2
row_of verbs.Url = row (codes "URL") 1 1
row_of verbs.Info = row (codes "INFO") 0 0
row_of verbs.Why = row (codes "WHY") 1 1
row_of verbs.Quit = row (codes "QUIT") 0 0

-- all verbs
abbrev pub all_verbs : List Verb
all_verbs =
    verbs.Ask ∷ verbs.Start ∷ verbs.Done ∷ verbs.Back ∷ verbs.Begin ∷ verbs.Arrive
    ∷ verbs.State ∷ verbs.Sweep ∷ verbs.Seal ∷ verbs.Refresh ∷ verbs.Fetch ∷ verbs.Url ∷ verbs.Info ∷ verbs.Why
    ∷ verbs.Quit ∷ []

-- whether the dialogue is that of a replay
abbrev pub is_replay : Dialogue → Bool
is_replay Replay = true
is_replay _ = false

-- whether a client speaks
abbrev pub is_of_client : Dialogue → Bool
is_of_client (Client moment fetches) = true
is_of_client _ = false

-- whether the speaker asks for permits and starts fetches
abbrev pub has_permits : Dialogue → Bool
has_permits (Overseer moment) = false
has_permits _ = true

-- whether robots.txt files and pages are fetched
abbrev pub has_fetches : Dialogue → Bool
has_fetches (Client moment fetches) = fetches
has_fetches _ = false

-- whether the dialogue has the verb: a replay brings robots answers, for a client they are fetched; a client that
-- fetches pages itself may ask for a URL's text. An overseer seals, and looks
abbrev pub is_in : Dialogue → Verb → Bool
is_in dialogue verbs.Begin = is_replay dialogue
is_in dialogue verbs.Arrive = is_replay dialogue
is_in dialogue verbs.Sweep = is_replay dialogue
is_in dialogue verbs.Refresh = has_fetches dialogue
is_in dialogue verbs.Fetch = has_fetches dialogue
is_in dialogue verbs.Ask = has_permits dialogue
is_in dialogue verbs.Start = has_permits dialogue
is_in dialogue verbs.Back = has_permits dialogue
is_in dialogue verbs.Done = has_permits dialogue
is_in dialogue verbs.Url = is_of_client dialogue
is_in dialogue verbs.Info = not (is_replay dialogue)
is_in dialogue verbs.Why = not (is_replay dialogue)
is_in dialogue _ = true

-- a server's dialogue with the speaker at a line's moment; `fetches`: pages are fetched for clients
abbrev pub dialogue_of : Speaker → (moment : ℕ) → (fetches : Bool) → Dialogue
dialogue_of speakers.Client moment fetches = Client moment fetches
dialogue_of speakers.Overseer moment fetches = Overseer moment

-- the dialogue's verb of this name, if any
abbrev pub verb_of : Dialogue → List ℕ → Option Verb
verb_of dialogue name = find (λ verb. bytes_eq (row_of verb).name name && is_in dialogue verb) all_verbs
