-- What an operator may see of a gate: how much it keeps.
-- Cited by `Keeper::counts`, `counts_of` and `Keeper::answer`.
use Rattle.std.specs.Prelude.{◌≡◌, ◌-◌, ℕ, List, length, Option, Result, IfOk}
use Rattle.authority_cache.specs.declared.standing_answer.StandingAnswer.{StandingAnswer}
use Rattle.gate_history.specs.History.{entry_count, started_count}
use Rattle.gate_history.specs.Outstanding.{running, unspent}
use Rattle.gate_history.specs.Standing.{in_flight, known_count, standing_of}
use Rattle.gate_core.specs.Gate.{Gate, history, most_room, room}
use Rattle.gate_core.specs.declared.refusal.NoMemory.{NoMemory}
use Rattle.gate_lock.specs.Desks.{DeskView, IsGateOf}
use Rattle.keepers.specs.declared.counts.Counts.{Counts}

-- how much a gate keeps
abbrev pub counts_of : Gate → Counts
counts_of gate = record {
  entries = length gate.entries;
  ever = entry_count (history gate);
  starts = started_count (history gate);
  permits = length (unspent (history gate));
  running = length (running (history gate));
  turns = length (in_flight (history gate));
  authorities = known_count (history gate);
  room = most_room gate.limits gate.base - room gate;
}

-- the authority's answer, if any, given memory for its name
abbrev pub TellsAnswer : Gate → List ℕ → Result (Option StandingAnswer) NoMemory → Type 0
TellsAnswer gate authority result = IfOk result (λ answer. answer ≡ standing_of (history gate) authority)

-- what a desk sees of it, in a gate of its lock with the entries already seen
abbrev pub AnswersSome : DeskView → List ℕ → Result (Option StandingAnswer) NoMemory → Type 0
AnswersSome desk authority result =
    (gate : Gate) × (IsGateOf desk.limits desk.seen gate × TellsAnswer gate authority result)

-- what a desk sees: the counts of a gate of its lock with the entries already seen
abbrev pub CountsSome : DeskView → Counts → Type 0
CountsSome desk counts = (gate : Gate) × (IsGateOf desk.limits desk.seen gate × (counts ≡ counts_of gate))
