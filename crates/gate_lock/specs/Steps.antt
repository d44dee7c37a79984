-- Each call of a desk makes the book's call of that name and gives its reply; an entry made is
-- the desk's. Cited by `Desk`.
use Rattle.std.specs.Prelude.{◌≡◌, ℕ, true, List, Result, Ok, Err}
use Rattle.authority_cache.specs.Lives.{Timed}
use Rattle.gate_history.specs.declared.entry.Entry.TheVariants.{Begun, Arrived, Granted, AskDenied, Started, StartDenied, Returned, Finished, Swept}
use Rattle.gate_history.specs.Outstanding.{stands}
use Rattle.gate_history.specs.Segment.{Sealed}
use Rattle.gate_core.specs.declared.refusal.AskRefusal.{AskRefusal}
use Rattle.gate_core.specs.declared.refusal.AskRefusal.TheVariants as ask
use Rattle.gate_core.specs.declared.refusal.BeginRefusal.{BeginRefusal}
use Rattle.gate_core.specs.declared.refusal.Denial.{Denial}
use Rattle.gate_core.specs.declared.refusal.NoMemory.{NoMemory}
use Rattle.gate_core.specs.declared.refusal.SweepRefusal.{SweepRefusal}
use Rattle.gate_core.specs.declared.state.State.{State}
use Rattle.gate_core.specs.Gate.{Gate, history}
use Rattle.gate_core.specs.Replies.{Arrives, Asks, Begins, Finishes, moment_at, Returns, Starts, Sweeps}
use Rattle.gate_core.specs.Sealing.{Seals}
use Rattle.gate_core.specs.States.{IsState}
use Rattle.gate_ledgers.specs.Entered.{handed_by}
use Rattle.gate_lock.specs.Desks.{DeskView, Errand, Hands, IsGateOf, Looks, Makes, Pass, Run}

-- a step of a desk at some gate of its lock
abbrev pub Somewhere : DeskView → (Gate → Gate → Type 0) → Type 0
Somewhere d Step = (old : Gate) × ((new : Gate) × (IsGateOf d.limits d.seen old × Step old new))

-- ask: this desk's permit of the granted number, for this token and URL
abbrev pub DeskAsks : DeskView → Gate → List ℕ → List ℕ → ℕ → Result Pass AskRefusal → Gate → DeskView → Type 0
DeskAsks d old token url m (Ok p) new d2 =
    Asks old token url m (Ok p.number) new
    × (p ≡ record { number = p.number; token = token; url = url; desk = d.no })
    × Makes d old (Granted (moment_at old m) p.number (record { token = token; url = url })) d2
DeskAsks d old token url m (Err (ask.Denied denial)) new d2 =
    Asks old token url m (Err (ask.Denied denial)) new
    × Makes d old (AskDenied (moment_at old m) (record { token = token; url = url }) denial.cause) d2
DeskAsks d old token url m (Err refusal) new d2 = Asks old token url m (Err refusal) new × Looks d old d2

-- start: the fetch may be made, or is denied; the permit was good, and is spent
abbrev pub DeskStarts : DeskView → Gate → Pass → ℕ → Result Run Denial → Gate → DeskView → Type 0
DeskStarts d old p m (Ok r) new d2 =
    (stands (history old) p.number p.token p.url ≡ true)
    × Starts old p.number p.token p.url m (Ok (record { number = p.number; url = p.url; reason = r.reason })) new
    × (r.pass ≡ p)
    × Makes d old (Started (moment_at old m) p.number r.reason) d2
DeskStarts d old p m (Err denial) new d2 =
    (stands (history old) p.number p.token p.url ≡ true)
    × Starts old p.number p.token p.url m (Err denial) new
    × Makes d old (StartDenied (moment_at old m) p.number denial.cause) d2

-- back: the permit of the number is returned
abbrev pub DeskReturns : DeskView → Gate → ℕ → Gate → DeskView → Type 0
DeskReturns d old number new d2 = Returns old number (Ok tt) new × Makes d old (Returned number) d2

-- finish: the fetch of the number has ended
abbrev pub DeskFinishes : DeskView → Gate → ℕ → Gate → DeskView → Type 0
DeskFinishes d old number new d2 = Finishes old number (Ok tt) new × Makes d old (Finished number) d2

-- begin: a turn of this authority and this desk
abbrev pub DeskBegins : DeskView → Gate → List ℕ → ℕ → Result Errand BeginRefusal → Gate → DeskView → Type 0
DeskBegins d old authority m (Ok t) new d2 =
    Begins old authority m (Ok t.turn) new
    × (t ≡ record { authority = authority; turn = t.turn; desk = d.no })
    × Makes d old (Begun (moment_at old m) authority t.turn) d2
DeskBegins d old authority m (Err refusal) new d2 = Begins old authority m (Err refusal) new × Looks d old d2

-- arrive: the turn's answer is in force
abbrev pub DeskArrives : DeskView → Gate → Errand → Timed → ℕ → Gate → DeskView → Type 0
DeskArrives d old t answer m new d2 =
    Arrives old t.authority t.turn answer m (Ok tt) new
    × Makes d old (Arrived answer.life (moment_at old m) t.authority t.turn answer.says) d2

-- sweep: how many answers it ended
abbrev pub DeskSweeps : DeskView → Gate → ℕ → Result ℕ SweepRefusal → Gate → DeskView → Type 0
DeskSweeps d old m (Ok count) new d2 = Sweeps old m (Ok count) new × Makes d old (Swept (moment_at old m) count) d2
DeskSweeps d old m (Err refusal) new d2 = Sweeps old m (Err refusal) new × Looks d old d2

-- seal: the desk hands out and counts the entries since the last seal, with what they follow, and makes none
abbrev pub DeskSeals : DeskView → Gate → Result Sealed NoMemory → Gate → DeskView → Type 0
DeskSeals d old result new d2 = Seals old result new × Hands d old (handed_by result) d2

-- state: what is known of an authority; nothing changes
abbrev pub DeskReads : DeskView → Gate → List ℕ → ℕ → State → Gate → DeskView → Type 0
DeskReads d old authority m state new d2 =
    IsState (history old) authority (moment_at old m) state × (new ≡ old) × Looks d old d2
