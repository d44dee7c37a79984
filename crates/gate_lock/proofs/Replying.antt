-- The reply of a desk to an ask that ran out of memory before it was made.
-- Used by `Desk::refuse_ask`.
use Rattle.std.proofs.Common.{◌≡◌, ℕ, false, List}
use Rattle.std.specs.Prelude.{Err}
use Rattle.std.proofs.lemmas.Bool.{true≢false}
use Rattle.gate_core.specs.declared.refusal.AskRefusal.{AskRefusal}
use Rattle.gate_core.specs.declared.refusal.AskRefusal.TheVariants as ask
use Rattle.gate_core.specs.Gate.{Gate}
use Rattle.gate_core.specs.Replies.{Asks}
use Rattle.gate_lock.specs.Desks.{DeskView, Looks}
use Rattle.gate_lock.specs.Results.{is_denial}
use Rattle.gate_lock.specs.Steps.{DeskAsks}

pub refused : (d : DeskView) (old : Gate) (token url : List ℕ) (m : ℕ) (refusal : AskRefusal) (new : Gate) (d2 : DeskView) →
    Asks old token url m (Err refusal) new → is_denial refusal ≡ false → Looks d old d2 → DeskAsks d old token url m (Err refusal) new d2
refused d old token url m (ask.Denied denial) new d2 asks none looks = absurd (true≢false none)
refused d old token url m ask.LogFull new d2 asks none looks = (asks, looks)
refused d old token url m ask.Busy new d2 asks none looks = (asks, looks)
refused d old token url m ask.PermitsFull new d2 asks none looks = (asks, looks)
refused d old token url m ask.NoMemory new d2 asks none looks = (asks, looks)
