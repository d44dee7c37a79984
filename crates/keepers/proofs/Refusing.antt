-- An ask refused by a desk, and by its keeper.
-- Used by the asks of `DeskKeeper`.
use Rattle.std.proofs.Common.{◌≡◌, ℕ, false, List, inr, true≢false}
use Rattle.std.specs.Prelude.{Err, is_err, Ok, OnOk, Result}
use Rattle.gate_core.specs.declared.refusal.AskRefusal.{AskRefusal}
use Rattle.gate_core.specs.declared.refusal.AskRefusal.TheVariants as ask
use Rattle.permit_bag.specs.Bags.{BagView, HoldsSame}
use Rattle.gate_lock.specs.Desks.{DeskView}
use Rattle.gate_lock.specs.Steps.{DeskAsks, Somewhere}
use Rattle.keepers.specs.DeskKeeping.{KeeperAsks}

pub refused : (d : DeskView) (b : BagView) (token url : List ℕ) (m : ℕ) (refusal : AskRefusal) (d2 : DeskView) (b2 : BagView) →
    Somewhere d (λ old new. DeskAsks d old token url m (Err refusal) new d2) → HoldsSame b b2 → KeeperAsks d b token url m (Err refusal) d2 b2
refused d b token url m (ask.Denied denial) d2 b2 asks holds = (asks, holds)
refused d b token url m ask.LogFull d2 b2 asks holds = (asks, holds)
refused d b token url m ask.Busy d2 b2 asks holds = (asks, holds)
refused d b token url m ask.PermitsFull d2 b2 asks holds = (asks, holds)
refused d b token url m ask.NoMemory d2 b2 asks holds = (inr asks, holds)

pub unrefused : {A E P : Type 0} (r : Result A E) → is_err r ≡ false → OnOk r P → P
unrefused (Ok a) is holds = holds
unrefused (Err e) is holds = absurd (true≢false is)
