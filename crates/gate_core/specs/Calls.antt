-- The possible replies of calls given as values, alone and in lists.
-- The contracts of `calls.rt`; the refusals are those of `Replies`.
use Rattle.std.specs.Prelude.{◌≡◌, ◌<◌, List, [], ◌∷◌}
use Rattle.gate_core.specs.declared.call.Call.{Call}
use Rattle.gate_core.specs.declared.call.Call.TheVariants as calls
use Rattle.gate_core.specs.declared.call.Reply.{Reply}
use Rattle.gate_core.specs.declared.call.Reply.TheVariants as replies
use Rattle.gate_core.specs.Gate.{Gate, Stays}
use Rattle.gate_core.specs.Replies.{Arrives, Asks, Begins, Finishes, Returns, Starts, Sweeps}
use Rattle.gate_core.specs.States.{standing_as}

-- the answer to bring has a spare, so the history's own needs no allocation
abbrev pub HasSpare : Call → Type 0
HasSpare (calls.Arrive authority turn answer m) = 0 < answer.spares
HasSpare _ = Unit {0}

-- a call has a reply of its kind, which names the same as its line
abbrev pub Step : Gate → Call → Reply → Gate → Type 0
Step old (calls.Begin authority m) (replies.Begin named r) new = (named ≡ authority) × Begins old authority m r new
Step old (calls.Arrive authority turn answer m) (replies.Arrive named brought r) new =
    (named ≡ authority) × (brought ≡ standing_as answer.says) × Arrives old authority turn answer m r new
Step old (calls.Ask token url m) (replies.Ask r) new = Asks old token url m r new
Step old (calls.Start number token url m) (replies.Start r) new = Starts old number token url m r new
Step old (calls.Back number) (replies.Back named r) new = (named ≡ number) × Returns old number r new
Step old (calls.Finish number) (replies.Finish named r) new = (named ≡ number) × Finishes old number r new
Step old (calls.Sweep m) (replies.Sweep r) new = Sweeps old m r new
Step old _ _ new = ⊥

-- calls in order, and their replies
abbrev pub Replies : Gate → List Call → List Reply → Gate → Type 0
Replies old [] [] new = Stays old new
Replies old (call ∷ calls) (reply ∷ later) new = (mid : Gate) × (Step old call reply mid × Replies mid calls later new)
Replies old _ _ new = ⊥
