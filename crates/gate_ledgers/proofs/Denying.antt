-- The entry of a denied start of a good permit.
-- Used by `CountedBook::start`.
use Rattle.std.proofs.Common.{◌≡◌, ℕ, Bool, true, false, List, sym}
use Rattle.std.specs.Prelude.{MatchBool, Err}
use Rattle.std.proofs.lemmas.Bool.{true≢false}
use Rattle.gate_history.specs.declared.entry.Entry.TheVariants.{StartDenied}
use Rattle.gate_history.specs.Outstanding.{stands}
use Rattle.gate_core.specs.declared.refusal.Denial.{Denial}
use Rattle.gate_core.specs.Gate.{Adds, Gate, history}
use Rattle.gate_core.specs.Replies.{moment_at, Starts}

arm : (b : Bool) (P Q : Type 0) → b ≡ true → MatchBool b P Q → P
arm true P Q is both = both
arm false P Q is both = absurd (true≢false (sym is))

pub denied : (old new : Gate) (number : ℕ) (token url : List ℕ) (m : ℕ) (d : Denial) → stands (history old) number token url ≡ true →
    Starts old number token url m (Err d) new → Adds old (StartDenied (moment_at old m) number d.cause) new
denied old new number token url m d out starts = (arm (stands (history old) number token url) _ _ out starts.1).1
