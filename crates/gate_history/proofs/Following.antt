-- One more entry after others that follow a history.
-- Used where entries are kept as a list behind a base.
use Rattle.std.proofs.Common.{◌≡◌, ◌+◌, List, [], ◌∷◌, ◌++◌, length, refl, arith}
use Rattle.gate_history.specs.declared.entry.Entry.{Entry}
use Rattle.gate_history.specs.History.{History, ◌▸◌, entry_count, followed_by}
use Rattle.gate_history.specs.Legal.{AllRise, Rises}

pub followed_push : (h : History) (es : List Entry) (e : Entry) → followed_by h (es ++ e ∷ []) ≡ followed_by h es ▸ e
followed_push h [] e = refl
followed_push h (first ∷ es) e = followed_push (h ▸ first) es e

pub rise_push : (h : History) (es : List Entry) (e : Entry) → AllRise h es → Rises (followed_by h es) e → AllRise h (es ++ e ∷ [])
rise_push h [] e rises rise = (rise, tt)
rise_push h (first ∷ es) e rises rise = (rises.0, rise_push (h ▸ first) es e rises.1 rise)

pub followed_count : (h : History) (es : List Entry) → entry_count (followed_by h es) ≡ entry_count h + length es
followed_count h [] = omega arith
followed_count h (first ∷ es) = omega (arith, followed_count (h ▸ first) es)
