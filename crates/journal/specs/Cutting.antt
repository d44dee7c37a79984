-- A tape that is cut, and the text that ends one.
-- Used by `CutTape` and `end_text`.
use Rattle.std.specs.Prelude.{◌≡◌, ◌≤◌, ℕ, List, length, take, Option, Some}
use Rattle.std.specs.Io.KnownBytes.{Appends}
use Rattle.journal.specs.Crash.{HasKept}

-- of known octets so many are left, the first ones
abbrev pub Cuts : ℕ → Option (List ℕ) → Option (List ℕ) → Type 0
Cuts size old new = (octets : List ℕ) → old ≡ Some octets → size ≤ length octets → new ≡ Some (take size octets)

-- of known octets the first ones are left, then comes this text, and a crash keeps all of it
pub record EndsWith (size : ℕ) (text : List ℕ) (old new : Option (List ℕ)) (kept : ℕ) : Type 0 where
  pub cut : Option (List ℕ)
  pub cuts : Cuts size old cut
  pub appends : Appends cut new text
  pub has_kept : HasKept new kept
