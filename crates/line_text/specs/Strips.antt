-- The rest of a text after a front.
-- Used by the contracts that compare a line with its pieces.
use Rattle.std.specs.Prelude.{◌≡◌, ◌≢◌, ℕ, List, ◌++◌, Option, None, Some}
use Rattle.std.specs.Borrow.{Bor}

-- the text is the front and this rest, or does not begin with the front
abbrev pub Strips : List ℕ → List ℕ → Option (Bor (List ℕ)) → Type 0
Strips front text None = (behind : List ℕ) → text ≢ front ++ behind
Strips front text (Some behind) = text ≡ front ++ behind.now
