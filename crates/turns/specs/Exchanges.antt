-- What goes between a conversation and its client.
-- The contracts of `Conversation` and of `exchange` cite it.
use Rattle.std.specs.Prelude.{◌≡◌, ◌++◌, ℕ, List}

-- the octets that waited wait still, and others may wait behind them
abbrev pub Grows : List ℕ → List ℕ → Type 0
Grows old new = (more : List ℕ) × (new ≡ old ++ more)

-- octets begin with these
abbrev pub IsFrontOf : List ℕ → List ℕ → Type 0
IsFrontOf front octets = (rest : List ℕ) × (octets ≡ front ++ rest)

-- these octets were sent: they are what waited, in order, and what came behind it
abbrev pub Sends : List ℕ → List ℕ → List ℕ → Type 0
Sends old went new = (more : List ℕ) × (went ++ new ≡ old ++ more)
