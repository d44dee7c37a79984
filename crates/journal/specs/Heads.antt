-- What a file of a journal begins with, and whether it does.
-- Used by `line_unlike`.
use Rattle.std.specs.Prelude.{◌≡◌, ◌⊎◌, ℕ, List, nat_eq, true}
use Rattle.std.specs.List.{starts_with}

-- the text begins so, as far as it goes
abbrev pub Agrees : List ℕ → List ℕ → Type 0
Agrees head text = (starts_with nat_eq text head ≡ true) ⊎ (starts_with nat_eq head text ≡ true)
