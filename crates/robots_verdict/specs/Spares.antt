-- Spare handles of a policy.
-- Cited by `Rules`.
use Rattle.std.specs.Prelude.{◌≡◌, ℕ, List}
use Rattle.std.specs.Arc.{arc_value}
use Rattle.robots_verdict.specs.declared.rules.Spares.{Spares}
use Rattle.robots_verdict.specs.declared.rules.Spares.TheVariants as kinds

-- how many there are
abbrev pub count : Spares → ℕ
count kinds.None = 0
count (kinds.One _) = 1
count (kinds.Two _ _) = 2

-- each is of this text's policy
abbrev pub AreOf : List ℕ → Spares → Type 0
AreOf text kinds.None = Unit {0}
AreOf text (kinds.One first) = arc_value first ≡ text
AreOf text (kinds.Two first second) = (arc_value first ≡ text) × (arc_value second ≡ text)
