-- How long an answer is in force.
-- RFC 9309, section 2.4: no longer than 24 hours.
use Rattle.std.specs.Prelude.{◌≡◌, ℕ, ◌-◌, max, min}
use Rattle.robots_verdict.specs.Answer.{said, spares_of}
use Rattle.robots_verdict.specs.declared.answer.Answer.{Answer}
use Rattle.robots_verdict.specs.declared.said.Said.{Said}
use Rattle.robots_verdict.specs.declared.said.Said.TheVariants as says

-- the longest lifetime of an answer in seconds
abbrev pub greatest_life : ℕ
greatest_life = 86400

-- the shortest lifetime of rules in seconds
abbrev pub least_life : ℕ
least_life = 60

-- the lifetime of an answer whose reply asked for these seconds: bounded for rules
abbrev pub life_of : Said → ℕ → ℕ
life_of (says.Rules text) asked = max least_life (min asked greatest_life)
life_of (says.Open opening) asked = greatest_life
life_of (says.Closed closure) asked = greatest_life

-- an answer with its lifetime: what it says, how many twins it can still give, and seconds
pub record Timed : Type 0 where
  pub says : Said
  pub spares : ℕ
  pub life : ℕ

-- an answer whose reply asked for these seconds
abbrev pub timed : Answer → ℕ → Timed
timed answer asked = record { says = said answer; spares = spares_of answer; life = life_of (said answer) asked }

-- the lifetime is the answer's own
abbrev pub IsOwnLife : Timed → Type 0
IsOwnLife t = life_of t.says t.life ≡ t.life

-- the twins left after one: rules spend a spare, other answers none
abbrev pub spares_left : Said → ℕ → ℕ
spares_left (says.Rules text) spares = spares - 1
spares_left (says.Open opening) spares = spares
spares_left (says.Closed closure) spares = spares

-- the twins that a twin can give: none if it has rules
abbrev pub spares_got : Said → ℕ → ℕ
spares_got (says.Rules text) spares = 0
spares_got (says.Open opening) spares = spares
spares_got (says.Closed closure) spares = spares

-- an answer that has given a twin
abbrev pub behind_twin : Timed → Timed
behind_twin t = record { says = t.says; spares = spares_left t.says t.spares; life = t.life }

-- the twin
abbrev pub twin_of : Timed → Timed
twin_of t = record { says = t.says; spares = spares_got t.says t.spares; life = t.life }
