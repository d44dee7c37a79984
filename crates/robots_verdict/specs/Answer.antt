-- What an answer says without spares: histories keep it and compare by it.
-- RFC 9309, section 2.3.1.
use Rattle.std.specs.Prelude.{ℕ, ◌-◌}
use Rattle.robots_verdict.specs.declared.answer.Answer.{Answer}
use Rattle.robots_verdict.specs.declared.answer.Answer.TheVariants as answers
use Rattle.robots_verdict.specs.declared.said.Said.{Said}
use Rattle.robots_verdict.specs.declared.said.Said.TheVariants as says

-- the text of the rules, or open or closed with the reason
abbrev pub said : Answer → Said
said (answers.Rules rules) = says.Rules rules.text
said (answers.Open opening) = says.Open opening
said (answers.Closed closure) = says.Closed closure

-- how many twins an answer can still give without memory; without rules, always two
abbrev pub spares_of : Answer → ℕ
spares_of (answers.Rules rules) = rules.spares
spares_of (answers.Open _) = 2
spares_of (answers.Closed _) = 2

-- its spares after it gave a twin
abbrev pub spares_behind : Answer → ℕ
spares_behind (answers.Rules rules) = rules.spares - 1
spares_behind (answers.Open _) = 2
spares_behind (answers.Closed _) = 2

-- the spares of a twin
abbrev pub spares_of_twin : Answer → ℕ
spares_of_twin (answers.Rules _) = 0
spares_of_twin (answers.Open _) = 2
spares_of_twin (answers.Closed _) = 2
