-- A verdict found before the answer in force is known.
-- RFC 9309, section 2.2.2; the value of `Ruling`.
use Rattle.std.specs.Prelude.{ℕ, List}
use Rattle.std.specs.Arc.{arc_value}
use Rattle.gate_history.specs.declared.ruling.Ruling.{Ruling}
use Rattle.gate_history.specs.Cause.{IsVerdictOn}

-- it is the verdict of the policy's text, whichever that is
abbrev pub IsRuling : List ℕ → List ℕ → Ruling → Type 0
IsRuling token url ruling = IsVerdictOn (arc_value ruling.policy) token url ruling.verdict
