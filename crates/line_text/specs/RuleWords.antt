-- The words of a rule line in reports.
-- See docs/FORMATS.md.
use Rattle.std.specs.Prelude.{ℕ, List, [], ◌∷◌, ◌++◌, codes}
use Rattle.line_text.specs.Escapes.{escaped}
use Rattle.robots_text.specs.declared.record.RuleKind.{RuleKind}
use Rattle.robots_text.specs.declared.record.RuleKind.TheVariants.{Allow, Disallow}

-- the word of a rule
abbrev pub rule_word : RuleKind → List ℕ
rule_word Allow = codes "allow"
rule_word Disallow = codes "disallow"

-- a space and a value; nothing for an empty value
abbrev pub value_text : List ℕ → List ℕ
value_text [] = []
value_text (octet ∷ octets) = codes " " ++ escaped (octet ∷ octets)
