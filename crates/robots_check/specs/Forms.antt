-- Rule lines with normalized patterns, from which each path's rows are made.
-- RFC 9309, section 2.2.2.
use Rattle.std.specs.Prelude.{◌≡◌, ℕ, List, MatchOption, map}
use Rattle.std.specs.List.{All}
use Rattle.path_normal.specs.Normal.{normal_pattern}
use Rattle.robots_text.specs.Groups.{AreRulesFor, Ruled}
use Rattle.robots_text.specs.Records.{Numbered}
use Rattle.robots_text.specs.Walk.{rule_seen}
use Rattle.robots_check.specs.declared.rules.Formed.{Formed}

-- its rule line
abbrev pub formed_rule : Formed → Ruled
formed_rule formed = rule_seen formed.rule

-- the normal form that it has is that of its rule line's pattern; without one the pattern is normal as written
abbrev pub IsFormed : Formed → Type 0
IsFormed formed =
    MatchOption formed.rewritten (normal_pattern (formed_rule formed).pattern ≡ (formed_rule formed).pattern)
    (λ form. form.items ≡ normal_pattern (formed_rule formed).pattern)

-- the rule lines for the token with their patterns, in order
pub record AreFormsFor (lines : List Numbered) (word : List ℕ) (forms : List Formed) : Type 0 where
  pub are_rules : AreRulesFor lines word (map formed_rule forms)
  pub formed : All IsFormed forms
