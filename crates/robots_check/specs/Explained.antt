-- An explanation before an answer: the user-agent lines of the token's groups, each rule line for it, and why the
-- winning one outranks the others. RFC 9309, section 2.2; see docs/FORMATS.md.
use Rattle.std.specs.Prelude.{◌≡◌, ◌==◌, ℕ, Bool, List, [], ◌++◌, Option, Some, None, codes, decimal, flat_map, length, if◌then◌else◌}
use Rattle.line_text.specs.RuleWords.{rule_word, value_text}
use Rattle.path_normal.specs.Normal.{normal_pattern}
use Rattle.robots_text.specs.Groups.{AreRulesFor, Ruled}
use Rattle.robots_text.specs.Records.{Numbered}
use Rattle.robots_verdict.specs.Weights.{kind_place}
use Rattle.robots_verdict.specs.declared.weight.Weight.{Weight}
use Rattle.robots_check.specs.AgentText.{agents_for, agents_text}
use Rattle.robots_check.specs.Answers.{Answer, allowed_by, allowed_unruled, allowed_robots, denied_by, unread}
use Rattle.robots_check.specs.Rows.{AreRows, IsSecond, Tried}

-- the word for whether a pattern matches
abbrev pub hits_text : Bool → List ℕ
hits_text hits = if hits then codes " matches\n" else codes " no\n"

-- a rule line's row: number, kind, value, octets, and whether it matches
abbrev pub row_text : Tried → List ℕ
row_text tried =
    codes "rule line " ++ (decimal tried.ruled.line ++ (codes " " ++ (rule_word tried.ruled.kind
    ++ (value_text tried.ruled.pattern ++ (codes " octets " ++ (decimal tried.octets ++ hits_text tried.hits))))))

-- the octets of the winning line's normalized pattern
abbrev pub winner_octets : Answer → ℕ
winner_octets (allowed_by ruled) = length (normal_pattern ruled.pattern)
winner_octets allowed_unruled = 0
winner_octets allowed_robots = 0
winner_octets (denied_by ruled) = length (normal_pattern ruled.pattern)
winner_octets (unread fault) = 0

-- why a line outranks another with as many octets: allow over disallow, or the first of two alike
abbrev pub alike_text : Ruled → Weight → List ℕ
alike_text ruled other =
    if kind_place ruled.kind == kind_place other.kind
    then codes "because first of line " ++ (decimal ruled.line ++ (codes " and " ++ (decimal other.line ++ codes "\n")))
    else codes "because allow above disallow of line " ++ (decimal other.line ++ codes "\n")

-- why a line with this many octets outranks another
abbrev pub above_text : ℕ → Ruled → Weight → List ℕ
above_text octets ruled other =
    if octets == other.octets then alike_text ruled other
    else codes "because octets " ++ (decimal octets ++ (codes " above " ++ (decimal other.octets
    ++ (codes " of line " ++ (decimal other.line ++ codes "\n")))))

-- why a line outranks the strongest of the others that match
abbrev pub because_by : ℕ → Ruled → Option Weight → List ℕ
because_by octets ruled None = codes "because only\n"
because_by octets ruled (Some other) = above_text octets ruled other

-- the octets of a weight, if any
abbrev pub octets_of : Option Weight → ℕ
octets_of None = 0
octets_of (Some weight) = weight.octets

-- the reason of an answer
abbrev pub because_text : ℕ → Answer → Option Weight → List ℕ
because_text octets (allowed_by ruled) second = because_by octets ruled second
because_text octets allowed_unruled second = codes "because norule\n"
because_text octets allowed_robots second = codes "because robots\n"
because_text octets (denied_by ruled) second = because_by octets ruled second
because_text octets (unread fault) second = []

-- the weight of the strongest matching row other than the winning line's
abbrev pub IsSecondFor : List Tried → Answer → Option Weight → Type 0
IsSecondFor rows (allowed_by ruled) second = IsSecond rows ruled.line second
IsSecondFor rows allowed_unruled second = second ≡ None
IsSecondFor rows allowed_robots second = second ≡ None
IsSecondFor rows (denied_by ruled) second = IsSecond rows ruled.line second
IsSecondFor rows (unread fault) second = second ≡ None

-- the text explains the answer on the path
pub record Explains (lines : List Numbered) (word path : List ℕ) (answer : Answer) (text : List ℕ) : Type 0 where
  pub rules : List Ruled
  pub are_rules : AreRulesFor lines word rules
  pub rows : List Tried
  pub are_rows : AreRows path rules rows
  pub second : Option Weight
  pub is_second : IsSecondFor rows answer second
  pub text_is : text ≡ agents_text (agents_for lines word)
      ++ (flat_map row_text rows ++ because_text (winner_octets answer) answer second)
