-- The rule lines for a token and a path: which match, and the strongest of the others.
-- RFC 9309, section 2.2.2.
use Rattle.std.specs.Prelude.{◌≡◌, ◌↔◌, ◌&&◌, ◌==◌, not, ℕ, Bool, true, false, IsTrue, List, [], ◌∷◌, Option, Some, None, Contains, length, if◌then◌else◌}
use Rattle.path_normal.specs.Normal.{normal_pattern}
use Rattle.path_pattern.specs.Matches.{Matches}
use Rattle.robots_text.specs.Groups.{AreRulesFor, Ruled}
use Rattle.robots_text.specs.Records.{Numbered}
use Rattle.robots_text.specs.Walk.{rule_seen}
use Rattle.robots_verdict.specs.Strongest.{IsBest, stronger}
use Rattle.robots_verdict.specs.Weights.{is_above}
use Rattle.robots_verdict.specs.declared.weight.Weight.{Weight}
use Rattle.robots_check.specs.declared.rows.ComparedRule.{ComparedRule}

-- a rule line, its normalized pattern's octets, and whether it matches a path
pub record Tried : Type 0 where
  pub ruled : Ruled
  pub octets : ℕ
  pub hits : Bool

-- what a row is seen as
abbrev pub row_seen : ComparedRule → Tried
row_seen row = record { ruled = rule_seen row.rule; octets = row.octets; hits = row.matches }

-- this is the rule line's row for the path
pub record IsRow (path : List ℕ) (ruled : Ruled) (tried : Tried) : Type 0 where
  pub of_line : tried.ruled ≡ ruled
  pub as_many : tried.octets ≡ length (normal_pattern ruled.pattern)
  pub hits : IsTrue tried.hits ↔ Matches (normal_pattern ruled.pattern) path

-- these are the rule lines' rows, in order
abbrev pub AreRows : List ℕ → List Ruled → List Tried → Type 0
AreRows path [] [] = Unit {0}
AreRows path (ruled ∷ rules) (tried ∷ rows) = IsRow path ruled tried × AreRows path rules rows
AreRows path [] (tried ∷ rows) = ⊥
AreRows path (ruled ∷ rules) [] = ⊥

-- this is the weight of the strongest of the rule lines that match the path, whatever text and token they are of
abbrev pub IsBestFor : List ℕ → List Ruled → Option Weight → Type 0
IsBestFor path rules best =
    (lines : List Numbered) (word : List ℕ) → AreRulesFor lines word rules → IsBest lines word path best

-- a row's weight
abbrev pub row_weight : Tried → Weight
row_weight tried = record { octets = tried.octets; kind = tried.ruled.kind; line = tried.ruled.line }

-- it matches, and is not the line of this number
abbrev pub is_other : ℕ → Tried → Bool
is_other line tried = tried.hits && not (tried.ruled.line == line)

-- the row of this weight passes the test, and none that does is stronger
pub record IsHeaviest (test : Tried → Bool) (rows : List Tried) (best : Weight) : Type 0 where
  pub row : Tried
  pub stands : Contains rows row
  pub passes : test row ≡ true
  pub weighs : row_weight row ≡ best
  pub strongest : (tried : Tried) → Contains rows tried → test tried ≡ true → is_above (row_weight tried) best ≡ false

-- the weight of the strongest row that passes the test, or none
abbrev pub IsHeaviestOf : (Tried → Bool) → List Tried → Option Weight → Type 0
IsHeaviestOf test rows None = (tried : Tried) → Contains rows tried → test tried ≡ true → ⊥
IsHeaviestOf test rows (Some best) = IsHeaviest test rows best

-- the weight of the strongest match other than this line, or none
abbrev pub IsSecond : List Tried → ℕ → Option Weight → Type 0
IsSecond rows line second = IsHeaviestOf (is_other line) rows second

-- the stronger of the best so far and one more row that counts
abbrev pub weighed_row : Bool → Option Weight → Tried → Option Weight
weighed_row counts best tried = if counts then Some (stronger best (row_weight tried)) else best
