-- The rule lines of a robots text as rows, and its groups by name.
-- The view of a policy's parts.
use Rattle.std.specs.Prelude.{ℕ, List, [], ◌∷◌, ◌++◌}
use Rattle.path_normal.specs.Normal.{normal_pattern}
use Rattle.robots_text.specs.declared.record.RuleKind.{RuleKind}
use Rattle.robots_text.specs.Grouped.{Grouped}
use Rattle.robots_text.specs.Records.{everybody, token, nobody, Record, agent, rule, other}
use Rattle.robots_text.specs.Token.{lower_case}

-- a rule line with its group and its pattern in normal form
pub record Placed : Type 0 where
  pub group : ℕ
  pub line : ℕ
  pub kind : RuleKind
  pub form : List ℕ

-- the rows of a table, and the octets kept for them
pub record Table : Type 0 where
  pub rows : List Placed
  pub octets : ℕ

-- a name in lower case, and a group that has it
pub record NamedGroup : Type 0 where
  pub name : List ℕ
  pub group : ℕ

-- the names with their groups, and the groups of everybody
pub record Names : Type 0 where
  pub named : List NamedGroup
  pub everybody : List ℕ

-- the row of a record in a group
abbrev pub placed_at : ℕ → ℕ → Record → List Placed
placed_at group line (agent who) = []
placed_at group line (rule kind value) =
    record { group = group; line = line; kind = kind; form = normal_pattern value } ∷ []
placed_at group line other = []

-- the rows of the records
abbrev pub placed_in : List Grouped → List Placed
placed_in [] = []
placed_in (first ∷ lines) = placed_at first.group first.line first.kind ++ placed_in lines

-- the name that a record gives its group
abbrev pub named_at : ℕ → Record → List NamedGroup
named_at group (agent everybody) = []
named_at group (agent (token name)) = record { name = lower_case name; group = group } ∷ []
named_at group (agent nobody) = []
named_at group (rule kind value) = []
named_at group other = []

-- the names of the records
abbrev pub named_in : List Grouped → List NamedGroup
named_in [] = []
named_in (first ∷ lines) = named_at first.group first.kind ++ named_in lines

-- a record's group for everybody
abbrev pub everybody_at : ℕ → Record → List ℕ
everybody_at group (agent everybody) = group ∷ []
everybody_at group (agent (token name)) = []
everybody_at group (agent nobody) = []
everybody_at group (rule kind value) = []
everybody_at group other = []

-- the groups of everybody
abbrev pub everybody_in : List Grouped → List ℕ
everybody_in [] = []
everybody_in (first ∷ lines) = everybody_at first.group first.kind ++ everybody_in lines
