-- The user-agent lines of a token's groups, and their lines in an explanation.
-- RFC 9309, section 2.2.1; see docs/FORMATS.md.
use Rattle.std.specs.Prelude.{◌≡◌, ◌==◌, ◌&&◌, ℕ, Bool, true, List, [], ◌∷◌, ◌++◌, codes, decimal, filter, flat_map, map, if◌then◌else◌}
use Rattle.std.specs.List.{list_any}
use Rattle.robots_text.specs.Grouped.{Grouped, grouped_from}
use Rattle.robots_text.specs.Groups.{is_agent, speaks_to}
use Rattle.robots_text.specs.Records.{everybody, token, nobody, Record, agent, rule, other, Numbered, kind_seen}
use Rattle.robots_text.specs.Token.{lower_case}
use Rattle.robots_check.specs.declared.agents.AgentLine.{AgentLine}
use Rattle.robots_check.specs.declared.detail.Detail.{Detail}
use Rattle.robots_check.specs.declared.detail.Detail.TheVariants.{Plain, Explained}

-- a user-agent line in an explanation: its number, its name, and whether that is the token
pub record Shown : Type 0 where
  pub line : ℕ
  pub kind : Record
  pub speaks : Bool

-- what a head is seen as
abbrev pub head_seen : AgentLine → Shown
head_seen head = record { line = head.line; kind = kind_seen head.kind; speaks = head.speaks }

-- the numbers of the groups with such a line, one for each
abbrev pub groups_that : (Record → Bool) → List Grouped → List ℕ
groups_that test lines = map (λ line. line.group) (filter (λ line. test line.kind) lines)

-- the line is a user-agent line of one of these groups
abbrev pub is_head_of : List ℕ → Grouped → Bool
is_head_of groups line = is_agent line.kind && list_any (λ group. group == line.group) groups

-- the shown form of the line
abbrev pub shown_of : (Record → Bool) → Grouped → Shown
shown_of test line = record { line = line.line; kind = line.kind; speaks = test line.kind }

-- the user-agent lines of these groups, in order
abbrev pub heads_in : (Record → Bool) → List ℕ → List Grouped → List Shown
heads_in test groups lines = map (shown_of test) (filter (is_head_of groups) lines)

-- the user-agent lines of the groups with a line for the token
abbrev pub agents_for : List Numbered → List ℕ → List Shown
agents_for lines word =
    heads_in (speaks_to lines word) (groups_that (speaks_to lines word) (grouped_from 0 true lines))
    (grouped_from 0 true lines)

-- these lines, if they are to be explained
abbrev pub AreHeadsAt : Detail → List Numbered → List ℕ → List Shown → Type 0
AreHeadsAt Plain lines word heads = Unit {0}
AreHeadsAt Explained lines word heads = heads ≡ agents_for lines word

-- a user-agent line's number, its name, and more words
abbrev pub agent_line_text : ℕ → List ℕ → List ℕ → List ℕ → List ℕ
agent_line_text line word name rest = codes "agent line " ++ (decimal line ++ (word ++ (name ++ rest)))

-- the text for a line that does not name the token
abbrev pub beside_text : Bool → List ℕ
beside_text speaks = if speaks then codes "\n" else codes " same group\n"

-- the explanation's line for a user-agent line of this number
abbrev pub agent_said : ℕ → Record → Bool → List ℕ
agent_said line (agent everybody) speaks = agent_line_text line (codes " all") [] (beside_text speaks)
agent_said line (agent (token name)) speaks =
    agent_line_text line (codes " name ") (lower_case name) (beside_text speaks)
agent_said line (agent nobody) speaks = agent_line_text line (codes " none") [] (beside_text speaks)
agent_said line (rule kind value) speaks = agent_line_text line [] [] (beside_text speaks)
agent_said line other speaks = agent_line_text line [] [] (beside_text speaks)

-- the explanation's line for one of them
abbrev pub agent_text : Shown → List ℕ
agent_text item = agent_said item.line item.kind item.speaks

-- the lines for all, or one that says that there are none
abbrev pub agents_text : List Shown → List ℕ
agents_text [] = codes "agent none\n"
agents_text (first ∷ lines) = flat_map agent_text (first ∷ lines)
