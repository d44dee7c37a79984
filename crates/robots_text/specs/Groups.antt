-- Which rule lines of a robots text govern a token, without groups: two lines belong together if no
-- user-agent line follows a rule line between them.
-- RFC 9309, section 2.2.1.
use Rattle.std.specs.Prelude.{◌≡◌, ◌<◌, ℕ, Bool, true, false, List, map, All, Contains, if◌then◌else◌}
use Rattle.std.specs.List.{list_any}
use Rattle.std.specs.List.Sorted.{IsStrictlyIncreasing}
use Rattle.robots_text.specs.declared.record.RuleKind.{RuleKind}
use Rattle.robots_text.specs.Records.{everybody, token, nobody, Record, agent, rule, other, Numbered}
use Rattle.robots_text.specs.Words.{is_same_word}

-- a rule line: its number, its kind and its pattern as written
pub record Ruled : Type 0 where
  pub line : ℕ
  pub kind : RuleKind
  pub pattern : List ℕ

-- a rule line's numbered record
abbrev pub record_ruled : Ruled → Numbered
record_ruled ruled = record { line = ruled.line; kind = rule ruled.kind ruled.pattern }

-- the record is a user-agent line
abbrev pub is_agent : Record → Bool
is_agent (agent who) = true
is_agent (rule kind value) = false
is_agent other = false

-- the record is a rule line
abbrev pub is_rule : Record → Bool
is_rule (agent who) = false
is_rule (rule kind value) = true
is_rule other = false

-- a user-agent line governs a later rule line, unless a rule line and then a user-agent line are between
pub record Governs (lines : List Numbered) (head line : Numbered) : Type 0 where
  pub head_stands : Contains lines head
  pub is_head : is_agent head.kind ≡ true
  pub line_stands : Contains lines line
  pub is_line : is_rule line.kind ≡ true
  pub before : head.line < line.line
  pub one_group : (ended begun : Numbered) → Contains lines ended → Contains lines begun →
      is_rule ended.kind ≡ true → is_agent begun.kind ≡ true →
      head.line < ended.line → ended.line < begun.line → begun.line < line.line → ⊥

-- the user-agent line names the token, in any case
abbrev pub names_token : List ℕ → Record → Bool
names_token word (agent everybody) = false
names_token word (agent (token name)) = is_same_word name word
names_token word (agent nobody) = false
names_token word (rule kind value) = false
names_token word other = false

-- the user-agent line names everybody
abbrev pub names_everybody : Record → Bool
names_everybody (agent everybody) = true
names_everybody (agent (token name)) = false
names_everybody (agent nobody) = false
names_everybody (rule kind value) = false
names_everybody other = false

-- some line names the token
abbrev pub is_named : List Numbered → List ℕ → Bool
is_named lines word = list_any (λ line. names_token word line.kind) lines

-- the record names the token if some line does, else `*`
abbrev pub speaks_to : List Numbered → List ℕ → Record → Bool
speaks_to lines word kind = if is_named lines word then names_token word kind else names_everybody kind

-- the rule line is for the token: governed by a line for it
pub record IsRuleFor (lines : List Numbered) (word : List ℕ) (ruled : Ruled) : Type 0 where
  pub head : Numbered
  pub speaks : speaks_to lines word head.kind ≡ true
  pub governs : Governs lines head (record_ruled ruled)

-- all rule lines for the token, each once, in line order
pub record AreRulesFor (lines : List Numbered) (word : List ℕ) (rules : List Ruled) : Type 0 where
  pub ordered : IsStrictlyIncreasing (map (λ ruled. ruled.line) rules)
  pub each : All (IsRuleFor lines word) rules
  pub every : (ruled : Ruled) → IsRuleFor lines word ruled → Contains rules ruled
