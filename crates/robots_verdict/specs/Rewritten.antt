-- The rule lines whose patterns are not in normal form, and how their forms are kept.
-- The view of `Rewritten`.
use Rattle.std.specs.Prelude.{◌≡◌, ℕ, ◌+◌, ◌≤◌, Contains, List, [], ◌++◌, ◌∷◌, length, slice_index_or, bytes_eq, if◌then◌else◌}
use Rattle.path_normal.specs.Normal.{normal_pattern}
use Rattle.robots_text.specs.Grouped.{Grouped}
use Rattle.robots_text.specs.Records.{Record, agent, rule, other}
use Rattle.robots_verdict.specs.declared.rewritten.Form.{Form}
use Rattle.robots_verdict.specs.Rows.{part}

-- a rule line's number, and its pattern in normal form
pub record FormOfLine : Type 0 where
  pub line : ℕ
  pub form : List ℕ

-- the kept forms, and their total octets
pub record Forms : Type 0 where
  pub of_lines : List FormOfLine
  pub octets : ℕ

-- a rule line's form, unless written so
abbrev pub rewritten_at : ℕ → Record → List FormOfLine
rewritten_at line (agent who) = []
rewritten_at line (rule kind value) =
    if bytes_eq (normal_pattern value) value then [] else record { line = line; form = normal_pattern value } ∷ []
rewritten_at line other = []

-- the forms of the records
abbrev pub rewritten_in : List Grouped → List FormOfLine
rewritten_in [] = []
rewritten_in (first ∷ lines) = rewritten_at first.line first.kind ++ rewritten_in lines

-- a kept form, as seen
abbrev pub form_seen : List ℕ → Form → FormOfLine
form_seen octets form = record { line = form.line; form = part octets form.start form.len }

-- no form is kept for this line
abbrev pub HasNoForm : List FormOfLine → ℕ → Type 0
HasNoForm forms line = (form : FormOfLine) → Contains forms form → form.line ≡ line → ⊥

-- this form is kept for this line
abbrev pub HasForm : List FormOfLine → ℕ → List ℕ → Type 0
HasForm forms line octets = (form : FormOfLine) × Contains forms form × (form.line ≡ line) × (octets ≡ form.form)

-- the form's octets are there
abbrev pub HasOctets : List ℕ → Form → Type 0
HasOctets octets form = form.start + form.len ≤ length octets

-- a form for places past the end
abbrev pub no_form : FormOfLine
no_form = record { line = 0; form = [] }

-- the form at a place
abbrev pub form_at : List FormOfLine → ℕ → FormOfLine
form_at forms place = slice_index_or forms place no_form
