-- The words for why a fetch is allowed or denied (RFC 9309, 2.2.2 and 2.3.1).
-- Used wherever a reason or a cause is written or read.
use Rattle.std.specs.Prelude.{ℕ, List, [], ◌∷◌, Option, Some, None, codes, decimal, if◌then◌else◌}
use Rattle.std.specs.Option.{option_map}
use Rattle.std.specs.Str.{bytes_eq}
use Rattle.gate_history.specs.declared.outcome.Cause.{Cause}
use Rattle.gate_history.specs.declared.outcome.Cause.TheVariants as causes
use Rattle.gate_history.specs.declared.outcome.Reason.{Reason}
use Rattle.gate_history.specs.declared.outcome.Reason.TheVariants as reasons
use Rattle.gate_history.specs.declared.wording.Wording.{Wording}

-- a word, and a line's number if there is one
abbrev pub word_with : List ℕ → Option ℕ → List (List ℕ)
word_with word (Some line) = word ∷ decimal line ∷ []
word_with word None = word ∷ []

-- the words of a wording
abbrev pub words_in : Wording → List (List ℕ)
words_in wording = word_with wording.word.now wording.line

-- the words of a reason
abbrev pub reason_words : Reason → List (List ℕ)
reason_words reasons.Open = codes "open" ∷ []
reason_words (reasons.Line line) = codes "line" ∷ decimal line ∷ []
reason_words reasons.NoRule = codes "norule" ∷ []
reason_words reasons.RobotsPath = codes "robots" ∷ []

-- the words of a cause
abbrev pub cause_words : Cause → List (List ℕ)
cause_words causes.Spent = codes "spent" ∷ []
cause_words causes.Unknown = codes "unknown" ∷ []
cause_words causes.Expired = codes "expired" ∷ []
cause_words causes.Closed = codes "closed" ∷ []
cause_words (causes.Line line) = codes "line" ∷ decimal line ∷ []

-- what a word names, by a list of words
abbrev pub named_by : {X : Type 0} → List (List ℕ × Option X) → List ℕ → Option X
named_by [] word = None
named_by (name ∷ others) word = if bytes_eq word name.0 then name.1 else named_by others word

-- the reason for a word, with the line of this number
abbrev pub reason_named : List ℕ → Option ℕ → Option Reason
reason_named word line = named_by
    ((codes "open", Some reasons.Open) ∷ (codes "norule", Some reasons.NoRule)
    ∷ (codes "robots", Some reasons.RobotsPath) ∷ (codes "line", option_map reasons.Line line) ∷ []) word

-- the cause for a word, with the line of this number
abbrev pub cause_named : List ℕ → Option ℕ → Option Cause
cause_named word line = named_by
    ((codes "spent", Some causes.Spent) ∷ (codes "unknown", Some causes.Unknown)
    ∷ (codes "expired", Some causes.Expired) ∷ (codes "closed", Some causes.Closed)
    ∷ (codes "line", option_map causes.Line line) ∷ []) word
