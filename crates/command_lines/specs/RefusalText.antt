-- The line of a refusal: the reply or hop when the gate itself refuses.
-- Cited by `refusal_text` and the replies; docs/FORMATS.md has the words.
use Rattle.std.specs.Prelude.{ℕ, List, [], ◌∷◌, codes}
use Rattle.crawl_job.specs.declared.hop.Refusal.{Refusal}
use Rattle.crawl_job.specs.declared.hop.Refusal.TheVariants as refusals
use Rattle.line_text.specs.Pieces.{line_of}

-- the line of an error
abbrev pub error_of : List ℕ → List ℕ
error_of word = line_of (codes "ERR" ∷ word ∷ [])

-- the word of a refusal
abbrev pub refusal_word : Refusal → List ℕ
refusal_word refusals.AuthoritiesFull = codes "authorities"
refusal_word refusals.LogFull = codes "log"
refusal_word refusals.Busy = codes "busy"
refusal_word refusals.PermitsFull = codes "permits"
refusal_word refusals.NoMemory = codes "memory"

-- the line of a refusal
abbrev pub refusal_text : Refusal → List ℕ
refusal_text refusal = error_of (refusal_word refusal)
