-- The reply to WHY: the answer in force for an authority. docs/FORMATS.md, replies.
-- Cited by `why_text` and `told`.
use Rattle.std.specs.Prelude.{List, [], ◌∷◌, ◌++◌, ℕ, Option, Some, None, Result, Ok, Err, codes}
use Rattle.authority_cache.specs.declared.standing_answer.StandingAnswer.{StandingAnswer}
use Rattle.counted_io.specs.Lines.{line_feed}
use Rattle.history_text.specs.SpellBase.{answer_words}
use Rattle.crawl_job.specs.declared.hop.Refusal.TheVariants as refusals
use Rattle.gate_core.specs.declared.refusal.NoMemory.{NoMemory}
use Rattle.line_text.specs.Pieces.{line_of}
use Rattle.command_lines.specs.RefusalText.{refusal_text}

-- the answer as in a base, after the line's letter: the authority, its turn, the moment when that turn began, and
-- what it says
abbrev pub explained_text : StandingAnswer → List ℕ
explained_text answer = (codes "WHY " ++ answer_words answer) ++ line_feed ∷ []

-- the reply
abbrev pub why_text : List ℕ → Result (Option StandingAnswer) NoMemory → List ℕ
why_text authority (Ok (Some answer)) = explained_text answer
why_text authority (Ok None) = line_of (codes "WHY" ∷ authority ∷ codes "unknown" ∷ [])
why_text authority (Err _) = refusal_text refusals.NoMemory
