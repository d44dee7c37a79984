-- Causes and refusals without words of their own in the table: their word.
use Rattle.std.proofs.Common.{◌≡◌, ◌≢◌, Option, refl}
use Rattle.gate_history.specs.declared.outcome.Cause.{Cause}
use Rattle.gate_history.specs.declared.outcome.Cause.TheVariants as causes
use Rattle.gate_history.specs.Wording.{cause_words}
use Rattle.crawl_job.specs.declared.hop.Refusal.{Refusal}
use Rattle.crawl_job.specs.declared.hop.Refusal.TheVariants as refusals
use Rattle.fetchers.specs.declared.closed_by.ClosedBy.{ClosedBy}
use Rattle.command_lines.specs.RefusalText.{refusal_word}
use Rattle.crawl_shift.specs.Causes.{denial_phrase, refusal_phrase, spaced_words}

pub not_closed : (cause : Cause) (by : Option ClosedBy) → cause ≢ causes.Closed → denial_phrase cause by ≡ spaced_words (cause_words cause)
not_closed causes.Spent by other = refl
not_closed causes.Unknown by other = refl
not_closed causes.Expired by other = refl
not_closed causes.Closed by other = absurd (other refl)
not_closed (causes.Line line) by other = refl

pub not_memory : (refusal : Refusal) → refusal ≢ refusals.NoMemory → refusal_phrase refusal ≡ refusal_word refusal
not_memory refusals.AuthoritiesFull other = refl
not_memory refusals.LogFull other = refl
not_memory refusals.Busy other = refl
not_memory refusals.PermitsFull other = refl
not_memory refusals.NoMemory other = absurd (other refl)
