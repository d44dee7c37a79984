-- The causes of a table of hops, as docs/FORMATS.md has them.
-- Used by `causes`.
use Rattle.std.specs.Prelude.{ℕ, List, ◌++◌, Option, Some, codes}
use Rattle.std.specs.List.{join_with_byte}
use Rattle.robots_text.specs.Octets.{space}
use Rattle.gate_history.specs.declared.outcome.Cause.{Cause}
use Rattle.gate_history.specs.declared.outcome.Cause.TheVariants as causes
use Rattle.gate_history.specs.Wording.{cause_words}
use Rattle.robots_fetch.specs.declared.redirect.Stop.{Stop}
use Rattle.robots_fetch.specs.declared.redirect.Stop.TheVariants as stops
use Rattle.crawl_job.specs.declared.hop.Refusal.{Refusal}
use Rattle.crawl_job.specs.declared.hop.Refusal.TheVariants as refusals
use Rattle.fetchers.specs.CauseText.{closing_phrase}
use Rattle.fetchers.specs.declared.closed_by.ClosedBy.{ClosedBy}
use Rattle.command_lines.specs.RefusalText.{refusal_word}

-- what closed a site
abbrev pub closing_text : ClosedBy → List ℕ
closing_text by = codes "robots: " ++ closing_phrase by

-- words joined by single spaces
abbrev pub spaced_words : List (List ℕ) → List ℕ
spaced_words words = join_with_byte space words

-- why a page was denied; what closed its site, if known
abbrev pub denial_phrase : Cause → Option ClosedBy → List ℕ
denial_phrase causes.Closed (Some by) = closing_text by
denial_phrase cause _ = spaced_words (cause_words cause)

-- why the gate had no permit
abbrev pub refusal_phrase : Refusal → List ℕ
refusal_phrase refusals.NoMemory = codes "no memory"
refusal_phrase refusal = refusal_word refusal

-- why a redirect is not followed
abbrev pub stop_phrase : Stop → List ℕ
stop_phrase stops.TooManyRedirects = codes "too many redirects"
stop_phrase stops.BadRedirect = codes "redirect to no page"
stop_phrase stops.Scheme = codes "redirect to another scheme"
