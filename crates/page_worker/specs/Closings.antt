-- What closed a site: the last reply of a walk, and the answer that it decided.
-- Used by `closing`; RFC 9309, sections 2.3.1.2 and 2.3.1.4.
use Rattle.std.specs.Prelude.{Bool, false, Some, codes, if◌then◌else◌, string_bytes, take}
use Rattle.robots_text.specs.Words.{is_same_word}
use Rattle.robots_verdict.specs.declared.answer.Closure.TheVariants as closures
use Rattle.robots_verdict.specs.declared.said.Said.{Said}
use Rattle.robots_verdict.specs.declared.said.Said.TheVariants.{Closed}
use Rattle.robots_fetch.specs.declared.reply.RobotsReply.{RobotsReply}
use Rattle.robots_fetch.specs.declared.reply.RobotsReply.TheVariants.{Status}
use Rattle.fetchers.specs.declared.closed_by.ClosedBy.{ClosedBy}
use Rattle.fetchers.specs.declared.closed_by.ClosedBy.TheVariants as closings

-- the reply's Location begins with `https:`, in any case
abbrev pub leads_to_https : RobotsReply → Bool
leads_to_https (Status code (Some location) body max_age) =
    is_same_word (take 6 (string_bytes location)) (codes "https:")
leads_to_https _ = false

-- what closed the site by this answer; for a redirect, why it is not followed
abbrev pub decided_by : ClosedBy → RobotsReply → Said → ClosedBy
decided_by met reply (Closed closures.Scheme) = if leads_to_https reply then closings.Https else closings.OtherScheme
decided_by met reply (Closed closures.BadRedirect) = closings.BadRedirect
decided_by met reply _ = met
