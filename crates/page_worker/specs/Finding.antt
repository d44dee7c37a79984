-- What a worker finds of an authority's answer, for which it waits for nobody.
-- Used by `find_answer`; RFC 9309, section 2.4.
use Rattle.std.specs.Prelude.{◌≡◌, ℕ, List, Result, Ok, Err}
use Rattle.gate_lock.specs.Desks.{DeskView}
use Rattle.crawl_job.specs.declared.hop.Refusal.{Refusal}
use Rattle.page_worker.specs.declared.worker.AnswerSeen.{AnswerSeen}
use Rattle.page_worker.specs.declared.worker.AnswerSeen.TheVariants as seens
use Rattle.page_worker.specs.Visits.{IsInFlight, IsTurnRefused, SeesToAnswer}
use Rattle.page_worker.specs.World.{World}

-- an answer is seen to, or another desk fetches it, or the gate refuses the turn; where so many more authorities may
-- become known, and so many afterwards
abbrev pub FindsAnswer : World → List ℕ → ℕ → Result AnswerSeen Refusal → ℕ → DeskView → DeskView → Type 0
FindsAnswer world authority left (Ok seens.Answered) left2 old new = SeesToAnswer world authority old new
FindsAnswer world authority left (Ok seens.InFlight) left2 old new =
    IsInFlight world authority old new × (left2 ≡ left)
FindsAnswer world authority left (Err refusal) left2 old new = IsTurnRefused world authority left refusal old new
