-- The reply to WHY: the answer that stands, and what closed its site. docs/FORMATS.md, replies.
-- Cited by `why_reply` and `told`.
use Rattle.std.specs.Prelude.{List, ◌++◌, ℕ, Bool, true, false, Option, Some, None, Result, Ok, Err, codes}
use Rattle.robots_verdict.specs.declared.said.Said.{Said}
use Rattle.robots_verdict.specs.declared.said.Said.TheVariants as says
use Rattle.authority_cache.specs.declared.standing_answer.StandingAnswer.{StandingAnswer}
use Rattle.gate_core.specs.declared.refusal.NoMemory.{NoMemory}
use Rattle.history_text.specs.SpellBase.{answer_words}
use Rattle.fetchers.specs.CauseText.{closing_phrase}
use Rattle.fetchers.specs.declared.closed_by.ClosedBy.{ClosedBy}
use Rattle.command_lines.specs.WhyText.{why_text}

-- the answer closes its site
abbrev pub says_closed : Said → Bool
says_closed (says.Closed _) = true
says_closed (says.Open _) = false
says_closed (says.Rules _) = false

-- there is an answer, which closes its site
abbrev pub is_closed : Result (Option StandingAnswer) NoMemory → Bool
is_closed (Ok (Some answer)) = says_closed answer.says
is_closed (Ok None) = false
is_closed (Err _) = false

-- an answer, and what closed its site
abbrev pub closed_text : StandingAnswer → ClosedBy → List ℕ
closed_text answer by = (codes "WHY " ++ answer_words answer) ++ (codes " " ++ (closing_phrase by ++ codes "\n"))

-- the reply
abbrev pub why_reply_text : List ℕ → Result (Option StandingAnswer) NoMemory → Option ClosedBy → List ℕ
why_reply_text authority (Ok (Some answer)) (Some by) = closed_text answer by
why_reply_text authority (Ok (Some answer)) None = why_text authority (Ok (Some answer))
why_reply_text authority (Ok None) closed_by = why_text authority (Ok None)
why_reply_text authority (Err fault) closed_by = why_text authority (Err fault)
