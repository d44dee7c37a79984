-- What an answer says, with its rules' octets.
-- Cited by all that writes an answer.
use Rattle.robots_verdict.specs.declared.said.Said.{Said}
use Rattle.robots_verdict.specs.declared.said.Said.TheVariants as says
use Rattle.history_text.specs.declared.kinds.AnswerContent.{AnswerContent}
use Rattle.history_text.specs.declared.kinds.AnswerContent.TheVariants as told

-- what an answer says
abbrev pub said_content : AnswerContent → Said
said_content (told.Rules octets) = says.Rules octets.now
said_content (told.Open opening) = says.Open opening
said_content (told.Closed closure) = says.Closed closure
