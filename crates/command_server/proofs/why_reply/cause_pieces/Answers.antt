-- The words begin with a space.
use Rattle.std.proofs.Common.{◌++◌, ◌∙◌, ap, codes}
use Rattle.command_server.proofs.why_reply.cause_pieces.Goals as goal

pub returns : goal.returns
returns c = c.line_pieces.ensures ∙ ap (λ words. words ++ codes "\n") c.closing_words.ensures
