-- What is read of the words of a dialogue is read of the line.
use Rattle.std.proofs.Common.{sym, subst, ◌∙◌}
use Rattle.path_normal.specs.Capacity.{IsRead}
use Rattle.command_lines.specs.CallOf.{dialogue_words_of, verb_words_of}
use Rattle.command_lines.specs.declared.verbs.Dialogue.{Dialogue}
use Rattle.command_lines.proofs.LineFaults.{read_at, read_of_words}
use Rattle.command_lines.proofs.command.read_command.Goals as goal

pub returns-in-Client-clause-read : goal.returns-in-Client-clause-read
returns-in-Client-clause-read g c =
    read_of_words c.args.schemes c.args.dialogue c.args.line.now c.in-Ok.words c.read_verb.result (sym c.of.ensures ∙ c.in-Ok.is)
    (read_at c.args.schemes c.args.dialogue c.in-Client.moment c.in-Ok.words c.read_verb.result c.in-Client.is
    (subst (λ (d : Dialogue). IsRead c.read_verb.result (verb_words_of c.args.schemes d c.in-Client.moment c.in-Ok.words)) c.in-Client.dialogue-is c.read_verb.ensures.read))

pub returns-in-Replay-clause-read : goal.returns-in-Replay-clause-read
returns-in-Replay-clause-read g c =
    read_of_words c.args.schemes c.args.dialogue c.args.line.now c.in-Ok.words c.read_timed.result (sym c.of.ensures ∙ c.in-Ok.is)
    (subst (λ (d : Dialogue). IsRead c.read_timed.result (dialogue_words_of c.args.schemes d c.in-Ok.words)) (sym c.in-Replay.is) c.read_timed.ensures.read)
