-- The lines of the entries behind a place follow it.
-- By the lemma `followed` of `Following`.
use Rattle.std.proofs.lemmas.Result.{IfOk-weaker}
use Rattle.gate_journal.proofs.Following.{followed}
use Rattle.gate_journal.proofs.spelling.follow.Goals as goal

pub returns-in-Some-clause-follows : goal.returns-in-Some-clause-follows
returns-in-Some-clause-follows c =
    IfOk-weaker c.lines.result _ _
    (λ text is. followed c.args.place (record { base = c.args.base.now; entries = c.args.entries.now }) c.in-Some.entries.now text.items c.in-Some.ensures is)
    c.lines.ensures.lines
