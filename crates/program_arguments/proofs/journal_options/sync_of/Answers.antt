-- A word that says no time of a sync is the one that was matched.
-- The matched word is the witness.
use Rattle.std.proofs.Common.{sym}
use Rattle.program_arguments.proofs.journal_options.sync_of.Goals as goal

pub returns-in-Some-clause-refused : goal.returns-in-Some-clause-refused
returns-in-Some-clause-refused c =
    (c.in-Some.field-0.now, (sym c.in-Some.ensures, (c.in-Some.not-always, c.in-Some.not-second, c.in-Some.not-never)))
