-- By the lemmas of `IdleTables`.
use Rattle.permit_book.proofs.IdleTables as laws
use Rattle.permit_book.proofs.laws.idle_tables_tell.Goals as goal

pub returns-clause-idle : goal.returns-clause-idle
returns-clause-idle c = laws.idle_empty

pub returns-clause-noted : goal.returns-clause-noted
returns-clause-noted c = laws.noted_tells
