-- What is read is the same by the table and by the lists.
use Rattle.permit_book.proofs.TellingFree as laws
use Rattle.permit_book.proofs.laws.readers_are_alike.Goals as goal

pub returns-clause-reads : goal.returns-clause-reads
returns-clause-reads c = laws.reads_alike

pub returns-clause-greatest : goal.returns-clause-greatest
returns-clause-greatest c = laws.greatest_alike
