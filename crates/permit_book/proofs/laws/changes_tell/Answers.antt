-- Each kind of change has its law.
use Rattle.permit_book.proofs.Telling as laws
use Rattle.permit_book.proofs.laws.changes_tell.Goals as goal

pub returns-clause-new : goal.returns-clause-new
returns-clause-new c = laws.new

pub returns-clause-granted : goal.returns-clause-granted
returns-clause-granted c = laws.granted

pub returns-clause-started : goal.returns-clause-started
returns-clause-started c = laws.started

pub returns-clause-returned : goal.returns-clause-returned
returns-clause-returned c = laws.returned

pub returns-clause-finished : goal.returns-clause-finished
returns-clause-finished c = laws.finished
