-- Each kind of change has its law.
use Rattle.permit_book.proofs.HeldLaws as laws
use Rattle.permit_book.proofs.laws.holds_follow.Goals as goal

pub returns-clause-new : goal.returns-clause-new
returns-clause-new c = laws.held_new

pub returns-clause-granted : goal.returns-clause-granted
returns-clause-granted c = laws.held_granted

pub returns-clause-started : goal.returns-clause-started
returns-clause-started c = laws.held_started

pub returns-clause-ended : goal.returns-clause-ended
returns-clause-ended c = laws.held_ended
