-- Each kind of change has its law.
use Rattle.authority_cache.proofs.Telling as laws
use Rattle.authority_cache.proofs.laws.changes_tell.Goals as goal

pub returns-clause-new : goal.returns-clause-new
returns-clause-new c = laws.new

pub returns-clause-begun : goal.returns-clause-begun
returns-clause-begun c = laws.begun

pub returns-clause-arrived : goal.returns-clause-arrived
returns-clause-arrived c = laws.arrives

pub returns-clause-swept : goal.returns-clause-swept
returns-clause-swept c = laws.swept_away

pub returns-clause-limited : goal.returns-clause-limited
returns-clause-limited c = laws.limit_tells
