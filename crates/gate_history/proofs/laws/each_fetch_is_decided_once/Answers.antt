-- A text has one verdict.
use Rattle.gate_history.proofs.Deciding as laws
use Rattle.gate_history.proofs.laws.each_fetch_is_decided_once.Goals as goal

pub returns : goal.returns
returns c = laws.decides_once
