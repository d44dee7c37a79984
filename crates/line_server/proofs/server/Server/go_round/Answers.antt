-- One more round is a sweep at the next reading, or none.
-- By the lemma `one_gone` of `Rounds`.
use Rattle.std.proofs.Common.{rules}
use Rattle.line_server.proofs.Rounds.{one_gone}
use Rattle.line_server.proofs.server.Server.go_round.Goals as goal

pub loop-preserved : goal.loop-preserved
loop-preserved g c =
    let gone = one_gone _ _ _ _ _ _ c.loop.invariant.gone c.see_to.ensures.sweeps c.see_to.ensures.number in
    search rules
