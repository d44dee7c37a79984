-- One more end was added.
use Rattle.std.proofs.Common.{List, ℕ, ap, ◌∙◌}
use Rattle.crawl_audit.specs.Ending.{unanswered}
use Rattle.crawl_audit.proofs.EndingLines.{ends_more}
use Rattle.crawl_audit.proofs.ending.push_arrivals.Goals as goal

pub loop-turn-preserved : goal.loop-turn-preserved
loop-turn-preserved c =
    let turn = c.turn-item.result in
    let same = ap (λ (a : List ℕ). unanswered c.args.moment (record { authority = a; turn = turn.turn; begun = turn.begun })) c.in_ok-copy.ensures in
    ends_more (unanswered c.args.moment) c.args.turns.now c.loop-turn.turn-index c.turn-item.result c.loop-turn-test.true _ _ _ _ c.in_ok-push.ensures.items (same ∙ ap (unanswered c.args.moment) c.turn-item.is) c.loop-turn.invariant
