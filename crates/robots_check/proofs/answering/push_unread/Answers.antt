-- The answer to an unreadable URL passes, or is cut.
-- By the lemmas of `Before`.
use Rattle.counted_io.proofs.CallerLemmas.{on_err}
use Rattle.robots_check.proofs.Before.{cuts_bare, passes_bare, told_unread}
use Rattle.robots_check.proofs.answering.push_unread.Goals as goal

pub returns-in_err-push-clause-cut : goal.returns-in_err-push-clause-cut
returns-in_err-push-clause-cut g c =
    on_err c.from_residual.result (cuts_bare _ _ _ c.args.url.now _ _ _ _ _ (told_unread _ _ _ c.args.url.now c.args.fault c.requires) c.finding_pieces.ensures c.in_err-push.ensures.err)

pub returns-clause-passes : goal.returns-clause-passes
returns-clause-passes g c =
    passes_bare _ _ _ c.args.url.now _ _ _ _ _ _ _ (told_unread _ _ _ c.args.url.now c.args.fault c.requires) c.finding_pieces.ensures c.in_ok-push.ensures.ok c.outcome.ensures
