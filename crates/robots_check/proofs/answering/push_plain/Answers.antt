-- The answer passes, or is cut.
-- By the lemmas of `Before`.
use Rattle.counted_io.proofs.CallerLemmas.{on_err}
use Rattle.robots_check.proofs.Before.{cuts_bare, passes_bare, told_plain}
use Rattle.robots_check.proofs.answering.push_plain.Goals as goal

pub returns-in_err-push-clause-cut : goal.returns-in_err-push-clause-cut
returns-in_err-push-clause-cut g c =
    on_err c.from_residual.result
    (cuts_bare _ _ _ c.args.url.now _ _ _ _ _ (told_plain _ _ _ c.args.url.now c.args.path.now _ c.requires.ready.1 c.requires.has_path c.find-finding.ensures) c.finding_pieces.ensures c.in_err-push.ensures.err)

pub returns-clause-passes : goal.returns-clause-passes
returns-clause-passes g c =
    passes_bare _ _ _ c.args.url.now _ _ _ _ _ _ _ (told_plain _ _ _ c.args.url.now c.args.path.now _ c.requires.ready.1 c.requires.has_path c.find-finding.ensures) c.finding_pieces.ensures c.in_ok-push.ensures.ok c.outcome.ensures
