-- A prefix of the answers is a prefix of the text.
-- By `Passing`.
use Rattle.std.proofs.Common.{◌∙◌}
use Rattle.counted_io.proofs.CallerLemmas.{on_err}
use Rattle.robots_check.proofs.Passing.{passing_next, passing_stop}
use Rattle.robots_check.proofs.answering.push_answers.Goals as goal

pub returns-in_err-push_answer-clause-cut : goal.returns-in_err-push_answer-clause-cut
returns-in_err-push_answer-clause-cut g c =
    on_err c.from_residual.result
    (passing_stop _ _ _ (λ url. url.now) c.args.urls.now c.loop-url.url-index _ _ _ _ _ _ _ c.loop-url-test.true c.loop-url.invariant.0 c.in_err-push_answer.ensures.cut)

pub loop-url-preserved : goal.loop-url-preserved
loop-url-preserved g c = (
  passing_next _ _ _ (λ url. url.now) c.args.urls.now c.loop-url.url-index _ _ _ _ _ _ _ _ _ _ c.loop-url-test.true c.loop-url.invariant.0 c.in_ok-push_answer.ensures.passes c.worse-outcome.ensures,
  c.in_ok-push_answer.ensures.count ∙ c.loop-url.invariant.1,
)
