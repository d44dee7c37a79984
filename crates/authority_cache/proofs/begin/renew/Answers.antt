-- The ends of the sites so far are kept.
use Rattle.std.proofs.Common.{arith}
use Rattle.authority_cache.proofs.EndLaws.{covers_further}
use Rattle.authority_cache.proofs.EntryLaws.{at-within}
use Rattle.authority_cache.proofs.begin.renew.Goals as goal

pub loop-index-preserved : goal.loop-index-preserved
loop-index-preserved c = (
  covers_further c.loop-index.index c.args.sites.now.entries c.loop-index.ends c.keep_end.new.ends c.keep_end.ensures c.loop-index.invariant.0,
  omega (arith, c.loop-index.invariant.1, c.keep_end.ensures.many),
  omega (arith, c.loop-index.invariant.2, c.keep_end.ensures.room),
)

pub returns-clause-covered : goal.returns-clause-covered
returns-clause-covered c = λ i e at.
    let low = (at-within c.args.sites.now.entries i e at).0 in
    let len = c.len-index-end.ensures.len in
    let last = c.loop-index-test.false in
    c.loop-index.invariant.0 i e (omega (arith, low, len, last)) at
