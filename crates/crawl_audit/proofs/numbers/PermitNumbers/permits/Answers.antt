-- Each number has its permit listed once, in the list of its phase.
-- By the lemmas of `ListedNumbers`.
use Rattle.std.proofs.Common.{arith}
use Rattle.permit_book.specs.Outstanding.{is_numbered}
use Rattle.crawl_audit.specs.Tables.{running_under, unspent_under}
use Rattle.crawl_audit.proofs.ListedNumbers.{listed, listed_more, running_own, unspent_own}
use Rattle.crawl_audit.proofs.numbers.PermitNumbers.permits.Goals as goal

pub loop-index-preserved : goal.loop-index-preserved
loop-index-preserved c =
    let es = c.args.self.now.out.entries in
    let number = c.in-Some.number.now in
    let phase = c.in-Some.phase.now in
    let at = c.in-Some.ensures.entry in
    let pushed = c.in_ok-push_permit-in-Some.ensures in (
      listed_more unspent_under es c.loop-index.index (number, phase) _ _ at c.loop-index.invariant.0 pushed.unspent,
      listed_more running_under es c.loop-index.index (number, phase) _ _ at c.loop-index.invariant.1 pushed.running,
    )

pub returns-clause-unspent : goal.returns-clause-unspent
returns-clause-unspent c =
    let len = c.len-index-end.ensures in
    let last = c.loop-index-test.false in
    listed unspent_under is_numbered unspent_own c.args.self.now.out.entries len.unique c.loop-index.index _ (omega (arith, len.len, last)) c.loop-index.invariant.0

pub returns-clause-running : goal.returns-clause-running
returns-clause-running c =
    let len = c.len-index-end.ensures in
    let last = c.loop-index-test.false in
    listed running_under is_numbered running_own c.args.self.now.out.entries len.unique c.loop-index.index _ (omega (arith, len.len, last)) c.loop-index.invariant.1
