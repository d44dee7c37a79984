-- Each slot has its greatest generation listed once.
-- By the lemmas of `ListedNumbers`.
use Rattle.std.proofs.Common.{arith}
use Rattle.gate_history.specs.Grants.{is_in}
use Rattle.crawl_audit.specs.Tables.{grants_under}
use Rattle.crawl_audit.proofs.ListedNumbers.{grants_own, listed, listed_more}
use Rattle.crawl_audit.proofs.numbers.PermitNumbers.slot_grants.Goals as goal

pub loop-index-preserved : goal.loop-index-preserved
loop-index-preserved c =
    listed_more grants_under c.args.self.now.by_slot.entries c.loop-index.index (c.in-Some.slot.now, c.in-Some.last.now) _ _ c.in-Some.ensures.entry c.loop-index.invariant
    c.in_ok-push-in-Some.ensures.items

pub returns : goal.returns
returns c =
    let len = c.len-index-end.ensures in
    let last = c.loop-index-test.false in
    listed grants_under is_in grants_own c.args.self.now.by_slot.entries len.unique c.loop-index.index _ (omega (arith, len.len, last)) c.loop-index.invariant
