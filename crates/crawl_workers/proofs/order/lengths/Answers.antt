-- One list more is counted.
-- Used by `lengths`.
use Rattle.std.proofs.Common.{◌∙◌, ap, arith}
use Rattle.job_line.specs.Sums.{jobs_in}
use Rattle.crawl_workers.proofs.Ordering.{jobs_in_more, weigh_all_left, weigh_ones}
use Rattle.crawl_workers.proofs.order.lengths.Goals as goal

pub loop-list-preserved : goal.loop-list-preserved
loop-list-preserved c =
    let so_far = c.loop-list.invariant in
    let list = c.list-item.result in
    let counts = ap jobs_in c.push_reserved.ensures.items ∙ jobs_in_more c.loop-list.counts.items c.len.result in
    record {
      counted = omega (arith, so_far.counted, counts, weigh_all_left (λ _. 1) c.args.lists.now c.loop-list.list-index list c.loop-list-test.true c.list-item.is, weigh_ones list.items, c.len.ensures);
      so_many = omega (arith, so_far.so_many, c.push_reserved.ensures.len);
      room = omega (arith, so_far.room, c.push_reserved.ensures.capacity);
    }
