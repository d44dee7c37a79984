-- The numbers of one more list follow the others.
-- Used by `joined`.
use Rattle.std.proofs.Common.{◌∙◌, ◌++◌, ap, arith}
use Rattle.job_line.specs.Sums.{weigh}
use Rattle.crawl_workers.proofs.Ordering.{weigh_all_left, weigh_both}
use Rattle.crawl_workers.proofs.order.joined.Goals as goal

pub loop-list-preserved : goal.loop-list-preserved
loop-list-preserved c weight =
    let list = c.list-item.result in
    let numbers = c.loop-list.numbers.items in
    let items = (c.in_ok-extend_from_slice.ensures {u = tt}).items ∙ ap (λ xs. numbers ++ xs) c.as_slice.ensures.value in
    omega (
      arith,
      c.loop-list.invariant weight,
      ap (weigh weight) items,
      weigh_both weight numbers list.items,
      weigh_all_left weight c.args.lists.now c.loop-list.list-index list c.loop-list-test.true c.list-item.is,
    )
