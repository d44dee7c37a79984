-- One number more in one list.
-- Used by `BySite::add`.
use Rattle.std.proofs.Common.{◌∷◌, [], ap, arith, sym}
use Rattle.job_line.specs.Sums.{weigh}
use Rattle.crawl_workers.proofs.Ordering.{weigh_all_put, weigh_both}
use Rattle.crawl_workers.proofs.order.BySite.add.Goals as goal

pub returns : goal.returns
returns c weight =
    let lists = c.site_of.new.self.lists.items in
    let site = c.in_ok-site.site in
    let old = c.index_mut.result.now in
    let items = ap (weigh weight) (c.in_ok-push.ensures {u = tt}).items in
    omega (
      arith,
      weigh_all_put weight lists site old c.push.new.self (omega (arith, (c.in_ok-site.ensures {u = tt}).there)) (sym c.index_mut.ensures.value),
      items,
      weigh_both weight old.items (c.args.number ∷ []),
      (c.in_ok-site.ensures {u = tt}).same weight,
    )
