-- The end of each site is found.
-- Used by `Crew::draw_rest`.
use Rattle.std.proofs.Common.{arith}
use Rattle.crawl_workers.proofs.Drawing.{all_found}
use Rattle.crawl_workers.proofs.crew.Crew.draw_rest.Goals as goal

pub returns-clause-ok : goal.returns-clause-ok
returns-clause-ok g c =
    let so_far = c.loop-site.invariant in record {
      has_worked = so_far.worked;
      all_ended = all_found c.loop-site.work.seat.ended
          (λ site there. so_far.found site (omega (arith, there, so_far.stays.same_sites, c.requires.seat.its_sites, c.loop-site-test.false)));
    }
