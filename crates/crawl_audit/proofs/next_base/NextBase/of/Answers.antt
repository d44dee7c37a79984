-- The lists are sorted, and their fields are those of lines.
use Rattle.std.proofs.Common.{refl}
use Rattle.crawl_audit.proofs.next_base.NextBase.of.Goals as goal

pub returns-in-Some : goal.returns-in-Some
returns-in-Some c = record {
  same = c.put_in_order.ensures.same c.args.numbers;
  order = c.put_in_order.ensures.order c.args.numbers;
  fields = c.know_fields.ensures;
  count = c.in-Some.ensures;
  taken = refl;
}
