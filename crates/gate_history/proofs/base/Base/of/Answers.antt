-- Lists in another order say what they said, so the result is a base.
-- By the law of order.
use Rattle.std.proofs.lemmas.List.Sorted.{All-permutation}
use Rattle.gate_history.specs.Grants.{IsSlotGrant}
use Rattle.gate_history.specs.History.{from}
use Rattle.gate_history.specs.Kept.{base_with, ordered_with}
use Rattle.gate_history.proofs.AnswerOrder.{order_rises, ordered_moves}
use Rattle.gate_history.proofs.LegalLaws.{says_base}
use Rattle.gate_history.proofs.Reordering.{reordering_says}
use Rattle.gate_history.proofs.base.Base.of.Goals as goal

pub invariant_of-result : goal.invariant_of-result
invariant_of-result c =
    let given = base_with c.args.left c.args.numbers in
    let made = ordered_with c.put_numbers_in_order.new.self c.args.numbers in
    let put = c.put_numbers_in_order.ensures in
    let same = ordered_moves c.args.left c.put_numbers_in_order.new.self c.args.numbers put.standing (put.same c.args.numbers) in (
      says_base made (from given) c.requires.base (reordering_says given made c.requires.base same),
      (
        record {
          answers = order_rises c.put_numbers_in_order.new.self.standing.items;
          turns = put.turns;
          permits = put.permits;
          runs = put.runs;
          grants = put.grants;
        },
        All-permutation IsSlotGrant c.args.left.grants.items c.put_numbers_in_order.new.self.grants.items same.grants c.requires.grants,
      ),
    )

pub returns-clause-same : goal.returns-clause-same
returns-clause-same c =
    let put = c.put_numbers_in_order.ensures in
    ordered_moves c.args.left c.put_numbers_in_order.new.self c.args.numbers put.standing (put.same c.args.numbers)

pub returns-clause-order : goal.returns-clause-order
returns-clause-order c =
    let put = c.put_numbers_in_order.ensures in
    record {
      answers = order_rises c.put_numbers_in_order.new.self.standing.items;
      turns = put.turns;
      permits = put.permits;
      runs = put.runs;
      grants = put.grants;
    }
