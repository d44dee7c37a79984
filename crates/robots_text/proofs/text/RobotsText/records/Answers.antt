-- There are no more records than octets.
use Rattle.std.proofs.Common.{◌≤◌, length, sym, subst, arith}
use Rattle.robots_text.specs.Lines.{text_limit}
use Rattle.robots_text.specs.Records.{Numbered}
use Rattle.std.proofs.Common.{List}
use Rattle.robots_text.proofs.Bounds.{few_records}
use Rattle.robots_text.proofs.text.RobotsText.records.Goals as goal

pub returns-clause-few : goal.returns-clause-few
returns-clause-few c =
    subst (λ (lines : List Numbered). length lines ≤ text_limit) (sym c.of.ensures)
    (omega (arith, few_records c.unmarked.result.now, c.unmarked.ensures.within, c.as_slice.ensures.len, c.self.invariant))
