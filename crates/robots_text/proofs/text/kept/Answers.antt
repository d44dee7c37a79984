-- The whole lines within the limit are the longest prefix.
use Rattle.std.proofs.Common.{sym, subst, ap, ◌∙◌}
use Rattle.robots_text.specs.Lines.{IsLongestFront, whole_lines}
use Rattle.robots_text.proofs.KeptLaws.{longest_front}
use Rattle.robots_text.proofs.text.kept.Goals as goal

pub returns-clause-longest : goal.returns-clause-longest
returns-clause-longest c = λ over.
    subst (IsLongestFront c.args.body.now) (ap whole_lines (sym c.split_at.ensures.front) ∙ sym c.whole_lines.ensures.value) (longest_front c.args.body.now)
