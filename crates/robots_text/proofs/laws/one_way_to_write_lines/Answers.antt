-- Both laws hold of a text without its byte order mark.
use Rattle.robots_text.specs.Lines.{unmarked}
use Rattle.robots_text.proofs.LineLaws.{are_lines, only_lines}
use Rattle.robots_text.proofs.laws.one_way_to_write_lines.Goals as goal

pub returns-clause-lines : goal.returns-clause-lines
returns-clause-lines c = λ text. are_lines (unmarked text)

pub returns-clause-only : goal.returns-clause-only
returns-clause-only c = λ text lines written. only_lines (unmarked text) lines written
