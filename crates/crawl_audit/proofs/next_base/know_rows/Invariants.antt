-- The fields of the rows so far are those of lines.
use Rattle.std.proofs.Common.{All, take}
use Rattle.crawl_audit.proofs.next_base.know_rows.Given as goal

abbrev pub invariant-loop-row : goal.invariant-loop-row
invariant-loop-row g l = All g.T.TextLine.has_fields (take l.row-index l.rows)
