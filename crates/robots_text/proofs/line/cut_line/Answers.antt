-- The record of the first line's front, and those of the lines after its end.
use Rattle.robots_text.proofs.Fronts.{front_at}
use Rattle.robots_text.proofs.line.cut_line.Goals as goal

pub returns-clause-records : goal.returns-clause-records
returns-clause-records c =
    let cut = front_at c.args.text.now c.requires in
    rw c.behind_end-2.ensures (rw c.from_line_end.ensures (rw c.split_at-2.ensures.front (rw c.split_at-2.ensures.back (rw c.front_len.ensures.len cut))))
