-- The place of the first line end, or the length.
use Rattle.std.proofs.Common.{sym, subst}
use Rattle.memchr.specs.Find.{IsFirstByte}
use Rattle.robots_text.specs.Lines.{is_line_end}
use Rattle.robots_text.proofs.Fronts.{found_first, found_none}
use Rattle.robots_text.proofs.line.line_len.Goals as goal

pub returns-in-Some-clause-len : goal.returns-in-Some-clause-len
returns-in-Some-clause-len c =
    sym (found_first is_line_end c.args.text.now c.in-Some.len (subst (IsFirstByte is_line_end c.args.text.now) c.in-Some.is c.memchr2.ensures))

pub returns-in-None-clause-len : goal.returns-in-None-clause-len
returns-in-None-clause-len c =
    sym (found_none is_line_end c.args.text.now (subst (IsFirstByte is_line_end c.args.text.now) c.in-None.is c.memchr2.ensures))
