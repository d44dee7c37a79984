-- The place of the first octet that ends a front, or the length.
use Rattle.std.proofs.Common.{sym, subst}
use Rattle.memchr.specs.Find.{IsFirstByte}
use Rattle.robots_text.specs.Cut.{ends_front}
use Rattle.robots_text.proofs.Fronts.{found_first, found_none}
use Rattle.robots_text.proofs.line.far_front_len.Goals as goal

pub returns-in-Some-clause-len : goal.returns-in-Some-clause-len
returns-in-Some-clause-len c =
    sym (found_first ends_front c.args.text.now c.in-Some.len (subst (IsFirstByte ends_front c.args.text.now) c.in-Some.is c.memchr3.ensures))

pub returns-in-None-clause-len : goal.returns-in-None-clause-len
returns-in-None-clause-len c =
    sym (found_none ends_front c.args.text.now (subst (IsFirstByte ends_front c.args.text.now) c.in-None.is c.memchr3.ensures))
