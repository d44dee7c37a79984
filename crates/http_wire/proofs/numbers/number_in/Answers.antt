-- What is no text writes no number.
use Rattle.http_wire.proofs.Numerals.{no_number}
use Rattle.http_wire.proofs.numbers.number_in.Goals as goal

pub returns-in-Err : goal.returns-in-Err
returns-in-Err c = no_number c.args.member.now c.in-Err.ensures.cases.0
