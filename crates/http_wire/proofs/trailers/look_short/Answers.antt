-- What follows the section was received behind it.
use Rattle.std.proofs.Common.{arith, drop, length-drop}
use Rattle.http_wire.proofs.trailers.look_short.Goals as goal

pub returns-in-Whole : goal.returns-in-Whole
returns-in-Whole c =
    let (fits, whole) = c.in-Whole.ensures in
    (drop c.in-Whole.len c.args.text.now, whole, omega (arith, fits, length-drop c.in-Whole.len c.args.text.now))
