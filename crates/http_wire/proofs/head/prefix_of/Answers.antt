-- A short text is its own prefix.
use Rattle.std.proofs.Common.{◌≤◌, ◌∙◌, ap, length, drop, sym, arith, length-drop}
use Rattle.std.proofs.lemmas.List.{take_all, take_rest}
use Rattle.http_wire.specs.Limits.{max_head}
use Rattle.http_wire.proofs.head.prefix_of.Goals as goal

pub returns-then-text-lt-MAX_HEAD : goal.returns-then-text-lt-MAX_HEAD
returns-then-text-lt-MAX_HEAD c =
    let text = drop c.args.at c.args.bytes.now in
    let whole = take_rest c.args.bytes.now c.args.at in
    let short : length text ≤ max_head = omega (arith, c.if-text-lt-MAX_HEAD.true, length-drop c.args.at c.args.bytes.now, ap length whole) in
    whole ∙ sym (take_all max_head text short)
