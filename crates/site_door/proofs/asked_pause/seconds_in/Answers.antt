-- One digit more is read.
-- By `reads_one` of `Digits`.
use Rattle.std.proofs.Common.{rules, ◌≡◌, ◌+◌, ◌-◌, ◌*◌, true, min}
use Rattle.std.specs.Char.{is_ascii_digit}
use Rattle.site_door.specs.Limits.{most_pause}
use Rattle.site_door.proofs.Digits.{reads_one}
use Rattle.site_door.proofs.asked_pause.seconds_in.Goals as goal

pub loop-digit-preserved : goal.loop-digit-preserved
loop-digit-preserved c =
    let digit = c.in-Some.digit.now in
    let one : is_ascii_digit digit ≡ true = search rules in
    let next : c.min-seconds.result ≡ min (c.loop-digit.seconds * 10 + (digit - 48)) most_pause = search rules in
    reads_one most_pause c.loop-digit.seconds c.min-seconds.result digit c.args.digits.now c.loop-digit.rest.now c.in-Some.after.now
    c.in-Some.ensures.cases.0 one next c.loop-digit.invariant.0 c.loop-digit.invariant.1.0
