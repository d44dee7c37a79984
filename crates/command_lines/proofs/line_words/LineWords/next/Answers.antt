-- The kept words without the first one, and those behind them, are left.
use Rattle.std.proofs.Common.{◌<◌, ◌-◌, drop, length, arith}
use Rattle.std.proofs.lemmas.List.{length-take}
use Rattle.line_text.specs.Words.{words_left}
use Rattle.command_lines.proofs.KeptWords.{one_less}
use Rattle.command_lines.proofs.line_words.LineWords.next.Goals as goal

pub invariant_of-self-in-len1-up : goal.invariant_of-self-in-len1-up
invariant_of-self-in-len1-up c =
    let front = c.self.inside.front.now in
    let some : 0 < length front = omega (arith, c.in-len1-up.len_at_least) in
    let long = length-take (length front - 1) (drop 1 front) in
    let few = c.self.invariant.0 in
    (omega (arith, long, few, some), λ more. one_less front (words_left c.self.inside.behind) (words_left c.self.inside.all) c.self.inside.taken some (c.self.invariant.1 some))
