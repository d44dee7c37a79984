-- What the parser finds in the octets received.
use Rattle.std.proofs.Common.{◌<◌, length, refl, length-take, drop, ap, sym, ◌∙◌, arith}
use Rattle.std.proofs.lemmas.Bool.{false≢true}
use Rattle.http_wire.specs.Limits.{max_head}
use Rattle.http_wire.proofs.HeadFacts.{prefix_open, passes_same, short_of, open_long, many_long, never_bad}
use Rattle.http_wire.proofs.head.HeadFinder.step.Goals as goal

pub parse-requires-clause-short : goal.parse-requires-clause-short
parse-requires-clause-short c = omega (arith, ap length c.prefix_of-text.ensures, length-take max_head (drop c.args.self.now.at c.args.bytes.now))

pub returns-in-Open-clause-sees : goal.returns-in-Open-clause-sees
returns-in-Open-clause-sees c =
    let is = c.prefix_of-text.ensures in
    let short : length c.prefix_of-text.result.now < max_head = omega (arith, c.if-text-lt-MAX_HEAD.true) in (
      passes_same c.args.self.now c.waits.new.self c.args.bytes.now c.waits.ensures.at c.waits.ensures.passed c.requires,
      short_of c.args.self.now c.waits.new.self c.args.bytes.now c.prefix_of-text.result.now is c.waits.ensures.at c.requires short,
      λ _. prefix_open c.args.self.now c.waits.new.self c.args.bytes.now c.prefix_of-text.result.now is c.waits.ensures.at
          c.in-Open.ensures.parses.0 c.in-Open.ensures.parses.1 short,
    )

pub returns-in-Open-2-clause-faults : goal.returns-in-Open-2-clause-faults
returns-in-Open-2-clause-faults c more limit =
    open_long c.args.self.now c.args.bytes.now c.prefix_of-text.result.now more c.prefix_of-text.ensures c.requires
    c.in-Open-2.ensures.parses.0 (omega (arith, c.if-text-lt-MAX_HEAD.false))

pub returns-in-TooMany-clause-sees : goal.returns-in-TooMany-clause-sees
returns-in-TooMany-clause-sees c =
    let is = c.prefix_of-text.ensures in
    let short : length c.prefix_of-text.result.now < max_head = omega (arith, c.if-text-lt-MAX_HEAD-2.true) in (
      passes_same c.args.self.now (record c.waits.new.self { scan = c.stop.new.self }) c.args.bytes.now c.waits.ensures.at c.waits.ensures.passed c.requires,
      short_of c.args.self.now (record c.waits.new.self { scan = c.stop.new.self }) c.args.bytes.now c.prefix_of-text.result.now is c.waits.ensures.at c.requires short,
      λ last. absurd (false≢true (sym c.if-not-last.true ∙ last)),
    )

pub returns-in-TooMany-2-clause-faults : goal.returns-in-TooMany-2-clause-faults
returns-in-TooMany-2-clause-faults c more limit =
    many_long c.args.self.now c.args.bytes.now c.prefix_of-text.result.now more c.prefix_of-text.ensures c.requires
    c.in-TooMany.ensures.parses.0 c.in-TooMany.ensures.parses.1

pub returns-in-Bad-clause-faults : goal.returns-in-Bad-clause-faults
returns-in-Bad-clause-faults c more limit =
    never_bad c.args.self.now c.args.bytes.now c.prefix_of-text.result.now more c.prefix_of-text.ensures c.requires c.in-Bad.ensures.parses

pub returns-then-waits-clause-sees : goal.returns-then-waits-clause-sees
returns-then-waits-clause-sees c =
    let waits = c.if-waits.ensures.short refl in (
      passes_same c.args.self.now c.waits.new.self c.args.bytes.now c.waits.ensures.at c.waits.ensures.passed c.requires,
      short_of c.args.self.now c.waits.new.self c.args.bytes.now c.prefix_of-text.result.now c.prefix_of-text.ensures c.waits.ensures.at c.requires waits.1,
      λ last. absurd (false≢true (sym waits.0 ∙ last)),
    )
