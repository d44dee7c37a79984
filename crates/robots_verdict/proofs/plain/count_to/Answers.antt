-- Each step halves the range.
use Rattle.std.proofs.Common.{◌∷◌, ◌+◌, ◌-◌, ◌/◌, ◌<◌, sym, ◌∙◌, arith}
use Rattle.robots_verdict.proofs.PlainHits.{cut_above, cut_below, cut_of}
use Rattle.robots_verdict.proofs.plain.count_to.Goals as goal

pub loop-low-preserved-then-is_behind : goal.loop-low-preserved-then-is_behind
loop-low-preserved-then-is_behind c =
    let rows = c.args.rows.now.rows in
    let places = c.args.places.now in
    let text = c.args.group ∷ c.args.path.now in
    let low = c.loop-low.low in
    let high = c.loop-low.high in
    let middle = low + (high - low) / 2 in
    let to : middle < high = omega (arith, c.loop-low-test.true) in
    cut_below rows places text c.requires.rise low high middle c.loop-low.invariant (omega arith) to
    (sym c.is_behind.ensures ∙ c.if-is_behind.true)

pub loop-low-preserved : goal.loop-low-preserved
loop-low-preserved c =
    let rows = c.args.rows.now.rows in
    let places = c.args.places.now in
    let text = c.args.group ∷ c.args.path.now in
    let low = c.loop-low.low in
    let high = c.loop-low.high in
    let middle = low + (high - low) / 2 in
    let to : middle < high = omega (arith, c.loop-low-test.true) in
    cut_above rows places text c.requires.rise low high middle c.loop-low.invariant (omega arith) to
    (sym c.is_behind.ensures ∙ c.if-is_behind.false)

pub returns : goal.returns
returns c =
    cut_of c.args.rows.now.rows c.args.places.now (c.args.group ∷ c.args.path.now) c.loop-low.low c.loop-low.high c.loop-low.invariant c.loop-low-test.false
