-- Each step adds to what was consumed before it.
use Rattle.std.proofs.Common.{rules, arith, subst, ◌∙◌, ◌<◌, length}
use Rattle.counted_io.specs.Lines.{HasNoLineFeed}
use Rattle.counted_io.proofs.Taking.{feed_absurd, taken-still, part_taken, moves_line-takes, moves_too_long-finds}
use Rattle.counted_io.proofs.line_reader.LineReader.next_line_to.Goals as goal

pub loop-self-preserved : goal.loop-self-preserved
loop-self-preserved g c =
    let held = taken-still _ _ _ _ c.loop-self.invariant.consumed c.has_more.ensures.kept in
    let moved = rw c.in-Open.is at c.in_ok-move_part.ensures.moves in
    let taken = part_taken _ _ _ _ _ _ _ held c.loop-self.invariant.no_line_feed moved in
    record {
      consumed = taken.0;
      no_line_feed = taken.1;
      fits = omega (arith, moved.fits);
      count = search rules;
      buffered = λ found.
          let same = c.loop-self.invariant.buffered found in
          let some : 0 < length c.loop-self.self = rw same.1 (omega (arith, found.1)) in
          let still = c.has_more.ensures.buffered some in
          absurd (feed_absurd c.args.self.now (subst HasNoLineFeed (still.1 ∙ same.1) moved.no_line_feed) found);
    }

pub returns-in-Whole-clause-takes : goal.returns-in-Whole-clause-takes
returns-in-Whole-clause-takes g c =
    let held = taken-still _ _ _ _ c.loop-self.invariant.consumed c.has_more.ensures.kept in
    moves_line-takes _ _ _ _ _ _ _ _ held c.loop-self.invariant.no_line_feed
    (rw c.in-Whole.is at c.in_ok-move_part.ensures.moves)

pub returns-in-TooLong-clause-takes : goal.returns-in-TooLong-clause-takes
returns-in-TooLong-clause-takes g c =
    let held = taken-still _ _ _ _ c.loop-self.invariant.consumed c.has_more.ensures.kept in
    moves_too_long-finds _ _ _ _ _ _ _ held c.loop-self.invariant.no_line_feed (omega (arith, c.loop-self.invariant.fits))
    (rw c.in-TooLong.is at c.in_ok-move_part.ensures.moves)
