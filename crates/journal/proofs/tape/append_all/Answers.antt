-- Each call adds to what was appended before it.
use Rattle.std.proofs.Common.{rules}
use Rattle.std.proofs.lemmas.List.{take_rest}
use Rattle.counted_io.proofs.Taking.{appends_piece}
use Rattle.journal.proofs.tape.append_all.Goals as goal

pub loop-done-preserved : goal.loop-done-preserved
loop-done-preserved g c = record {
  within = search rules;
  appended = appends_piece _ _ _ _ _ _ c.loop-done.invariant.appended
      (rw (take_rest c.args.bytes.now c.loop-done.done) at c.in_ok-done.ensures.bytes);
  least = search rules;
  count = search rules;
}
