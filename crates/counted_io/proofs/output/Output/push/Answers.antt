-- Octets that don't fit go to the sink after the pending ones.
use Rattle.std.proofs.Common.{rules}
use Rattle.std.proofs.lemmas.Result.{on_ok_weaker, on_err_weaker}
use Rattle.counted_io.proofs.Writing.{prefix_after, prefix_longer, passes_straight, on_err}
use Rattle.counted_io.proofs.output.Output.push.Goals as goal

pub returns-in_err-flush-clause-err : goal.returns-in_err-flush-clause-err
returns-in_err-flush-clause-err g c =
    on_err c.from_residual.result (prefix_longer _ _ _ c.args.bytes.now c.in_err-flush.ensures.err)

pub returns-then-bytes-gt-OUTPUT_BUFFER-clause-ok :
    goal.returns-then-bytes-gt-OUTPUT_BUFFER-clause-ok
returns-then-bytes-gt-OUTPUT_BUFFER-clause-ok g c =
    rw c.flush.ensures.empty
    (on_ok_weaker c.write_all.result (λ wrote. passes_straight _ _ _ _ _ c.in_ok-flush.ensures.ok wrote) c.write_all.ensures.ok)

pub returns-then-bytes-gt-OUTPUT_BUFFER-clause-err :
    goal.returns-then-bytes-gt-OUTPUT_BUFFER-clause-err
returns-then-bytes-gt-OUTPUT_BUFFER-clause-err g c =
    on_err_weaker c.write_all.result (λ cut. prefix_after _ _ _ _ _ c.in_ok-flush.ensures.ok cut) c.write_all.ensures.err

pub returns-in_err-flush-clause-pushes : goal.returns-in_err-flush-clause-pushes
returns-in_err-flush-clause-pushes g c = record {
  ok = search rules;
  err = returns-in_err-flush-clause-err g c;
  count = search rules;
}

pub returns-then-bytes-gt-OUTPUT_BUFFER-clause-pushes :
    goal.returns-then-bytes-gt-OUTPUT_BUFFER-clause-pushes
returns-then-bytes-gt-OUTPUT_BUFFER-clause-pushes g c = record {
  ok = returns-then-bytes-gt-OUTPUT_BUFFER-clause-ok g c;
  err = returns-then-bytes-gt-OUTPUT_BUFFER-clause-err g c;
  count = search rules;
}
