-- This many whole lines were taken, and no read has failed.
use Rattle.std.proofs.Common.{◌≡◌}
use Rattle.std.specs.Io.KnownBytes.{prepend_known}
use Rattle.crawl_audit.specs.Recovering.{HeardWhole}
use Rattle.crawl_audit.proofs.recovering.recover_among.Given as goal

abbrev pub invariant-loop-taken : goal.invariant-loop-taken
invariant-loop-taken g l = record {
  heard : HeardWhole l.fn.schemes l.whole (g.R.Source.left l.fn.reader) (prepend_known l.whole.auditor.reader (g.R.Source.left l.reader));
  lines : l.whole.auditor.lines ≡ l._taken;
  reads : g.R.Source.failures l.reader ≡ g.R.Source.failures l.fn.reader;
}
