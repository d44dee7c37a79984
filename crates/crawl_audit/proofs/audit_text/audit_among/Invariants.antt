-- The lines so far begin a chain, and no read has failed.
use Rattle.std.proofs.Common.{◌≡◌}
use Rattle.std.specs.Io.KnownBytes.{prepend_known}
use Rattle.crawl_audit.specs.Audit.{Heard}
use Rattle.crawl_audit.proofs.audit_text.audit_among.Given as goal

abbrev pub invariant-loop-taken : goal.invariant-loop-taken
invariant-loop-taken g l = record {
  heard : Heard l.fn.schemes l.auditor (g.R.Source.left l.fn.reader) (prepend_known l.auditor.reader (g.R.Source.left l.reader));
  lines : l.auditor.lines ≡ l._taken;
  reads : g.R.Source.failures l.reader ≡ g.R.Source.failures l.fn.reader;
}
