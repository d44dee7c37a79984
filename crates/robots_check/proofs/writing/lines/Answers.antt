-- The output for the body that was read.
-- By the lemmas of `Printing`.
use Rattle.std.proofs.Common.{◌∙◌, sym}
use Rattle.robots_check.proofs.Printing.{prints_of, reads_none}
use Rattle.robots_check.proofs.writing.lines.Goals as goal

pub returns-clause-prints : goal.returns-clause-prints
returns-clause-prints g c =
    prints_of _ _ c.in_ok-body.body.items _ _ _ c.lines_of.result c.in_ok-body.ensures.body c.as_slice.ensures.value c.lines_of.ensures.lines

pub returns-clause-reads : goal.returns-clause-reads
returns-clause-reads g c =
    c.in_ok-body.ensures.reads ∙ sym (reads_none (g.R.Source.failures c.args.reader.now) c.as_slice.result.now (g.W.Sink.written c.args.writer.now) (g.W.Sink.written c.lines_of.new.writer) c.lines_of.result c.lines_of.ensures.lines)
