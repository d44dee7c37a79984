-- A skip moves the start of the range that the buffer holds.
use Rattle.std.proofs.Common.{sym}
use Rattle.counted_io.proofs.Taking.{range_skipped}
use Rattle.counted_io.proofs.line_reader.LineReader.skip.Goals as goal

pub returns : goal.returns
returns c = range_skipped _ _ _ _ _ (sym c.self.view_is) c.requires
