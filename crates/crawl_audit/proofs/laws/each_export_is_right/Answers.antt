-- A text alone is a chain of one.
use Rattle.crawl_audit.proofs.OneText.{export_is_chain, segment_is_chain, segments_go_on}
use Rattle.crawl_audit.proofs.laws.each_export_is_right.Goals as goal

pub returns : goal.returns
returns c = record { export = export_is_chain; segment = segment_is_chain; goes_on = segments_go_on }
