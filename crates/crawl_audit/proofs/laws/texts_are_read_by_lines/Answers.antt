-- Each line has one meaning at its place, and the lines of a chain follow one another there.
use Rattle.crawl_audit.proofs.Reaching.{ends_are_chains, reads_are_fronts}
use Rattle.crawl_audit.proofs.Stepping.{fronts_are_read, one_step}
use Rattle.crawl_audit.proofs.laws.texts_are_read_by_lines.Goals as goal

pub returns : goal.returns
returns c = record { step = one_step; fronts = fronts_are_read; reads = reads_are_fronts; ends = ends_are_chains }
