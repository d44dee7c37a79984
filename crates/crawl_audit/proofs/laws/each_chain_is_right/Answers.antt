-- A chain continues after each prefix of its lines.
use Rattle.crawl_audit.proofs.ChainLines.{right_chain}
use Rattle.crawl_audit.proofs.laws.each_chain_is_right.Goals as goal

pub returns : goal.returns
returns c = right_chain
