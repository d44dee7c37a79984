-- A line names `https` if its entry or row does.
use Rattle.crawl_audit.proofs.HttpTexts.{http_chain_names, http_chain_right}
use Rattle.crawl_audit.proofs.laws.each_http_chain_names_http.Goals as goal

pub returns : goal.returns
returns c = record { lines = http_chain_names; right = http_chain_right }
