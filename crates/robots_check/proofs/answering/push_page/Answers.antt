-- The page's path is the URL's.
use Rattle.std.proofs.Common.{◌∙◌}
use Rattle.robots_check.proofs.Before.{path_named}
use Rattle.robots_check.proofs.answering.push_page.Goals as goal

pub push_slow-requires-clause-has_path : goal.push_slow-requires-clause-has_path
push_slow-requires-clause-has_path g c = path_named c.args.url.now c.args.page.now _ c.requires.named c.path_to_match-octets.ensures.value

pub push_path-requires-clause-has_path : goal.push_path-requires-clause-has_path
push_path-requires-clause-has_path g c = path_named c.args.url.now c.args.page.now _ c.requires.named (c.new.ensures ∙ c.path_to_match-octets.ensures.value)
