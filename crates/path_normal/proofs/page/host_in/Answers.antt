-- The slice is the host of the URL, with its port.
use Rattle.std.proofs.Common.{◌∙◌}
use Rattle.path_normal.proofs.PageLemmas.{host_pieces}
use Rattle.path_normal.proofs.page.host_in.Goals as goal

pub returns-clause-value : goal.returns-clause-value
returns-clause-value c = c.slice.ensures.value ∙ host_pieces c.args.url.now
