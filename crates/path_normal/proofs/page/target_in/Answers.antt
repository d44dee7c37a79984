-- The slice is the target of the URL.
use Rattle.std.proofs.Common.{◌∙◌}
use Rattle.path_normal.proofs.PageLemmas.{target_pieces}
use Rattle.path_normal.proofs.page.target_in.Goals as goal

pub returns : goal.returns
returns c = c.slice.ensures.value ∙ target_pieces c.args.url.now
