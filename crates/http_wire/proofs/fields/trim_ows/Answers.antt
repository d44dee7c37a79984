-- Both ends are trimmed.
use Rattle.std.proofs.Common.{◌∙◌, List, ℕ, reverse, ap}
use Rattle.httparse.specs.Grammar.{skip_ows, trim_ows}
use Rattle.http_wire.proofs.fields.trim_ows.Goals as goal

pub returns : goal.returns
unfolding trim_ows
returns c = c.trim_end.ensures ∙ ap (λ (text : List ℕ). reverse (skip_ows (reverse text))) c.trim_start.ensures
