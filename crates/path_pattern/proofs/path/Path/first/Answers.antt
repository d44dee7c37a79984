-- The text is the path's view.
use Rattle.std.proofs.Common.{subst}
use Rattle.memchr.specs.Find.{FindsNeedle}
use Rattle.path_pattern.specs.Kept.{part}
use Rattle.path_pattern.proofs.SortedLemmas.{finds_least}
use Rattle.path_pattern.proofs.path.Path.first.Goals as goal

pub returns-then-is_empty-clause-finds : goal.returns-then-is_empty-clause-finds
returns-then-is_empty-clause-finds c = subst (λ path. FindsNeedle path c.args.literal.now c.args.from c.first_from.result) c.self.view_is c.first_from.ensures

pub returns-clause-finds : goal.returns-clause-finds
returns-clause-finds c =
    let range = c.range_kept-range.result in
    let found = finds_least c.self.inside.text.now (part c.self.inside.places.now range.0 range.1) c.args.literal.now c.args.from c.range_kept-range.ensures.range.all c.first_in.result c.first_in.ensures in
    subst (λ path. FindsNeedle path c.args.literal.now c.args.from c.first_in.result) c.self.view_is found
