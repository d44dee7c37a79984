-- The literal's places are in the path.
use Rattle.std.proofs.Common.{◌≢◌, ◌∙◌, [], sym}
use Rattle.std.proofs.lemmas.Bool.{true≢false}
use Rattle.path_pattern.specs.Kept.{part}
use Rattle.path_pattern.proofs.NextLemmas.{place_within}
use Rattle.path_pattern.proofs.SortedLemmas.{few_places}
use Rattle.path_pattern.proofs.kept.first_in.Goals as goal

pub first-requires-clause-order : goal.first-requires-clause-order
first-requires-clause-order c = (c.requires.range.order, c.requires.range.within)

pub first-requires-clause-indices : goal.first-requires-clause-indices
first-requires-clause-indices c =
    let some : c.args.next.indices.now ≢ [] = λ is. true≢false (sym (c.is_empty.ensures.1 is) ∙ c.if-not-is_empty.true) in
    (c.requires.next some).0

pub first-requires-clause-lasts : goal.first-requires-clause-lasts
first-requires-clause-lasts c =
    let some : c.args.next.indices.now ≢ [] = λ is. true≢false (sym (c.is_empty.ensures.1 is) ∙ c.if-not-is_empty.true) in
    (c.requires.next some).1

pub first-requires-clause-within : goal.first-requires-clause-within
first-requires-clause-within c =
    let some : c.args.next.indices.now ≢ [] = λ is. true≢false (sym (c.is_empty.ensures.1 is) ∙ c.if-not-is_empty.true) in
    place_within c.args.places.now c.args.from (λ k inside. ((c.requires.next some).0.own k inside).0) (c.requires.sorted.all c.args.from c.requires.inside.1)

pub least_of-requires : goal.least_of-requires
least_of-requires c =
    few_places c.args.path.now (part c.args.places.now c.args.range.0 c.args.range.1) c.args.literal.now c.args.from c.requires.range.all c.requires.sorted.few c.requires.inside.0
