-- The word is not 0, so its lowest bit has a place in it.
use Rattle.std.proofs.Common.{arith, rules}
use Rattle.permit_book.proofs.BitLaws.{lowest_bit, within_words}
use Rattle.permit_book.proofs.words.lowest_in.Goals as goal

pub overflow_add-result : goal.overflow_add-result
overflow_add-result c =
    let found = lowest_bit c.args.words.now c.args.place c.requires.full (search rules) in
    let within = within_words c.args.words.now c.args.place c.requires.full in
    omega (arith, found.0)

pub returns-clause-set : goal.returns-clause-set
returns-clause-set c = rw c.from.ensures (lowest_bit c.args.words.now c.args.place c.requires.full (search rules)).1

pub returns-clause-lowest : goal.returns-clause-lowest
returns-clause-lowest c = rw c.from.ensures (lowest_bit c.args.words.now c.args.place c.requires.full (search rules)).2
