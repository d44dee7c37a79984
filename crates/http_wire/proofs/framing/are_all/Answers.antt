-- The members are those that the iterator has left.
use Rattle.std.proofs.Common.{rules, tests, refl}
use Rattle.std.proofs.lemmas.Iterator.Consumers.{YieldsList-from_first}
use Rattle.std.proofs.lemmas.Iterator.Search.{all_from_yields_List}
use Rattle.http_wire.specs.Fields.{is_number_of}
use Rattle.http_wire.specs.Left.{members_left}
use Rattle.http_wire.proofs.framing.are_all.Goals as goal

pub returns : goal.returns
returns c =
    all_from_yields_List (is_number_of c.args.number) c.all.new.self _ _ c.all.ensures.ran
    (YieldsList-from_first (λ x. x.now) members_left {s = c.args.members} _ refl) (λ x b q k. search (rules, tests))
