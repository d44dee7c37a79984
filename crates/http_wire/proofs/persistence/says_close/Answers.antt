-- The options of the iterator are those of the fields.
use Rattle.std.proofs.Common.{rules, tests}
use Rattle.std.proofs.lemmas.Iterator.Consumers.{YieldsList-from_first}
use Rattle.std.proofs.lemmas.Iterator.Search.{any_from_yields_List}
use Rattle.http_wire.specs.Left.{members_left}
use Rattle.http_wire.specs.Options.{is_close}
use Rattle.http_wire.proofs.persistence.says_close.Goals as goal

pub returns : goal.returns
returns c =
    any_from_yields_List is_close c.any.new.self _ _ c.any.ensures.ran
    (YieldsList-from_first (λ x. x.now) members_left {s = c.of.result} _ c.of.ensures) (λ x b q k. search (rules, tests))
