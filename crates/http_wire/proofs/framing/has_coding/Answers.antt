-- The values of the iterator are those of the fields.
use Rattle.std.proofs.Common.{rules, tests, List, ℕ}
use Rattle.std.proofs.lemmas.Iterator.Consumers.{YieldsList-from_first}
use Rattle.std.proofs.lemmas.Iterator.Search.{any_from_yields_List}
use Rattle.std.specs.Prelude.{not}
use Rattle.http_wire.specs.Fields.{is_unencoded}
use Rattle.http_wire.specs.Left.{values_left}
use Rattle.http_wire.proofs.framing.has_coding.Goals as goal

pub returns : goal.returns
returns c =
    any_from_yields_List (λ (coding : List ℕ). not (is_unencoded coding)) c.any.new.self _ _ c.any.ensures.ran
    (YieldsList-from_first (λ x. x.now) values_left {s = c.of.result} _ c.of.ensures) (λ x b q k. search (rules, tests))
