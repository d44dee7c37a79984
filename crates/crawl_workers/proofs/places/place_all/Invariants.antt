-- The jobs of the workers so far have their places.
-- Used by `place_all`.
use Rattle.std.proofs.Common.{◌≡◌, ◌++◌, List, length, Vec, Global}
use Rattle.std.specs.Prelude.{map}
use Rattle.crawl_workers.specs.declared.crew.Done.{Done}
use Rattle.crawl_workers.specs.Crews.{AllPlaced}
use Rattle.crawl_workers.proofs.places.place_all.Given as goal

abbrev pub invariant-loop-list : goal.invariant-loop-list
invariant-loop-list l = record {
  taken : List (Vec Done Global);
  all : l.fn.done.items ≡ taken ++ l.list-iterator.rest.items;
  len : length l.outcomes ≡ length l.fn.outcomes;
  placed : AllPlaced l.outcomes (map (λ list. list.items) taken);
}
