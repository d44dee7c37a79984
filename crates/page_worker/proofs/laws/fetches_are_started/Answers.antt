-- The laws are proved as the lemmas `outcome_starts` and `fetches_counted`.
use Rattle.page_worker.specs.World.{world_of}
use Rattle.page_worker.proofs.Starting.{fetches_counted, outcome_starts}
use Rattle.page_worker.proofs.laws.fetches_are_started.Goals as goal

pub returns : goal.returns
returns g c = record { started = outcome_starts (world_of (g.F.Fetcher.gives c.args._fetcher.now) (g.F.Fetcher.follows c.args._fetcher.now) (g.C.Clock.reads c.args._clock.now)); counted = fetches_counted }
