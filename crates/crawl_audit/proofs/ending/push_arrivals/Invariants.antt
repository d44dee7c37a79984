-- The ends so far were added.
use Rattle.std.proofs.Common.{◌≡◌, ◌++◌, map, take}
use Rattle.crawl_audit.specs.Ending.{unanswered}
use Rattle.crawl_audit.specs.Records.{entry_of}
use Rattle.crawl_audit.proofs.ending.push_arrivals.Given as goal

abbrev pub invariant-loop-turn : goal.invariant-loop-turn
invariant-loop-turn l = map entry_of l.ends.items ≡ map entry_of l.initial.ends.items ++ map (unanswered l.moment) (take l.turn-index l.turns)
