-- The sites of the turns so far are there.
use Rattle.std.proofs.Common.{◌≡◌, map, take}
use Rattle.authority_cache.specs.declared.turn.Turn.{Turn}
use Rattle.crawl_audit.proofs.recovering.sites_of.Given as goal

abbrev pub invariant-loop-turn : goal.invariant-loop-turn
invariant-loop-turn l = l.sites.items ≡ map (λ (t : Turn). t.authority) (take l.turn-index l.turns)
