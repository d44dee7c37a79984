use Rattle.std.proofs.Common.{◌+◌, ◌*◌, length}
use Rattle.authority_cache.specs.Ends.{SweepsPart}
use Rattle.authority_cache.specs.Kept.{IsTended, known_in}
use Rattle.authority_cache.proofs.sweep.drop_past.Given as goal

abbrev pub invariant-loop-index : goal.invariant-loop-index
invariant-loop-index l =
    IsTended l.ends l.sites.entries
    × SweepsPart (known_in 0 l.initial.sites.entries) l.moment l.dropped (known_in 0 l.sites.entries)

abbrev pub decreases-loop-index : goal.decreases-loop-index
decreases-loop-index l = length l.sites.entries * 2 + length l.ends.ends
