-- Each round drops at most one answer; when no end is before the moment, none has expired.
use Rattle.std.proofs.Common.{◌≡◌, ◌+◌, subst, arith}
use Rattle.authority_cache.specs.Ends.{SweepsPart}
use Rattle.authority_cache.specs.Kept.{known_in}
use Rattle.authority_cache.specs.Sites.{said_site}
use Rattle.authority_cache.proofs.EndLaws.{none_past, taken_but, taken_own}
use Rattle.authority_cache.proofs.SweepLaws.{part_more, past_bound, sweeps}
use Rattle.authority_cache.proofs.sweep.drop_past.Goals as goal

pub drop_at-requires-clause-past : goal.drop_at-requires-clause-past
drop_at-requires-clause-past c = record {
  others = taken_but c.args.moment c.in-Some.index c.loop-index.sites.entries c.loop-index.ends c.pop_before.new.self c.in-Some.ensures.some c.loop-index.invariant.0.covered;
  young = taken_own c.args.moment c.in-Some.index c.loop-index.sites.entries c.loop-index.ends c.pop_before.new.self c.in-Some.ensures.some
      (omega (arith, c.ranges.moment)) c.loop-index.invariant.0.covered;
}

pub overflow_add-dropped : goal.overflow_add-dropped
overflow_add-dropped c =
    let all = part_more (known_in 0 c.args.sites.now.entries) (known_in 0 c.loop-index.sites.entries) (known_in 0 c.drop_at.new.sites.entries) c.args.moment c.loop-index.dropped 1
    c.loop-index.invariant.1 c.if-drop_at.ensures.part in
    omega (arith, all.dropped, past_bound 0 c.args.moment c.args.sites.now.entries, c.requires.few)

pub loop-index-preserved-then-drop_at : goal.loop-index-preserved-then-drop_at
loop-index-preserved-then-drop_at c = (
  c.if-drop_at.ensures.tended,
  part_more (known_in 0 c.args.sites.now.entries) (known_in 0 c.loop-index.sites.entries) (known_in 0 c.drop_at.new.sites.entries) c.args.moment c.loop-index.dropped 1
      c.loop-index.invariant.1 c.if-drop_at.ensures.part,
)

pub loop-index-preserved : goal.loop-index-preserved
loop-index-preserved c =
    let none : c.loop-index.dropped + 0 ≡ c.loop-index.dropped = omega arith in (
      c.if-drop_at.ensures.tended,
      subst (λ n. SweepsPart (known_in 0 c.args.sites.now.entries) c.args.moment n (known_in 0 c.drop_at.new.sites.entries)) none
          (part_more (known_in 0 c.args.sites.now.entries) (known_in 0 c.loop-index.sites.entries) (known_in 0 c.drop_at.new.sites.entries) c.args.moment c.loop-index.dropped 0
          c.loop-index.invariant.1 c.if-drop_at.ensures.part),
    )

pub returns-clause-swept : goal.returns-clause-swept
returns-clause-swept c =
    λ limit. sweeps limit c.args.moment c.loop-index.dropped c.args.sites.now.entries c.loop-index.sites.entries c.loop-index.invariant.1
    (λ i e at. none_past c.args.moment i c.loop-index.ends (said_site e.1) c.in_default.ensures.none (c.loop-index.invariant.0.covered i e at))
