-- The members passed are no max-age, so the remaining ones decide.
use Rattle.std.proofs.Common.{Option, ℕ}
use Rattle.http_wire.specs.Freshness.{HasMaxAge, TellsMaxAge}
use Rattle.http_wire.specs.Left.{members_left, pairs}
use Rattle.http_wire.proofs.freshness.max_age_of.Given as goal

abbrev pub invariant-loop-member : goal.invariant-loop-member
invariant-loop-member l = record {
  can_next : (goal.iterator-loop-member).can_next l.members;
  ends : (goal.iterator-loop-member).is_finite l.members;
  tells : (seconds : Option ℕ) → TellsMaxAge (members_left l.members) seconds → HasMaxAge (pairs l.fn.fields) seconds;
}
