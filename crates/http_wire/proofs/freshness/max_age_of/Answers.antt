-- What a member and the remaining ones give.
use Rattle.std.proofs.Common.{List, ℕ, Some, None, sym, subst}
use Rattle.std.proofs.lemmas.List.Elements.{All-nil}
use Rattle.http_wire.specs.Freshness.{IsNoMaxAge, TellsMaxAge}
use Rattle.http_wire.specs.Left.{members_left}
use Rattle.http_wire.proofs.MaxAges.{tells_first, tells_later}
use Rattle.http_wire.proofs.freshness.max_age_of.Goals as goal

pub loop-member-init : goal.loop-member-init
loop-member-init c = record {
  can_next = tt;
  ends = tt;
  tells = λ seconds tells. subst (λ (members : List (List ℕ)). TellsMaxAge members seconds) c.of-members.ensures tells;
}

pub returns-in-Some-max_age : goal.returns-in-Some-max_age
returns-in-Some-max_age c =
    let seconds = c.in-Some-max_age.seconds in
    c.loop-member.invariant.tells (Some seconds)
    (subst (λ (members : List (List ℕ)). TellsMaxAge members (Some seconds)) (sym c.in-Some.ensures.steps)
    (tells_first c.in-Some.member.now (members_left c.next.new.self) seconds c.in-Some-max_age.ensures))

pub loop-member-preserved : goal.loop-member-preserved
loop-member-preserved c = record {
  can_next = tt;
  ends = tt;
  tells = λ seconds tells.
      c.loop-member.invariant.tells seconds
      (subst (λ (members : List (List ℕ)). TellsMaxAge members seconds) (sym c.in-Some.ensures.steps)
      (tells_later c.in-Some.member.now (members_left c.next.new.self) seconds c.in_default-max_age.ensures tells));
}

pub returns : goal.returns
returns c =
    c.loop-member.invariant.tells None
    (subst (λ (members : List (List ℕ)). TellsMaxAge members None) (sym c.in_default.ensures.steps.0) (All-nil IsNoMaxAge))
