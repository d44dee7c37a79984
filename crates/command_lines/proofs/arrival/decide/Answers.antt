-- The walk goes on, decides at the last reply, too early, or never.
use Rattle.std.proofs.Common.{Option, sym, ◌∙◌, subst, true≢false}
use Rattle.robots_fetch.specs.declared.reply.RobotsReply.{RobotsReply}
use Rattle.command_lines.specs.Arrival.{TakesReply}
use Rattle.command_lines.proofs.Walking.{begin_walk, ends_early, ends_late, ends_well, go_on}
use Rattle.command_lines.proofs.arrival.decide.Goals as goal

pub loop-walk-init : goal.loop-walk-init
loop-walk-init c = begin_walk c.args.schemes _ _ _ c.in_ok-walk.ensures

pub loop-walk-preserved-in-Go : goal.loop-walk-preserved-in-Go
loop-walk-preserved-in-Go c =
    let takes = subst (λ (r : Option RobotsReply). TakesReply c.loop-walk.replies r c.next.new.self) c.in-Some.is c.in_ok-reply.ensures in
    go_on c.args.schemes _ _ _ _ _ _ _ c.loop-walk.invariant takes c.in-Go.ensures

pub returns-in-Done-clause-brings : goal.returns-in-Done-clause-brings
returns-in-Done-clause-brings c =
    let takes = subst (λ (r : Option RobotsReply). TakesReply c.loop-walk.replies r c.next.new.self) c.in-Some.is c.in_ok-reply.ensures in
    ends_well c.args.schemes _ _ _ _ _ _ _ c.loop-walk.invariant takes c.in-Done.ensures (c.is_empty.ensures.0 c.if-is_empty.true)

pub returns-in-Done-2-clause-brings : goal.returns-in-Done-2-clause-brings
returns-in-Done-2-clause-brings c =
    let takes = subst (λ (r : Option RobotsReply). TakesReply c.loop-walk.replies r c.next.new.self) c.in-Some.is c.in_ok-reply.ensures in
    ends_early c.args.schemes _ _ _ _ _ _ _ c.loop-walk.invariant takes c.in-Done-2.ensures
    (λ none. true≢false (sym (c.is_empty.ensures.1 none) ∙ c.if-is_empty.false))

pub returns-clause-brings : goal.returns-clause-brings
returns-clause-brings c =
    let none = subst (λ (r : Option RobotsReply). TakesReply c.loop-walk.replies r c.next.new.self) c.in_default.is c.in_ok-reply.ensures in
    ends_late c.args.schemes _ _ _ _ _ c.loop-walk.invariant none
