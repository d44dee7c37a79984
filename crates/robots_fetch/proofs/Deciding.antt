-- The laws on answers and on steps.
-- Used by the laws of the crate.
use Rattle.std.proofs.Common.{◌≡◌, ◌≤◌, ◌+◌, ◌++◌, [], ℕ, List, length, sym, subst, arith, append-nil}
use Rattle.path_normal.specs.PageText.{robots_url_of}
use Rattle.path_normal.specs.declared.schemes.Schemes.{Schemes}
use Rattle.robots_verdict.specs.declared.said.Said.{Said}
use Rattle.robots_fetch.specs.declared.reply.RobotsReply.{RobotsReply}
use Rattle.robots_fetch.specs.declared.walk.Step.TheVariants.{Go, Done, NoMemory}
use Rattle.robots_fetch.specs.declared.walk.Walk.{Walk}
use Rattle.robots_fetch.specs.Laws.{DecidedOnce, GoesOnFiveTimes, GoesWhereTheyLead, IsDoneWithAnswer, OneAnswer, StepsAsDecided}
use Rattle.robots_fetch.specs.Redirects.{most_redirects}
use Rattle.robots_fetch.specs.Steps.{IsBegun}
use Rattle.robots_fetch.specs.Walk.{AnswerOfAmong, EndsWalkAmong, LeadsOverAmong}
use Rattle.robots_fetch.proofs.Replies.{Decide, decide_one, way_decides}
use Rattle.robots_fetch.proofs.Taken.{done_over, few_over, gone_over, leads_over}

decides : (schemes : Schemes) (authority : List ℕ) (replies : List RobotsReply) (says : Said) (life : ℕ) →
    AnswerOfAmong schemes authority replies says life → Decide schemes 0 (robots_url_of authority) replies says life
decides schemes authority replies says life answer =
    let all : length answer.way ≡ 0 + length answer.way = omega arith in
    subst (λ rs. Decide schemes 0 (robots_url_of authority) rs says life) (sym answer.are_all)
    (way_decides schemes 0 (robots_url_of authority) answer.way answer.last answer.url says life (omega (arith, answer.are_few)) answer.leads
    (subst (λ n. EndsWalkAmong schemes n answer.url answer.last says) all answer.ends) answer.lives)

decides_at : (schemes : Schemes) (authority : List ℕ) (walk : Walk) (replies : List RobotsReply) (says : Said) (life : ℕ) →
    IsBegun authority walk → AnswerOfAmong schemes authority replies says life → Decide schemes walk.followed walk.url replies says life
decides_at schemes authority walk replies says life begun answer =
    subst (λ n. Decide schemes n walk.url replies says life) (sym begun.1)
    (subst (λ u. Decide schemes 0 u replies says life) (sym begun.0) (decides schemes authority replies says life answer))

pub once : DecidedOnce
once schemes authority front rest one other life life' is is' =
    (decide_one schemes 0 (robots_url_of authority) front rest one other life life'
    (decides schemes authority front one life is) (decides schemes authority (front ++ rest) other life' is')).0

pub single : OneAnswer
single schemes authority replies one other life life' is is' =
    let both = decide_one schemes 0 (robots_url_of authority) replies [] one other life life' (decides schemes authority replies one life is)
    (subst (λ rs. Decide schemes 0 (robots_url_of authority) rs other life') (sym (append-nil replies)) (decides schemes authority replies other life' is')) in
    (both.1, both.2)

pub done : IsDoneWithAnswer
done schemes authority walk replies answer begun steps =
    let few : walk.followed ≤ most_redirects = omega (arith, begun.1) in
    let way = done_over schemes walk replies answer few steps in
    let all : walk.followed + length way.way ≡ length way.way = omega (arith, begun.1) in
    record {
      way = way.way;
      last = way.last;
      url = way.end;
      are_all = way.are_all;
      are_few = omega (arith, way.are_few, begun.1);
      leads = subst (λ u. LeadsOverAmong schemes u way.way way.end) begun.0 way.leads;
      ends = subst (λ n. EndsWalkAmong schemes n way.end way.last answer.says) all way.ends;
      lives = way.lives;
    }

pub as_decided : StepsAsDecided
as_decided schemes authority walk front rest says life (Go next) begun answer steps =
    let behind = gone_over schemes walk next front rest says life steps (decides_at schemes authority walk (front ++ rest) says life begun answer) in
    λ empty. subst (λ rs. Decide schemes next.followed next.url rs says life) empty behind
as_decided schemes authority walk front rest says life (Done given) begun answer steps =
    let is = done schemes authority walk front given begun steps in
    decide_one schemes 0 (robots_url_of authority) front rest given.says says given.life life (decides schemes authority front given.says given.life is)
    (decides schemes authority (front ++ rest) says life answer)
as_decided schemes authority walk front rest says life (NoMemory kept) begun answer steps = tt

pub leads : GoesWhereTheyLead
leads schemes authority walk next replies begun steps =
    subst (λ u. LeadsOverAmong schemes u replies next.url) begun.0 (leads_over schemes walk next replies steps)

pub ends_soon : GoesOnFiveTimes
ends_soon schemes authority walk next replies begun steps =
    let few = few_over schemes walk next replies steps in
    omega (arith, few.0, few.1, begun.1)
