-- The walk over the replies of an arrival.
-- Used by `decide`.
use Rattle.std.proofs.Common.{◌≡◌, ◌≢◌, ◌++◌, ◌∷◌, [], ℕ, List, Some, None, Ok, Err, refl, sym, ap, subst, ◌∙◌, inl, inr, append-nil, append_assoc, length, length-append, ◌+◌, arith}
use Rattle.path_normal.specs.declared.schemes.Schemes.{Schemes}
use Rattle.authority_cache.specs.Lives.{Timed}
use Rattle.robots_verdict.specs.declared.said.Said.{Said}
use Rattle.robots_fetch.specs.declared.reply.RobotsReply.{RobotsReply}
use Rattle.robots_fetch.specs.declared.walk.Step.{Step}
use Rattle.robots_fetch.specs.declared.walk.Step.TheVariants.{Go, Done}
use Rattle.robots_fetch.specs.declared.walk.Walk.{Walk}
use Rattle.robots_fetch.specs.Steps.{IsBegun, StepsAmong, StepsOverAmong}
use Rattle.robots_fetch.specs.Walk.{AnswerOfAmong}
use Rattle.robots_fetch.proofs.CallerLemmas.{as_decided, done}
use Rattle.command_lines.specs.Arrival.{AreReplies, BringsAmong, IsDecided, IsReply, TakesReply}
use Rattle.command_lines.specs.declared.fault.LineFault.TheVariants as faults

-- the walk has gone over these replies
abbrev pub HasGone : Schemes → Walk → List RobotsReply → Walk → Type 0
HasGone schemes first [] walk = walk ≡ first
HasGone schemes first (reply ∷ replies) walk = StepsOverAmong schemes first (reply ∷ replies) (Go walk)

-- the walk over the words read goes on, with these words left
pub record IsUnderWay (schemes : Schemes) (authority : List ℕ) (words : List (List ℕ)) (walk : Walk) (left : List (List ℕ)) : Type 0 where
  pub first : Walk
  pub front : List RobotsReply
  pub read : List (List ℕ)
  pub begun : IsBegun authority first
  pub gone : HasGone schemes first front walk
  pub all : words ≡ read ++ left
  pub are : AreReplies read front

pub begin_walk : (schemes : Schemes) (authority : List ℕ) (words : List (List ℕ)) (walk : Walk) → IsBegun authority walk → IsUnderWay schemes authority words walk words
begin_walk schemes authority words walk begun = record { first = walk; front = []; read = []; begun = begun; gone = refl; all = refl; are = tt }

one_more : (schemes : Schemes) (first walk : Walk) (front : List RobotsReply) (reply : RobotsReply) (step : Step) →
    HasGone schemes first front walk → StepsAmong schemes walk reply step → StepsOverAmong schemes first (front ++ reply ∷ []) step
one_more schemes first walk [] reply step gone steps = subst (λ (w : Walk). StepsAmong schemes w reply step) gone steps
one_more schemes first walk (one ∷ []) reply step gone steps = (walk, (gone, steps))
one_more schemes first walk (one ∷ (other ∷ front)) reply step gone steps =
    (gone.0, (gone.1.0, one_more schemes gone.0 walk (other ∷ front) reply step gone.1.1 steps))

gone_over : (schemes : Schemes) (first next : Walk) (front : List RobotsReply) (reply : RobotsReply) →
    StepsOverAmong schemes first (front ++ reply ∷ []) (Go next) → HasGone schemes first (front ++ reply ∷ []) next
gone_over schemes first next [] reply steps = steps
gone_over schemes first next (one ∷ front) reply steps = steps

replies_more : (read : List (List ℕ)) (front : List RobotsReply) (one other : List ℕ) (reply : RobotsReply) →
    AreReplies read front → IsReply one other reply → AreReplies (read ++ one ∷ other ∷ []) (front ++ reply ∷ [])
replies_more [] [] one other reply are is = (is, tt)
replies_more [] (r ∷ front) one other reply are is = absurd are
replies_more (a ∷ []) front one other reply are is = absurd are
replies_more (a ∷ b ∷ read) [] one other reply are is = absurd are
replies_more (a ∷ b ∷ read) (r ∷ front) one other reply are is = (are.0, replies_more read front one other reply are.1 is)

all_words : (words read left new : List (List ℕ)) (one other : List ℕ) →
    words ≡ read ++ left → left ≡ one ∷ other ∷ new → words ≡ (read ++ one ∷ other ∷ []) ++ new
all_words words read left new one other all is =
    all ∙ ap (λ (ws : List (List ℕ)). read ++ ws) is ∙ sym (append_assoc read (one ∷ other ∷ []) new)

pub go_on : (schemes : Schemes) (authority : List ℕ) (words left new : List (List ℕ)) (walk next : Walk) (reply : RobotsReply) →
    IsUnderWay schemes authority words walk left → TakesReply left (Some reply) new → StepsAmong schemes walk reply (Go next) →
    IsUnderWay schemes authority words next new
go_on schemes authority words left new walk next reply way takes steps = record {
  first = way.first;
  front = way.front ++ reply ∷ [];
  read = way.read ++ takes.0 ∷ takes.1.0 ∷ [];
  begun = way.begun;
  gone = gone_over schemes way.first next way.front reply (one_more schemes way.first walk way.front reply (Go next) way.gone steps);
  all = all_words words way.read left new takes.0 takes.1.0 way.all takes.1.1.0;
  are = replies_more way.read way.front takes.0 takes.1.0 reply way.are takes.1.1.1;
}

decided_so_far : (schemes : Schemes) (authority : List ℕ) (words left new : List (List ℕ)) (walk : Walk) (reply : RobotsReply) (answer : Timed) →
    (way : IsUnderWay schemes authority words walk left) (takes : TakesReply left (Some reply) new) → StepsAmong schemes walk reply (Done answer) →
    IsDecided schemes authority (way.read ++ takes.0 ∷ takes.1.0 ∷ []) answer.says answer.life
decided_so_far schemes authority words left new walk reply answer way takes steps = (
  way.front ++ reply ∷ [],
  (
    replies_more way.read way.front takes.0 takes.1.0 reply way.are takes.1.1.1,
    done schemes authority way.first (way.front ++ reply ∷ []) answer way.begun
        (one_more schemes way.first walk way.front reply (Done answer) way.gone steps),
  ),
)

pub ends_well : (schemes : Schemes) (authority : List ℕ) (words left new : List (List ℕ)) (walk : Walk) (reply : RobotsReply) (answer : Timed) →
    IsUnderWay schemes authority words walk left → TakesReply left (Some reply) new → StepsAmong schemes walk reply (Done answer) → new ≡ [] →
    BringsAmong schemes authority words (Ok answer)
ends_well schemes authority words left new walk reply answer way takes steps none =
    let all = all_words words way.read left new takes.0 takes.1.0 way.all takes.1.1.0
    ∙ ap (λ (ws : List (List ℕ)). (way.read ++ takes.0 ∷ takes.1.0 ∷ []) ++ ws) none ∙ append-nil (way.read ++ takes.0 ∷ takes.1.0 ∷ []) in
    subst (λ (ws : List (List ℕ)). IsDecided schemes authority ws answer.says answer.life) (sym all)
    (decided_so_far schemes authority words left new walk reply answer way takes steps)

pub ends_early : (schemes : Schemes) (authority : List ℕ) (words left new : List (List ℕ)) (walk : Walk) (reply : RobotsReply) (answer : Timed) →
    IsUnderWay schemes authority words walk left → TakesReply left (Some reply) new → StepsAmong schemes walk reply (Done answer) → new ≢ [] →
    BringsAmong schemes authority words (Err faults.Replies)
ends_early schemes authority words left new walk reply answer way takes steps more = inr (record {
  read = way.read ++ takes.0 ∷ takes.1.0 ∷ [];
  rest = new;
  says = answer.says;
  life = answer.life;
  all = all_words words way.read left new takes.0 takes.1.0 way.all takes.1.1.0;
  more = more;
  decided = decided_so_far schemes authority words left new walk reply answer way takes steps;
})

no_last : (way : List RobotsReply) (last : RobotsReply) → [] ≡ way ++ last ∷ [] → ⊥
no_last way last is =
    let none : length way + 1 ≡ 0 = omega (arith, ap (λ (rs : List RobotsReply). length rs) is, length-append way (last ∷ [])) in
    absurd (omega (arith, none))

undecided : (schemes : Schemes) (authority : List ℕ) (first walk : Walk) (front : List RobotsReply) (says : Said) (life : ℕ) →
    IsBegun authority first → HasGone schemes first front walk → AnswerOfAmong schemes authority front says life → ⊥
undecided schemes authority first walk [] says life begun gone answer = no_last answer.way answer.last answer.are_all
undecided schemes authority first walk (one ∷ front) says life begun gone answer =
    as_decided schemes authority first (one ∷ front) [] says life (Go walk) begun
    (subst (λ (rs : List RobotsReply). AnswerOfAmong schemes authority rs says life) (sym (append-nil (one ∷ front))) answer) gone refl

pub ends_late : (schemes : Schemes) (authority : List ℕ) (words left new : List (List ℕ)) (walk : Walk) →
    IsUnderWay schemes authority words walk left → TakesReply left None new → BringsAmong schemes authority words (Err faults.Replies)
ends_late schemes authority words left new walk way none =
    let all = way.all ∙ ap (λ (ws : List (List ℕ)). way.read ++ ws) none.0 ∙ append-nil way.read in
    inl (
      way.front,
      (
        subst (λ (ws : List (List ℕ)). AreReplies ws way.front) (sym all) way.are,
        λ says life answer. undecided schemes authority way.first walk way.front says life way.begun way.gone answer,
      ),
    )
