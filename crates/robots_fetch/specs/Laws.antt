-- Laws of the answers that replies decide, and of steps over them.
-- Cited by the laws of the crate.
use Rattle.std.specs.Prelude.{◌≡◌, ◌≢◌, ◌≤◌, ◌++◌, [], ℕ, List, length}
use Rattle.path_normal.specs.declared.schemes.Schemes.{Schemes}
use Rattle.path_normal.specs.PageText.{robots_url_of}
use Rattle.robots_verdict.specs.declared.said.Said.{Said}
use Rattle.authority_cache.specs.Lives.{Timed}
use Rattle.robots_fetch.specs.declared.reply.RobotsReply.{RobotsReply}
use Rattle.robots_fetch.specs.declared.walk.Step.{Step}
use Rattle.robots_fetch.specs.declared.walk.Step.TheVariants.{Go, Done, NoMemory}
use Rattle.robots_fetch.specs.declared.walk.Walk.{Walk}
use Rattle.robots_fetch.specs.Redirects.{most_redirects}
use Rattle.robots_fetch.specs.Steps.{IsBegun, StepsOverAmong}
use Rattle.robots_fetch.specs.Walk.{AnswerOfAmong, LeadsOverAmong}

-- a list decides at most one answer with one lifetime, in any schemes
abbrev pub OneAnswer : Type 0
OneAnswer = (schemes : Schemes) (authority : List ℕ) (replies : List RobotsReply) (one other : Said) (life life' : ℕ) →
    AnswerOfAmong schemes authority replies one life → AnswerOfAmong schemes authority replies other life'
    → (one ≡ other) × (life ≡ life')

-- a list that decides is no longer than its prefix that decides
abbrev pub DecidedOnce : Type 0
DecidedOnce =
    (schemes : Schemes) (authority : List ℕ) (front rest : List RobotsReply) (one other : Said) (life life' : ℕ) →
    AnswerOfAmong schemes authority front one life → AnswerOfAmong schemes authority (front ++ rest) other life'
    → rest ≡ []

-- a walk over a list is done with the list's answer, in these schemes
abbrev pub IsDoneAmong : Schemes → Type 0
IsDoneAmong schemes = (authority : List ℕ) (walk : Walk) (replies : List RobotsReply) (answer : Timed) →
    IsBegun authority walk → StepsOverAmong schemes walk replies (Done answer)
    → AnswerOfAmong schemes authority replies answer.says answer.life

-- a walk is done with the list's answer, in any schemes
abbrev pub IsDoneWithAnswer : Type 0
IsDoneWithAnswer = (schemes : Schemes) → IsDoneAmong schemes

-- a step after a prefix of deciding replies: done with the answer if none is left, else on
abbrev pub IsAsDecided : List RobotsReply → Said → ℕ → Step → Type 0
IsAsDecided rest says life (Go next) = rest ≢ []
IsAsDecided rest says life (Done answer) = (rest ≡ []) × (answer.says ≡ says) × (answer.life ≡ life)
IsAsDecided rest says life (NoMemory kept) = Unit {0}

-- a walk over a prefix of deciding replies steps as they decide, in these schemes
abbrev pub DecideSteps : Schemes → Type 0
DecideSteps schemes =
    (authority : List ℕ) (walk : Walk) (front rest : List RobotsReply) (says : Said) (life : ℕ) (step : Step) →
    IsBegun authority walk → AnswerOfAmong schemes authority (front ++ rest) says life
    → StepsOverAmong schemes walk front step →
    IsAsDecided rest says life step

-- a walk steps as the replies decide, in any schemes
abbrev pub StepsAsDecided : Type 0
StepsAsDecided = (schemes : Schemes) → DecideSteps schemes

-- a walk over redirects goes on where they lead
abbrev pub GoesWhereTheyLead : Type 0
GoesWhereTheyLead = (schemes : Schemes) (authority : List ℕ) (walk next : Walk) (replies : List RobotsReply) →
    IsBegun authority walk → StepsOverAmong schemes walk replies (Go next)
    → LeadsOverAmong schemes (robots_url_of authority) replies next.url

-- a walk goes on after at most five replies
abbrev pub GoesOnFiveTimes : Type 0
GoesOnFiveTimes = (schemes : Schemes) (authority : List ℕ) (walk next : Walk) (replies : List RobotsReply) →
    IsBegun authority walk → StepsOverAmong schemes walk replies (Go next) → length replies ≤ most_redirects
