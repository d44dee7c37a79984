-- What a walk does with a reply, and with a list of replies.
-- RFC 9309, sections 2.3.1.1 to 2.3.1.5.
use Rattle.std.specs.Prelude.{◌≡◌, ◌<◌, ◌+◌, [], ◌∷◌, ℕ, List, Option, Ok, unwrap_or}
use Rattle.path_normal.specs.declared.schemes.Schemes.{Schemes}
use Rattle.path_normal.specs.declared.schemes.Schemes.TheVariants.{Http}
use Rattle.path_normal.specs.PageText.{robots_url_of}
use Rattle.robots_text.specs.Lines.{kept}
use Rattle.robots_verdict.specs.declared.said.Said.{Said}
use Rattle.robots_verdict.specs.declared.said.Said.TheVariants.{Rules}
use Rattle.authority_cache.specs.Lives.{Timed, greatest_life, life_of}
use Rattle.robots_fetch.specs.declared.reply.RobotsReply.{RobotsReply}
use Rattle.robots_fetch.specs.declared.walk.Step.{Step}
use Rattle.robots_fetch.specs.declared.walk.Step.TheVariants.{Go, Done, NoMemory}
use Rattle.robots_fetch.specs.declared.walk.Walk.{Walk}
use Rattle.robots_fetch.specs.Redirects.{location_target, most_redirects, redirect_target}
use Rattle.robots_fetch.specs.Walk.{EndsWalkAmong, LeadsAmong, StopSays, asked_life}

-- the next URL to fetch
abbrev pub next_url : Walk → List ℕ
next_url walk = walk.url

-- the walk begins at the authority's robots URL
abbrev pub IsBegun : List ℕ → Walk → Type 0
IsBegun authority walk = (walk.url ≡ robots_url_of authority) × (walk.followed ≡ 0)

-- an answer without rules, for a day
abbrev pub for_a_day : Said → Timed
for_a_day says = record { says = says; spares = 2; life = greatest_life }

-- a step in these schemes: on to where the reply leads, one redirect more; done with its answer and lifetime, and two
-- spare twins; or the unchanged walk
abbrev pub StepsAmong : Schemes → Walk → RobotsReply → Step → Type 0
StepsAmong schemes walk reply (Go next) =
    LeadsAmong schemes walk.url reply next.url × (walk.followed < most_redirects) × (next.followed ≡ walk.followed + 1)
StepsAmong schemes walk reply (Done answer) =
    EndsWalkAmong schemes walk.followed walk.url reply answer.says
    × (answer.life ≡ life_of answer.says (asked_life reply))
    × (answer.spares ≡ 2)
StepsAmong schemes walk reply (NoMemory kept) = kept ≡ walk

-- the step by the last reply, if the walk goes on before it, in these schemes
abbrev pub StepsOverAmong : Schemes → Walk → List RobotsReply → Step → Type 0
StepsOverAmong schemes walk [] step = ⊥
StepsOverAmong schemes walk (reply ∷ []) step = StepsAmong schemes walk reply step
StepsOverAmong schemes walk (reply ∷ (other ∷ replies)) step =
    (next : Walk) × (StepsAmong schemes walk reply (Go next) × StepsOverAmong schemes next (other ∷ replies) step)

-- a step by a response with rules in its body
abbrev pub GivesRules : Walk → List ℕ → Option ℕ → Step → Type 0
GivesRules walk body max_age (Go next) = ⊥
GivesRules walk body max_age (Done answer) =
    (answer.says ≡ Rules (kept body)) × (answer.life ≡ life_of answer.says (unwrap_or max_age greatest_life))
    × (answer.spares ≡ 2)
GivesRules walk body max_age (NoMemory kept) = kept ≡ walk

-- a step by a redirect, in these schemes
abbrev pub FollowsRedirect : Schemes → Walk → Option (List ℕ) → Step → Type 0
FollowsRedirect schemes walk location (Go next) =
    (location_target schemes walk.url location ≡ Ok next.url) × (walk.followed < most_redirects)
    × (next.followed ≡ walk.followed + 1)
FollowsRedirect schemes walk location (Done answer) =
    StopSays (redirect_target schemes walk.followed walk.url location) answer.says
    × ((asked : ℕ) → answer.life ≡ life_of answer.says asked) × (answer.spares ≡ 2)
FollowsRedirect schemes walk location (NoMemory kept) = kept ≡ walk

-- a step if only `http` is read
abbrev pub Steps : Walk → RobotsReply → Step → Type 0
Steps = StepsAmong Http

-- the step by the last reply, if only `http` is read
abbrev pub StepsOver : Walk → List RobotsReply → Step → Type 0
StepsOver = StepsOverAmong Http
