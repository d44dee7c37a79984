-- The answer that replies decide for an authority, and its lifetime.
-- RFC 9309, sections 2.3.1.1 to 2.3.1.5 and 2.4.
use Rattle.std.specs.Prelude.{◌≡◌, ◌≤◌, ◌++◌, ◌∷◌, [], ℕ, List, Result, Ok, Err, length, string_bytes, unwrap_or}
use Rattle.std.specs.Option.{option_map}
use Rattle.path_normal.specs.declared.schemes.Schemes.{Schemes}
use Rattle.path_normal.specs.declared.schemes.Schemes.TheVariants.{Http}
use Rattle.path_normal.specs.PageText.{robots_url_of}
use Rattle.robots_text.specs.Lines.{kept}
use Rattle.robots_verdict.specs.declared.answer.Closure.TheVariants as closures
use Rattle.robots_verdict.specs.declared.answer.Opening.TheVariants as openings
use Rattle.robots_verdict.specs.declared.said.Said.{Said}
use Rattle.robots_verdict.specs.declared.said.Said.TheVariants.{Rules, Open, Closed}
use Rattle.authority_cache.specs.Lives.{greatest_life, life_of}
use Rattle.robots_fetch.specs.declared.redirect.Stop.{Stop}
use Rattle.robots_fetch.specs.declared.redirect.Stop.TheVariants as stops
use Rattle.robots_fetch.specs.declared.reply.RobotsReply.{RobotsReply}
use Rattle.robots_fetch.specs.declared.reply.RobotsReply.TheVariants.{Status, CodingFault, NetworkFault}
use Rattle.robots_fetch.specs.declared.status.StatusClass.{StatusClass}
use Rattle.robots_fetch.specs.declared.status.StatusClass.TheVariants as classes
use Rattle.robots_fetch.specs.Redirects.{location_target, most_redirects, redirect_target}
use Rattle.robots_fetch.specs.Statuses.{class_of}

-- the answer by a redirect that isn't followed; a followed one gives none
abbrev pub StopSays : Result (List ℕ) Stop → Said → Type 0
StopSays (Ok url) says = ⊥
StopSays (Err stops.TooManyRedirects) says = says ≡ Open openings.TooManyRedirects
StopSays (Err stops.BadRedirect) says = says ≡ Closed closures.BadRedirect
StopSays (Err stops.Scheme) says = says ≡ Closed closures.Scheme

-- a response's answer by its class, redirect target and body
abbrev pub ResponseSays : StatusClass → Result (List ℕ) Stop → List ℕ → Said → Type 0
ResponseSays classes.Successful target body says = says ≡ Rules (kept body)
ResponseSays classes.Redirect target body says = StopSays target says
ResponseSays classes.Unavailable target body says = says ≡ Open openings.Unavailable
ResponseSays classes.Unreachable target body says = says ≡ Closed closures.Server
ResponseSays classes.Other target body says = says ≡ Closed closures.Other

-- the reply ends a walk at its URL with this answer, after so many redirects, in these schemes
abbrev pub EndsWalkAmong : Schemes → ℕ → List ℕ → RobotsReply → Said → Type 0
EndsWalkAmong schemes followed url (Status code location body max_age) says =
    ResponseSays (class_of code)
    (redirect_target schemes followed url (option_map string_bytes location)) body.items says
EndsWalkAmong schemes followed url CodingFault says = says ≡ Closed closures.Coding
EndsWalkAmong schemes followed url NetworkFault says = says ≡ Closed closures.Network

-- the reply redirects from the first URL to the second, in these schemes
abbrev pub LeadsAmong : Schemes → List ℕ → RobotsReply → List ℕ → Type 0
LeadsAmong schemes url (Status code location body max_age) next =
    (class_of code ≡ classes.Redirect)
    × (location_target schemes url (option_map string_bytes location) ≡ Ok next)
LeadsAmong schemes url CodingFault next = ⊥
LeadsAmong schemes url NetworkFault next = ⊥

-- the replies lead in a row from the first URL to the second, in these schemes
abbrev pub LeadsOverAmong : Schemes → List ℕ → List RobotsReply → List ℕ → Type 0
LeadsOverAmong schemes url [] last = url ≡ last
LeadsOverAmong schemes url (reply ∷ replies) last =
    (next : List ℕ) × (LeadsAmong schemes url reply next × LeadsOverAmong schemes next replies last)

-- the seconds that a reply asks for
abbrev pub asked_life : RobotsReply → ℕ
asked_life (Status code location body max_age) = unwrap_or max_age greatest_life
asked_life CodingFault = greatest_life
asked_life NetworkFault = greatest_life

-- the replies decide an answer for the authority, with this lifetime, in these schemes: all but the last, at most
-- five, redirect from its robots.txt URL on, and the last ends the walk
pub record AnswerOfAmong (schemes : Schemes) (authority : List ℕ) (replies : List RobotsReply) (says : Said)
    (life : ℕ) : Type 0 where
  pub way : List RobotsReply
  pub last : RobotsReply
  pub url : List ℕ
  pub are_all : replies ≡ way ++ last ∷ []
  pub are_few : length way ≤ most_redirects
  pub leads : LeadsOverAmong schemes (robots_url_of authority) way url
  pub ends : EndsWalkAmong schemes (length way) url last says
  pub lives : life ≡ life_of says (asked_life last)

-- the reply ends a walk with this answer, if only `http` is read
abbrev pub EndsWalk : ℕ → List ℕ → RobotsReply → Said → Type 0
EndsWalk = EndsWalkAmong Http

-- the reply redirects from the first URL to the second, if only `http` is read
abbrev pub Leads : List ℕ → RobotsReply → List ℕ → Type 0
Leads = LeadsAmong Http

-- the replies redirect in a row, if only `http` is read
abbrev pub LeadsOver : List ℕ → List RobotsReply → List ℕ → Type 0
LeadsOver = LeadsOverAmong Http

-- the replies decide an answer for the authority, with this lifetime, if only `http` is read
abbrev pub AnswerOf : List ℕ → List RobotsReply → Said → ℕ → Type 0
AnswerOf = AnswerOfAmong Http
