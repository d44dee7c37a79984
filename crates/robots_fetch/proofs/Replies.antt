-- A list of replies from its first on, after a number of redirects.
-- Used by the laws on answers and on steps.
use Rattle.std.proofs.Common.{◌≡◌, ◌<◌, ◌≤◌, ◌+◌, ◌++◌, ◌∷◌, ◌⊎◌, [], ℕ, List, Result, Ok, Err, length, inl, inr, refl, sym, ap, subst, ◌∙◌, arith}
use Rattle.std.specs.Prelude.{string_bytes}
use Rattle.std.specs.Option.{option_map}
use Rattle.std.proofs.lemmas.Bool.{lt-ltb}
use Rattle.path_normal.specs.declared.schemes.Schemes.{Schemes}
use Rattle.robots_verdict.specs.declared.said.Said.{Said}
use Rattle.authority_cache.specs.Lives.{life_of}
use Rattle.robots_fetch.specs.declared.redirect.Stop.{Stop}
use Rattle.robots_fetch.specs.declared.redirect.Stop.TheVariants as stops
use Rattle.robots_fetch.specs.declared.reply.RobotsReply.{RobotsReply}
use Rattle.robots_fetch.specs.declared.reply.RobotsReply.TheVariants.{Status, CodingFault, NetworkFault}
use Rattle.robots_fetch.specs.declared.status.StatusClass.{StatusClass}
use Rattle.robots_fetch.specs.declared.status.StatusClass.TheVariants as classes
use Rattle.robots_fetch.specs.Redirects.{location_target, most_redirects, redirect_target}
use Rattle.robots_fetch.specs.Statuses.{class_of}
use Rattle.robots_fetch.specs.Walk.{EndsWalkAmong, LeadsAmong, LeadsOverAmong, ResponseSays, StopSays, asked_life}

ok_one : (target : Result (List ℕ) Stop) (a b : List ℕ) → target ≡ Ok a → target ≡ Ok b → a ≡ b
ok_one target a b one other = cc

pub leads_one : (schemes : Schemes) (url : List ℕ) (reply : RobotsReply) (a b : List ℕ) → LeadsAmong schemes url reply a → LeadsAmong schemes url reply b → a ≡ b
leads_one schemes url (Status code location body max_age) a b one other =
    ok_one (location_target schemes url (option_map string_bytes location)) a b one.1 other.1
leads_one schemes url CodingFault a b one other = absurd one
leads_one schemes url NetworkFault a b one other = absurd one

response_one : (class : StatusClass) (target : Result (List ℕ) Stop) (body : List ℕ) (a b : Said) →
    ResponseSays class target body a → ResponseSays class target body b → a ≡ b
response_one classes.Successful target body a b one other = one ∙ sym other
response_one classes.Redirect (Ok url) body a b one other = absurd one
response_one classes.Redirect (Err stops.TooManyRedirects) body a b one other = one ∙ sym other
response_one classes.Redirect (Err stops.BadRedirect) body a b one other = one ∙ sym other
response_one classes.Redirect (Err stops.Scheme) body a b one other = one ∙ sym other
response_one classes.Unavailable target body a b one other = one ∙ sym other
response_one classes.Unreachable target body a b one other = one ∙ sym other
response_one classes.Other target body a b one other = one ∙ sym other

ends_one : (schemes : Schemes) (followed : ℕ) (url : List ℕ) (reply : RobotsReply) (a b : Said) →
    EndsWalkAmong schemes followed url reply a → EndsWalkAmong schemes followed url reply b → a ≡ b
ends_one schemes followed url (Status code location body max_age) a b one other =
    response_one (class_of code) (redirect_target schemes followed url (option_map string_bytes location)) body.items a b one other
ends_one schemes followed url CodingFault a b one other = one ∙ sym other
ends_one schemes followed url NetworkFault a b one other = one ∙ sym other

pub leads_on : (schemes : Schemes) (followed : ℕ) (url : List ℕ) (reply : RobotsReply) (next : List ℕ) (says : Said) →
    followed < most_redirects → LeadsAmong schemes url reply next → EndsWalkAmong schemes followed url reply says → ⊥
leads_on schemes followed url (Status code location body max_age) next says few leads ends =
    let target : redirect_target schemes followed url (option_map string_bytes location) ≡ Ok next =
    rw (lt-ltb followed most_redirects few) leads.1 in
    subst (λ t. StopSays t says) target
    (subst (λ c. ResponseSays c (redirect_target schemes followed url (option_map string_bytes location)) body.items says) leads.0 ends)
leads_on schemes followed url CodingFault next says few leads ends = absurd leads
leads_on schemes followed url NetworkFault next says few leads ends = absurd leads

-- the reply ends the walk and is the last
abbrev Stands : Schemes → ℕ → List ℕ → RobotsReply → List RobotsReply → Said → ℕ → Type 0
Stands schemes followed url reply rest says life =
    (rest ≡ []) × EndsWalkAmong schemes followed url reply says × (life ≡ life_of says (asked_life reply))

-- the replies decide from a URL on, after so many redirects
abbrev pub Decide : Schemes → ℕ → List ℕ → List RobotsReply → Said → ℕ → Type 0
Decide schemes followed url [] says life = ⊥
Decide schemes followed url (reply ∷ rest) says life =
    Stands schemes followed url reply rest says life
    ⊎ ((next : List ℕ) × (followed < most_redirects) × LeadsAmong schemes url reply next × Decide schemes (followed + 1) next rest says life)

not_empty : {A : Type 0} (x : A) (xs : List A) → x ∷ xs ≡ [] → ⊥
not_empty x xs empty = cc

pub decide_one : (schemes : Schemes) (followed : ℕ) (url : List ℕ) (front rest : List RobotsReply) (a b : Said) (l m : ℕ) →
    Decide schemes followed url front a l → Decide schemes followed url (front ++ rest) b m → (rest ≡ []) × (a ≡ b) × (l ≡ m)
decide_one schemes followed url [] rest a b l m one other = absurd one
decide_one schemes followed url (reply ∷ front) rest a b l m (inl one) (inl other) =
    let says = ends_one schemes followed url reply a b one.1 other.1 in (
      subst (λ xs. xs ++ rest ≡ []) one.0 other.0,
      says,
      one.2 ∙ ap (λ s. life_of s (asked_life reply)) says ∙ sym other.2,
    )
decide_one schemes followed url (reply ∷ front) rest a b l m (inl one) (inr other) =
    absurd (leads_on schemes followed url reply other.0 a other.1 other.2 one.1)
decide_one schemes followed url (reply ∷ front) rest a b l m (inr one) (inl other) =
    absurd (leads_on schemes followed url reply one.0 b one.1 one.2 other.1)
decide_one schemes followed url (reply ∷ front) rest a b l m (inr one) (inr other) =
    let same = leads_one schemes url reply other.0 one.0 other.2 one.2 in
    decide_one schemes (followed + 1) one.0 front rest a b l m one.3
    (subst (λ next. Decide schemes (followed + 1) next (front ++ rest) b m) same other.3)

pub way_decides : (schemes : Schemes) (followed : ℕ) (url : List ℕ) (way : List RobotsReply) (last : RobotsReply) (end : List ℕ) (says : Said) (life : ℕ) →
    followed + length way ≤ most_redirects → LeadsOverAmong schemes url way end → EndsWalkAmong schemes (followed + length way) end last says →
    life ≡ life_of says (asked_life last) → Decide schemes followed url (way ++ last ∷ []) says life
way_decides schemes followed url [] last end says life few leads ends lives =
    let none : followed + 0 ≡ followed = omega arith in
    inl (refl, subst (λ n. EndsWalkAmong schemes n url last says) none (subst (λ u. EndsWalkAmong schemes (followed + 0) u last says) (sym leads) ends), lives)
way_decides schemes followed url (reply ∷ way) last end says life few leads ends lives =
    let one : followed + length (reply ∷ way) ≡ followed + 1 + length way = omega arith in
    inr (
      leads.0,
      omega (arith, few),
      leads.1.0,
      way_decides schemes (followed + 1) leads.0 way last end says life (omega (arith, few)) leads.1.1
          (subst (λ n. EndsWalkAmong schemes n end last says) one ends) lives,
    )
