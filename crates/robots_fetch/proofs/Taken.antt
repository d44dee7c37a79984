-- A walk over replies that decide, from any of its URLs on.
-- Used by the laws on steps.
use Rattle.std.proofs.Common.{◌≡◌, ◌≤◌, ◌+◌, ◌++◌, ◌∷◌, [], ℕ, List, length, inl, inr, refl, ap, subst, arith}
use Rattle.path_normal.specs.declared.schemes.Schemes.{Schemes}
use Rattle.robots_verdict.specs.declared.said.Said.{Said}
use Rattle.authority_cache.specs.Lives.{Timed, life_of}
use Rattle.robots_fetch.specs.declared.reply.RobotsReply.{RobotsReply}
use Rattle.robots_fetch.specs.declared.walk.Step.TheVariants.{Go, Done}
use Rattle.robots_fetch.specs.declared.walk.Walk.{Walk}
use Rattle.robots_fetch.specs.Redirects.{most_redirects}
use Rattle.robots_fetch.specs.Steps.{StepsAmong, StepsOverAmong}
use Rattle.robots_fetch.specs.Walk.{EndsWalkAmong, LeadsOverAmong, asked_life}
use Rattle.robots_fetch.proofs.Replies.{Decide, leads_on, leads_one}

gone : (schemes : Schemes) (walk next : Walk) (reply : RobotsReply) (rest : List RobotsReply) (says : Said) (life : ℕ) →
    StepsAmong schemes walk reply (Go next) → Decide schemes walk.followed walk.url (reply ∷ rest) says life →
    Decide schemes next.followed next.url rest says life
gone schemes walk next reply rest says life step (inl ends) = absurd (leads_on schemes walk.followed walk.url reply next.url says step.1 step.0 ends.1)
gone schemes walk next reply rest says life step (inr on) =
    let one : walk.followed + 1 ≡ next.followed = omega (arith, step.2) in
    subst (λ n. Decide schemes n next.url rest says life) one
    (subst (λ u. Decide schemes (walk.followed + 1) u rest says life) (leads_one schemes walk.url reply on.0 next.url on.2 step.0) on.3)

pub gone_over : (schemes : Schemes) (walk next : Walk) (front rest : List RobotsReply) (says : Said) (life : ℕ) →
    StepsOverAmong schemes walk front (Go next) → Decide schemes walk.followed walk.url (front ++ rest) says life →
    Decide schemes next.followed next.url rest says life
gone_over schemes walk next [] rest says life steps decide = absurd steps
gone_over schemes walk next (reply ∷ []) rest says life steps decide = gone schemes walk next reply rest says life steps decide
gone_over schemes walk next (reply ∷ (other ∷ front)) rest says life steps decide =
    gone_over schemes steps.0 next (other ∷ front) rest says life steps.1.1
    (gone schemes walk steps.0 reply ((other ∷ front) ++ rest) says life steps.1.0 decide)

-- redirects from a URL on, after so many, and a reply that ends the walk
pub record IsWay (schemes : Schemes) (followed : ℕ) (url : List ℕ) (replies : List RobotsReply) (says : Said) (life : ℕ) : Type 0 where
  pub way : List RobotsReply
  pub last : RobotsReply
  pub end : List ℕ
  pub are_all : replies ≡ way ++ last ∷ []
  pub are_few : followed + length way ≤ most_redirects
  pub leads : LeadsOverAmong schemes url way end
  pub ends : EndsWalkAmong schemes (followed + length way) end last says
  pub lives : life ≡ life_of says (asked_life last)

pub done_over : (schemes : Schemes) (walk : Walk) (replies : List RobotsReply) (answer : Timed) →
    walk.followed ≤ most_redirects → StepsOverAmong schemes walk replies (Done answer) →
    IsWay schemes walk.followed walk.url replies answer.says answer.life
done_over schemes walk [] answer few steps = absurd steps
done_over schemes walk (reply ∷ []) answer few steps =
    let none : walk.followed ≡ walk.followed + 0 = omega arith in
    record {
      way = [];
      last = reply;
      end = walk.url;
      are_all = refl;
      are_few = omega (arith, few);
      leads = refl;
      ends = subst (λ n. EndsWalkAmong schemes n walk.url reply answer.says) none steps.0;
      lives = steps.1;
    }
done_over schemes walk (reply ∷ (other ∷ replies)) answer few steps =
    let next = steps.0 in
    let go = steps.1.0 in
    let more = done_over schemes next (other ∷ replies) answer (omega (arith, go.1, go.2)) steps.1.1 in
    let one : next.followed + length more.way ≡ walk.followed + length (reply ∷ more.way) = omega (arith, go.2) in
    record {
      way = reply ∷ more.way;
      last = more.last;
      end = more.end;
      are_all = ap (λ xs. reply ∷ xs) more.are_all;
      are_few = omega (arith, more.are_few, go.2);
      leads = (next.url, (go.0, more.leads));
      ends = subst (λ n. EndsWalkAmong schemes n more.end more.last answer.says) one more.ends;
      lives = more.lives;
    }

pub leads_over : (schemes : Schemes) (walk next : Walk) (replies : List RobotsReply) →
    StepsOverAmong schemes walk replies (Go next) → LeadsOverAmong schemes walk.url replies next.url
leads_over schemes walk next [] steps = absurd steps
leads_over schemes walk next (reply ∷ []) steps = (next.url, (steps.0, refl))
leads_over schemes walk next (reply ∷ (other ∷ replies)) steps =
    let more : LeadsOverAmong schemes steps.0.url (other ∷ replies) next.url = leads_over schemes steps.0 next (other ∷ replies) steps.1.1 in
    (steps.0.url, (steps.1.0.0, more))

-- a walk that goes on has followed each reply, within the limit of redirects
pub few_over : (schemes : Schemes) (walk next : Walk) (replies : List RobotsReply) → StepsOverAmong schemes walk replies (Go next) →
    (walk.followed + length replies ≡ next.followed) × (next.followed ≤ most_redirects)
few_over schemes walk next [] steps = absurd steps
few_over schemes walk next (reply ∷ []) steps = (omega (arith, steps.2), omega (arith, steps.1, steps.2))
few_over schemes walk next (reply ∷ (other ∷ replies)) steps =
    let more = few_over schemes steps.0 next (other ∷ replies) steps.1.1 in
    (omega (arith, more.0, steps.1.0.2), more.1)
