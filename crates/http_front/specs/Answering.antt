-- What the front answers: at most one visit a request, if the door lets it in, and the response that tells it.
-- RFC 9110, section 3.3. Each visit is a keeper's.
use Rattle.std.specs.Prelude.{◌≡◌, ◌⊎◌, ℕ, Bool, List, Option, None, Some, Ok, Err}
use Rattle.http.specs.declared.request.Parts.{Parts}
use Rattle.http.specs.declared.request.Request.{Request}
use Rattle.http.specs.Request.{head_of}
use Rattle.http_server.specs.declared.response.Response.{Response}
use Rattle.http_wire.specs.declared.response.HttpReply.{HttpReply}
use Rattle.path_normal.specs.PageText.{authority_of}
use Rattle.crawl_job.specs.declared.job.Job.{Job}
use Rattle.keepers.specs.Deals.{Deals}
use Rattle.keepers.specs.declared.counts.Counts.{Counts}
use Rattle.page_worker.specs.declared.visiting.Visited.{Visited}
use Rattle.http_front.specs.Asking.{wish_of}
use Rattle.http_front.specs.Telling.{IsTold, RanOut, is_later, reply_in, told_visit}
use Rattle.http_front.specs.declared.asked.PageWish.{PageWish}
use Rattle.http_front.specs.declared.asked.Misasked.{Misasked}
use Rattle.http_front.specs.declared.asked.Misasked.TheVariants as misasked
use Rattle.http_front.specs.declared.asked.Wish.TheVariants as wishes
use Rattle.http_front.specs.declared.told.Later.TheVariants as laters
use Rattle.http_front.specs.declared.told.OwnAnswer.TheVariants as owns
use Rattle.http_front.specs.declared.told.Told.{Told}
use Rattle.http_front.specs.declared.told.Told.TheVariants as tolds

-- the job of a page that is asked for
abbrev pub job_of : PageWish → Job
job_of asked = record { token = asked.token; url = asked.url }

-- a keeper by its deals; a door by what it answers for an authority, and by the visits that leave it
module _ {S P : Type 0} (deals : Deals S) (ask : List ℕ → Option P → Type 0) (end : P → Option HttpReply → Type 0) where
  -- a visit of the page that is asked for, under the token that is named: the door let it in, and is told its response
  pub record IsLetIn (reads : ℕ → Type 0) (old : S) (job : Job) (pass : P) (visit : Option Visited) (new : S)
      : Type 0 where
    pub let_in : ask (authority_of job.url) (Some pass)
    pub visits : deals.visits reads old job visit new
    pub is_left : end pass (reply_in visit)

  -- the page is visited once, and what came of it is told
  pub record VisitsPage (reads : ℕ → Type 0) (old : S) (asked : PageWish) (told : Told) (new : S) : Type 0 where
    pub pass : P
    pub visit : Option Visited
    pub is_let_in : IsLetIn reads old (job_of asked) pass visit new
    pub tells : told ≡ told_visit asked visit

  -- the door lets no visit in, and so the gate is asked for nothing
  pub record IsKeptOut (old : S) (asked : PageWish) (told : Told) (new : S) : Type 0 where
    pub kept_out : ask (authority_of asked.url) None
    pub tells : told ≡ tolds.Own (owns.Later laters.Door)
    pub stays : new ≡ old

  -- no memory is left to ask
  pub record IsUnasked (old : S) (told : Told) (new : S) : Type 0 where
    pub tells : told ≡ tolds.Own (owns.Misasked misasked.NoMemory)
    pub stays : new ≡ old

  -- what a page that is asked for leads to
  abbrev pub DoesPage : (ℕ → Type 0) → S → PageWish → Told → S → Type 0
  DoesPage reads old asked told new =
      VisitsPage reads old asked told new ⊎ (IsKeptOut old asked told new ⊎ IsUnasked old told new)

  -- a page is asked for
  pub record AsksPage (reads : ℕ → Type 0) (old : S) (head : Parts) (told : Told) (new : S) : Type 0 where
    pub asked : PageWish
    pub is_asked : wish_of (deals.schemes old) head ≡ Ok (wishes.Page asked)
    pub does : DoesPage reads old asked told new

  -- the numbers are asked for, and counted
  pub record TellsCounts (old : S) (head : Parts) (told : Told) (new : S) : Type 0 where
    pub is_asked : wish_of (deals.schemes old) head ≡ Ok wishes.Metrics
    pub counts : Counts
    pub counted : deals.counts old counts
    pub tells : told ≡ tolds.Metrics counts
    pub stays : new ≡ old

  -- nothing is asked for, and so the cause is told, or no memory is left to find out; the gate is asked for nothing
  pub record AsksNothing (old : S) (head : Parts) (told : Told) (new : S) : Type 0 where
    pub why : Misasked
    pub cause : (why ≡ misasked.NoMemory) ⊎ (wish_of (deals.schemes old) head ≡ Err why)
    pub tells : told ≡ tolds.Own (owns.Misasked why)
    pub stays : new ≡ old

  -- what a request leads to
  abbrev pub DoesRequest : (ℕ → Type 0) → S → Parts → Told → S → Type 0
  DoesRequest reads old head told new =
      AsksPage reads old head told new ⊎ (TellsCounts old head told new ⊎ AsksNothing old head told new)

  -- a request leads to what is told, at readings of this number; the response tells it, or that memory ran out for it;
  -- and it is said to be sent again later exactly if it was not begun
  abbrev pub AnswersRequest : (ℕ → ℕ → Type 0) → (Counts → List ℕ → Type 0) → ℕ → S → Request (List ℕ) → Response
      → (later : Bool) → S → Type 0
  AnswersRequest reads tells number old request response later new =
      (told : Told)
      × (DoesRequest (reads number) old (head_of request) told new
      × (IsTold tells (deals.schemes old) told response ⊎ RanOut response)
      × (later ≡ is_later told))
