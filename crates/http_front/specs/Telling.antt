-- The response to what a request is told.
-- RFC 9110, section 15; RFC 9209, section 2.
use Rattle.std.specs.Prelude.{◌⊎◌, ℕ, Bool, true, false, not, ◌||◌, List, [], ◌∷◌, ◌++◌, codes, decimal, if◌then◌else◌, Option, Some, None}
use Rattle.http1.specs.Fields.{Header}
use Rattle.http_server.specs.declared.response.Response.{Response}
use Rattle.http_server.specs.Response.{IsResponse}
use Rattle.http_client.specs.declared.failure.Failure.{Failure}
use Rattle.http_wire.specs.Fields.{Pair}
use Rattle.http_wire.specs.Kept.{KeepsOf}
use Rattle.http_wire.specs.declared.response.HttpReply.{HttpReply}
use Rattle.path_normal.specs.declared.schemes.Schemes.{Schemes}
use Rattle.gate_history.specs.declared.outcome.Reason.{Reason}
use Rattle.crawl_job.specs.declared.hop.Hop.{Hop}
use Rattle.crawl_job.specs.declared.hop.Hop.TheVariants as hops
use Rattle.keepers.specs.declared.counts.Counts.{Counts}
use Rattle.page_worker.specs.declared.visiting.Visited.{Visited}
use Rattle.page_worker.specs.declared.visiting.Visited.TheVariants as visiteds
use Rattle.http_front.specs.Causes.{reason_details}
use Rattle.http_front.specs.OwnAnswers.{metrics_type, own_body, own_details, own_error, own_fields, own_status}
use Rattle.http_front.specs.Passing.{passed_body, passed_fields, sent_field, site_status}
use Rattle.http_front.specs.ProxyStatus.{own_value, passed_value}
use Rattle.http_front.specs.declared.asked.PageWish.{PageWish}
use Rattle.http_front.specs.declared.asked.CutRule.{CutRule}
use Rattle.http_front.specs.declared.asked.CutRule.TheVariants as cuts
use Rattle.http_front.specs.declared.told.Later.TheVariants as laters
use Rattle.http_front.specs.declared.told.OwnAnswer.{OwnAnswer}
use Rattle.http_front.specs.declared.told.OwnAnswer.TheVariants as owns
use Rattle.http_front.specs.declared.told.Told.{Told}
use Rattle.http_front.specs.declared.told.Told.TheVariants as tolds

-- ---- what a visit tells

-- cut pages are passed on
abbrev pub is_pass : CutRule → Bool
is_pass cuts.Pass = true
is_pass cuts.Refuse = false

-- what is told of a page: nothing of one that is cut, unless that is asked for
abbrev pub told_page : PageWish → ℕ → Reason → HttpReply → Told
told_page asked number reason reply =
    if not reply.cut || is_pass asked.cut then tolds.Page asked number reason reply
    else tolds.Own owns.CutShort

-- what is told of a hop, and of its response
abbrev pub told_hop : PageWish → Hop → Option HttpReply → Option Failure → Told
told_hop asked (hops.Page number reason status size cut) (Some reply) failure = told_page asked number reason reply
told_hop asked (hops.Page number reason status size cut) None failure = tolds.Own owns.Unfetched
told_hop asked (hops.No denial) reply failure = tolds.Own (owns.Denied denial)
told_hop asked (hops.Fault number fault) reply failure = tolds.Own (owns.Failed fault failure)
told_hop asked (hops.Err refusal) reply failure = tolds.Own (owns.Refused refusal)
told_hop asked (hops.Stop stop) reply failure = tolds.Own owns.Unfetched

-- what is told of a visit, if the keeper makes any
abbrev pub told_visit : PageWish → Option Visited → Told
told_visit asked (Some (visiteds.Done visit)) = told_hop asked visit.hop visit.reply visit.failure
told_visit asked (Some visiteds.InFlight) = tolds.Own (owns.Later laters.InFlight)
told_visit asked None = tolds.Own owns.Unfetched

-- the response of a visit, if it gave one
abbrev pub reply_in : Option Visited → Option HttpReply
reply_in (Some (visiteds.Done visit)) = visit.reply
reply_in (Some visiteds.InFlight) = None
reply_in None = None

-- the request was not begun
abbrev pub is_later : Told → Bool
is_later (tolds.Own (owns.Later why)) = true
is_later _ = false

-- ---- the response

-- the field that says whose answer it is
abbrev pub status_field : List ℕ → List Header
status_field value = sent_field (codes "proxy-status") value

-- the gate's own answer
abbrev pub IsOwn : OwnAnswer → Response → Type 0
IsOwn own response =
    IsResponse (own_status own) (own_fields own ++ status_field (own_value (own_error own) (own_details own)))
    (own_body own) response

-- a site's response under a permit: its status, its kept fields and its body
pub record TellsPage
    (schemes : Schemes) (asked : PageWish) (number : ℕ) (reason : Reason) (reply : HttpReply) (response : Response)
    : Type 0 where
  pub kept : List Pair
  pub is_kept : KeepsOf reply.head.items kept
  pub is : IsResponse (site_status reply.status)
      (passed_fields schemes asked.form asked.url kept
      ++ status_field (passed_value reply.status reply.cut (reason_details (decimal number) reason)))
      (passed_body reply.status reply.body.items) response

-- that memory ran out
abbrev pub out_of_memory : List ℕ
out_of_memory = codes "crawlgate; error=proxy_internal_response; details=\"memory\""

module _ (tells : Counts → List ℕ → Type 0) where
  -- the gate's numbers, in a text that tells them
  abbrev pub IsCounted : Counts → Response → Type 0
  IsCounted counts response =
      (text : List ℕ)
      × (tells counts text
      × IsResponse 200 (metrics_type ∷ status_field (own_value [] (codes "metrics"))) text response)

  -- the response says what is told, in the schemes of the gate
  abbrev pub IsTold : Schemes → Told → Response → Type 0
  IsTold schemes (tolds.Page asked number reason reply) response = TellsPage schemes asked number reason reply response
  IsTold schemes (tolds.Metrics counts) response = IsCounted counts response
  IsTold schemes (tolds.Own own) response = IsOwn own response

-- memory ran out for the response, or even for saying that
abbrev pub RanOut : Response → Type 0
RanOut response =
    IsResponse 503 [] [] response ⊎ IsResponse 503 ((codes "proxy-status", out_of_memory) ∷ []) [] response
