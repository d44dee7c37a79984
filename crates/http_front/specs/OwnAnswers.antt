-- What the gate itself answers: a table for each part of a response, by what a request is told.
-- RFC 9110, sections 7.4, 10.2.1, 10.2.3, 11.7.1 and 15; RFC 9209, section 2.3.
use Rattle.std.specs.Prelude.{ℕ, List, [], ◌∷◌, ◌++◌, codes}
use Rattle.http1.specs.Fields.{Header}
use Rattle.http_wire.specs.Messages.{wire_fault_text}
use Rattle.http_wire.specs.declared.fault.WireFault.TheVariants as faults
use Rattle.path_normal.specs.Messages.{url_fault_words}
use Rattle.crawl_job.specs.declared.hop.Refusal.{Refusal}
use Rattle.crawl_job.specs.declared.hop.Refusal.TheVariants as refusals
use Rattle.command_lines.specs.RefusalText.{refusal_word}
use Rattle.http_front.specs.Causes.{denial_details, fault_error, fault_status}
use Rattle.http_front.specs.Passing.{sent_field}
use Rattle.http_front.specs.declared.asked.TargetForm.{TargetForm}
use Rattle.http_front.specs.declared.asked.TargetForm.TheVariants.{Absolute, Path}
use Rattle.http_front.specs.declared.asked.Misasked.{Misasked}
use Rattle.http_front.specs.declared.asked.Misasked.TheVariants as misasked
use Rattle.http_front.specs.declared.told.Later.{Later}
use Rattle.http_front.specs.declared.told.Later.TheVariants as laters
use Rattle.http_front.specs.declared.told.OwnAnswer.{OwnAnswer}
use Rattle.http_front.specs.declared.told.OwnAnswer.TheVariants as owns

-- ---- the status

-- the status of a request that asks for nothing
abbrev pub misasked_status : Misasked → ℕ
misasked_status misasked.Method = 405
misasked_status misasked.Host = 421
misasked_status misasked.Browser = 403
misasked_status misasked.NoCredentials = 407
misasked_status (misasked.Elsewhere form url) = 308
misasked_status misasked.NoMemory = 503
misasked_status _ = 400

-- the status of the gate's own answer
abbrev pub own_status : OwnAnswer → ℕ
own_status (owns.Misasked why) = misasked_status why
own_status owns.CutShort = 502
own_status (owns.Denied denial) = 403
own_status (owns.Refused refusal) = 503
own_status (owns.Later why) = 503
own_status (owns.Failed fault failure) = fault_status fault failure
own_status owns.Unfetched = 500

-- ---- the type of error

-- the type of error of a request that asks for nothing
abbrev pub misasked_error : Misasked → List ℕ
misasked_error (misasked.Elsewhere form url) = codes "proxy_internal_response"
misasked_error misasked.NoMemory = codes "proxy_internal_response"
misasked_error _ = codes "http_request_error"

-- the type of error of the gate's own answer
abbrev pub own_error : OwnAnswer → List ℕ
own_error (owns.Misasked why) = misasked_error why
own_error owns.CutShort = codes "http_response_body_size"
own_error (owns.Denied denial) = codes "http_request_denied"
own_error (owns.Refused refusal) = codes "proxy_internal_response"
own_error (owns.Later why) = codes "proxy_internal_response"
own_error (owns.Failed fault failure) = fault_error fault failure
own_error owns.Unfetched = codes "proxy_internal_error"

-- ---- the details

-- the words of a request that asks for nothing
abbrev pub misasked_words : Misasked → List ℕ
misasked_words misasked.Method = codes "method"
misasked_words misasked.Host = codes "host"
misasked_words misasked.Browser = codes "browser"
misasked_words misasked.Twice = codes "field twice"
misasked_words misasked.NoCredentials = codes "no credentials"
misasked_words misasked.NoToken = codes "no token"
misasked_words misasked.BadToken = codes "token"
misasked_words misasked.BadCut = codes "cut"
misasked_words (misasked.Url fault) = url_fault_words fault
misasked_words (misasked.Elsewhere form url) = codes "authority"
misasked_words misasked.NoMemory = refusal_word refusals.NoMemory

-- the words of a request that was not begun
abbrev pub later_words : Later → List ℕ
later_words laters.InFlight = codes "inflight"
later_words laters.Door = codes "site busy"

-- the words of the gate's own answer
abbrev pub own_details : OwnAnswer → List ℕ
own_details (owns.Misasked why) = misasked_words why
own_details owns.CutShort = codes "cut"
own_details (owns.Denied denial) = denial_details denial
own_details (owns.Refused refusal) = refusal_word refusal
own_details (owns.Later why) = later_words why
own_details (owns.Failed fault failure) = wire_fault_text fault
own_details owns.Unfetched = codes "no fetch"

-- ---- the other fields

-- where a page is written as the gate writes it
abbrev pub elsewhere : TargetForm → List ℕ → List ℕ
elsewhere Absolute url = url
elsewhere Path url = codes "/" ++ url

-- when to ask again: seconds
abbrev pub again : List ℕ → List Header
again seconds = (codes "retry-after", seconds) ∷ []

-- the type of a text
unfoldable pub text_words : List ℕ
text_words = codes "text/plain; charset=utf-8"

-- the type of numbers for Prometheus
unfoldable pub metrics_words : List ℕ
metrics_words = codes "text/plain; version=0.0.4; charset=utf-8"

-- a realm that says what the user is
unfoldable pub challenge_words : List ℕ
challenge_words = codes "Basic realm=\"product token\""

-- the one method
unfoldable pub allow_field : Header
allow_field = (codes "allow", codes "GET")

-- the field with the type of a text
unfoldable pub text_type : Header
text_type = (codes "content-type", text_words)

-- the field with the type of the numbers
abbrev pub metrics_type : Header
metrics_type = (codes "content-type", metrics_words)

-- the name of a proxy's challenge
unfoldable pub challenge_name : List ℕ
challenge_name = codes "proxy-authenticate"

-- the challenge of Basic credentials
abbrev pub challenge : Header
challenge = (challenge_name, challenge_words)

-- the fields for a request that asks for nothing
abbrev pub misasked_fields : Misasked → List Header
misasked_fields misasked.Method = allow_field ∷ (text_type ∷ [])
misasked_fields misasked.NoCredentials = challenge ∷ []
misasked_fields (misasked.Elsewhere form url) = sent_field (codes "location") (elsewhere form url)
misasked_fields misasked.NoMemory = again (codes "1")
misasked_fields _ = []

-- the fields for a refusal: a history has room when it is sealed
abbrev pub refusal_fields : Refusal → List Header
refusal_fields refusals.LogFull = again (codes "60")
refusal_fields _ = again (codes "1")

-- the fields of the gate's own answer, beside Proxy-Status
abbrev pub own_fields : OwnAnswer → List Header
own_fields (owns.Misasked why) = misasked_fields why
own_fields (owns.Refused refusal) = refusal_fields refusal
own_fields (owns.Later why) = again (codes "1")
own_fields (owns.Failed faults.NoMemory failure) = again (codes "1")
own_fields _ = []

-- ---- the body

-- how a page of http is asked for
unfoldable pub absolute_line : List ℕ
absolute_line = codes "Pages are fetched by GET alone; those of http as a proxy is asked.\n"

-- how a page of https is asked for
unfoldable pub path_line : List ℕ
path_line = codes "Pages of https: GET /https://a.example/ with the field Crawlgate-Token, and no CONNECT.\n"

-- what a client needs that knows CONNECT alone
unfoldable pub connect_line : List ℕ
connect_line = codes "Who can send CONNECT alone needs a proxy before this one that ends its TLS and asks so.\n"

-- how a page is asked for, if not by the method of the request
abbrev pub method_text : List ℕ
method_text = absolute_line ++ (path_line ++ connect_line)

-- the body of the gate's own answer
abbrev pub own_body : OwnAnswer → List ℕ
own_body (owns.Misasked misasked.Method) = method_text
own_body _ = []
