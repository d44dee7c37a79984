-- What a request asks for, or why it asks for nothing. The first cause that holds is told.
-- RFC 9110, sections 7.4, 9.3.1 and 11.7.2; RFC 9112, section 3.2; RFC 9309, section 2.2.1.
use Rattle.std.specs.Prelude.{ℕ, Bool, ◌||◌, List, Option, Some, None, Result, Ok, Err, bytes_eq, codes, if◌then◌else◌}
use Rattle.http.specs.declared.request.Parts.{Parts}
use Rattle.http_header.specs.FieldValue.{FieldValue}
use Rattle.http_header.specs.HeaderMap.{Entries}
use Rattle.path_normal.specs.Capacity.{Enough}
use Rattle.path_normal.specs.PageUrl.{page_url_among}
use Rattle.path_normal.specs.declared.fault.UrlFault.{UrlFault}
use Rattle.path_normal.specs.declared.fault.UrlFault.TheVariants.{BadUrl}
use Rattle.path_normal.specs.declared.schemes.Schemes.{Schemes}
use Rattle.robots_text.specs.Token.{token_of}
use Rattle.robots_text.specs.Words.{is_same_word}
use Rattle.http_front.specs.Credentials.{user_of, user_or_none}
use Rattle.http_front.specs.Fields.{has_field, text_of, value_named}
use Rattle.http_front.specs.Hosts.{is_loopback}
use Rattle.http_front.specs.Targets.{form_of, is_written_so, page_text, rest_of}
use Rattle.http_front.specs.declared.asked.CutRule.{CutRule}
use Rattle.http_front.specs.declared.asked.CutRule.TheVariants as cuts
use Rattle.http_front.specs.declared.asked.TargetForm.{TargetForm}
use Rattle.http_front.specs.declared.asked.TargetForm.TheVariants.{Absolute, Path}
use Rattle.http_front.specs.declared.asked.Misasked.{Misasked}
use Rattle.http_front.specs.declared.asked.Misasked.TheVariants as misasked
use Rattle.http_front.specs.declared.asked.Wish.{Wish}
use Rattle.http_front.specs.declared.asked.Wish.TheVariants as wishes

-- ---- the product token

-- the user of the credentials, if there are any
abbrev pub user_by : Result (Option (List ℕ)) Misasked → Result (List ℕ) Misasked
user_by (Ok (Some credentials)) = user_or_none (user_of credentials)
user_by (Ok None) = Err misasked.NoCredentials
user_by (Err why) = Err why

-- the field's value, if there is one
abbrev pub named_by : Result (Option (List ℕ)) Misasked → Result (List ℕ) Misasked
named_by (Ok (Some value)) = Ok value
named_by (Ok None) = Err misasked.NoToken
named_by (Err why) = Err why

-- what should be a token: in absolute form the user of the proxy's credentials, in path form a field's value
abbrev pub named_in : TargetForm → Entries FieldValue → Result (List ℕ) Misasked
named_in Absolute headers = user_by (value_named (codes "proxy-authorization") headers)
named_in Path headers = named_by (value_named (codes "crawlgate-token") headers)

-- the token, if it is one
abbrev pub token_or_fault : Option (List ℕ) → Result (List ℕ) Misasked
token_or_fault (Some token) = Ok token
token_or_fault None = Err misasked.BadToken

-- the token of what should be one
abbrev pub token_by : Result (List ℕ) Misasked → Result (List ℕ) Misasked
token_by (Ok octets) = token_or_fault (token_of octets)
token_by (Err why) = Err why

-- ---- what comes of a page that is cut

-- the rule of the field's value
abbrev pub cut_by : Result (Option (List ℕ)) Misasked → Result CutRule Misasked
cut_by (Ok (Some value)) = if is_same_word value (codes "pass") then Ok cuts.Pass else Err misasked.BadCut
cut_by (Ok None) = Ok cuts.Refuse
cut_by (Err why) = Err why

-- ---- the page

-- the page, if its authority is written as the gate writes it
abbrev pub page_by : TargetForm → List ℕ → Result (List ℕ) UrlFault → Result (List ℕ) Misasked
page_by form text (Ok url) = if is_written_so url text then Ok url else Err (misasked.Elsewhere form url)
page_by form text (Err fault) = Err (misasked.Url fault)

-- the page that a text names
abbrev pub page_of_text : Schemes → TargetForm → Option (List ℕ) → Result (List ℕ) Misasked
page_of_text schemes form (Some text) = page_by form text (page_url_among schemes None text Enough)
page_of_text schemes form None = Err (misasked.Url BadUrl)

-- the page under the token, or the first fault
abbrev pub asked_by : TargetForm → Result (List ℕ) Misasked → Result CutRule Misasked → Result (List ℕ) Misasked
    → Result Wish Misasked
asked_by form (Ok token) (Ok cut) (Ok url) =
    Ok (wishes.Page (record { form = form; cut = cut; token = token; url = url }))
asked_by form (Ok token) (Ok cut) (Err why) = Err why
asked_by form (Ok token) (Err why) url = Err why
asked_by form (Err why) cut url = Err why

-- the page that is asked for in this form
abbrev pub page_wish : TargetForm → Schemes → Parts → Result Wish Misasked
page_wish form schemes head =
    asked_by form (token_by (named_in form head.headers)) (cut_by (value_named (codes "crawlgate-cut") head.headers))
    (page_of_text schemes form (text_of (page_text head.uri)))

-- ---- the request

-- a browser sends it for a page
abbrev pub is_of_browser : Entries FieldValue → Bool
is_of_browser headers = has_field (codes "origin") headers || has_field (codes "sec-fetch-site") headers

-- the wish of a request to the gate's own host
abbrev pub local_wish : Schemes → Parts → Result Wish Misasked
local_wish schemes head =
    if bytes_eq (rest_of head.uri) (codes "/metrics") then Ok wishes.Metrics
    else (if is_of_browser head.headers then Err misasked.Browser
    else page_wish Path schemes head)

-- the wish of a request in path form, by its host
abbrev pub path_wish : Schemes → Parts → Result (Option (List ℕ)) Misasked → Result Wish Misasked
path_wish schemes head (Ok (Some host)) = if is_loopback host then local_wish schemes head else Err misasked.Host
path_wish schemes head (Ok None) = Err misasked.Host
path_wish schemes head (Err why) = Err why

-- the wish of a request in this form. In absolute form no host counts but the target's
abbrev pub wish_in : TargetForm → Schemes → Parts → Result Wish Misasked
wish_in Absolute schemes head = page_wish Absolute schemes head
wish_in Path schemes head = path_wish schemes head (value_named (codes "host") head.headers)

-- the wish of a request
abbrev pub wish_of : Schemes → Parts → Result Wish Misasked
wish_of schemes head =
    if bytes_eq head.method (codes "GET") then wish_in (form_of head.uri) schemes head
    else Err misasked.Method
