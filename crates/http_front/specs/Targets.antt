-- The page that a request's target names.
-- RFC 9112, sections 3.2.1 and 3.2.2.
use Rattle.std.specs.Prelude.{ℕ, ◌+◌, ◌==◌, min, Bool, true, ◌&&◌, ◌||◌, List, [], ◌∷◌, ◌++◌, take, drop, length, bytes_eq, codes, Option, Some, None, unwrap_or, if◌then◌else◌}
use Rattle.http_uri.specs.declared.uri.Uri.{Uri}
use Rattle.http_uri.specs.Grammar.{or_slash}
use Rattle.http_uri.specs.Uri.{uri_authority, uri_path_and_query, uri_scheme}
use Rattle.path_normal.specs.PageText.{host_of, host_start}
use Rattle.http_uri.specs.ByteClasses.{question_mark, slash}
use Rattle.http_front.specs.declared.asked.TargetForm.{TargetForm}
use Rattle.http_front.specs.declared.asked.TargetForm.TheVariants.{Absolute, Path}

-- the form of a target with this scheme, or without one
abbrev pub form_by : Option (List ℕ) → TargetForm
form_by (Some scheme) = Absolute
form_by None = Path

-- the form of the target
abbrev pub form_of : Uri → TargetForm
form_of uri = form_by (uri_scheme uri)

-- the path and the query, `/` for an empty one
abbrev pub rest_by : Option (List ℕ) → List ℕ
rest_by (Some text) = or_slash text
rest_by None = []

-- the path and the query of the target
abbrev pub rest_of : Uri → List ℕ
rest_of uri = rest_by (uri_path_and_query uri)

-- what follows a first slash
abbrev pub behind_slash : List ℕ → List ℕ
behind_slash [] = []
behind_slash (octet ∷ behind) = if octet == slash then behind else []

-- the text of an absolute target
abbrev pub whole_text : List ℕ → List ℕ → List ℕ → List ℕ
whole_text scheme authority rest = scheme ++ codes "://" ++ authority ++ rest

-- the page's URL: an absolute target whole, or what follows the first slash of another
abbrev pub page_text_by : Option (List ℕ) → List ℕ → List ℕ → List ℕ
page_text_by (Some scheme) authority rest = whole_text scheme authority rest
page_text_by None authority rest = behind_slash rest

-- the text of the page's URL
abbrev pub page_text : Uri → List ℕ
page_text uri = page_text_by (uri_scheme uri) (unwrap_or (uri_authority uri) []) (rest_of uri)

-- where a page's URL ends its host and port
abbrev pub site_end : List ℕ → ℕ
site_end page = host_start page + length (host_of page)

-- the octets up to there, or all of a shorter text
abbrev pub up_to : ℕ → List ℕ → List ℕ
up_to end text = take (min end (length text)) text

-- no octet of an authority comes next
abbrev pub ends_site : List ℕ → Bool
ends_site [] = true
ends_site (octet ∷ octets) = octet == slash || octet == question_mark

-- the text has the scheme and the authority of its page as the page's URL has them
abbrev pub is_written_so : List ℕ → List ℕ → Bool
is_written_so page text =
    bytes_eq (up_to (site_end page) text) (up_to (site_end page) page)
    && ends_site (drop (min (site_end page) (length text)) text)
