-- Worked examples: short histories of one site, with replies.
-- The contracts of `rows.rt`.
use Rattle.std.specs.Prelude.{ℕ, List, [], ◌∷◌, codes}
use Rattle.permit_book.specs.declared.refusal.NotOut.{NotOut}
use Rattle.authority_cache.specs.Lives.{Timed}
use Rattle.gate_history.specs.declared.entry.Entry.{Entry}
use Rattle.gate_history.specs.declared.entry.Entry.TheVariants.{Begun, Arrived, Granted, Started, StartDenied, Returned, Finished}
use Rattle.gate_history.specs.declared.outcome.Cause.{Cause}
use Rattle.gate_history.specs.declared.outcome.Cause.TheVariants as causes
use Rattle.gate_history.specs.declared.outcome.Reason.TheVariants as reasons
use Rattle.gate_history.specs.Base.{empty_base}
use Rattle.gate_history.specs.Rows.{foobot, no_file, page, site}
use Rattle.gate_core.specs.declared.refusal.Denial.{Denial}
use Rattle.gate_core.specs.declared.refusal.Started.{Started as Start}
use Rattle.gate_core.specs.Gate.{Gate}
use Rattle.gate_core.specs.Limits.{usual_limits}

-- a book with these slots, first generation and entries
abbrev pub book : ℕ → ℕ → List Entry → Gate
book slots first entries = record {
  limits =
      record { slots = slots; first_generation = first; log_limit = 1000000; authority_limit = 65536; places = 65536 };
  base = empty_base;
  entries = entries;
}

-- a book with default limits and these entries
abbrev pub usual : List Entry → Gate
usual entries = record { limits = usual_limits; base = empty_base; entries = entries }

-- a book that allows one outstanding permit for an authority
abbrev pub one_place : List Entry → Gate
one_place entries = record {
  limits = record { slots = 1024; first_generation = 1; log_limit = 1000000; authority_limit = 65536; places = 1 };
  base = empty_base;
  entries = entries;
}

-- another page of the site
abbrev pub other_page : List ℕ
other_page = codes "http://a.example/y"

-- another crawler
abbrev pub barbot : List ℕ
barbot = codes "barbot"

-- the missing file's answer with its life
abbrev pub no_file_brought : Timed
no_file_brought = record { says = no_file; spares = 2; life = 86400 }

-- the site's first turn has begun
abbrev pub begun : List Entry
begun = Begun 100 site 1 ∷ []

-- the site has no robots.txt
abbrev pub open_site : List Entry
open_site = Begun 100 site 1 ∷ Arrived 86400 105 site 1 no_file ∷ []

-- a permit for the page is granted at this moment
abbrev pub grant : ℕ → ℕ → List ℕ → Entry
grant moment number url = Granted moment number (record { token = foobot; url = url })

-- a permit was granted
abbrev pub granted : List Entry
granted = Begun 100 site 1 ∷ Arrived 86400 105 site 1 no_file ∷ grant 110 65536 page ∷ []

-- its fetch was started at this moment
abbrev pub started_at : ℕ → List Entry
started_at moment =
    Begun 100 site 1 ∷ Arrived 86400 105 site 1 no_file ∷ grant 110 65536 page ∷ Started moment 65536 reasons.Open ∷ []

-- the reply to a start of this permit
abbrev pub go : ℕ → List ℕ → Start
go number url = record { number = number; url = url; reason = reasons.Open }

-- a denial of this URL
abbrev pub no : List ℕ → Cause → Denial
no url cause = record { url = url; cause = cause }

-- two permits were granted
abbrev pub two_granted : List Entry
two_granted =
    Begun 100 site 1 ∷ Arrived 86400 105 site 1 no_file ∷ grant 110 65536 page ∷ grant 111 65537 other_page ∷ []

-- the second permit's start came too late
abbrev pub one_expired : List Entry
one_expired =
    Begun 100 site 1 ∷ Arrived 86400 105 site 1 no_file ∷ grant 110 65536 page ∷ grant 111 65537 other_page
    ∷ StartDenied 86501 65537 causes.Expired ∷ []

-- the fetch was started and ended
abbrev pub finished : List Entry
finished =
    Begun 100 site 1 ∷ Arrived 86400 105 site 1 no_file ∷ grant 110 65536 page ∷ Started 112 65536 reasons.Open
    ∷ Finished 65536 ∷ []

-- the number has no permit
abbrev pub not_out : NotOut
not_out = record {}

-- the number of the last generation of slot 0
abbrev pub last_number : ℕ
last_number = 18446744073709486080

-- the permit of the last generation was granted and given back
abbrev pub last_returned : List Entry
last_returned =
    Begun 100 site 1 ∷ Arrived 86400 105 site 1 no_file ∷ grant 110 last_number page ∷ Returned last_number ∷ []
