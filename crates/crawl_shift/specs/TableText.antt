-- The lines of a table of hops, as docs/FORMATS.md has them.
-- Used by `hop_row` and `table`.
use Rattle.std.specs.Prelude.{ℕ, Bool, true, false, List, [], ◌++◌, Option, None, Some, codes, decimal}
use Rattle.gate_history.specs.Wording.{reason_words}
use Rattle.http_client.specs.declared.failure.Failure.{Failure}
use Rattle.crawl_job.specs.declared.hop.Hop.{Hop}
use Rattle.crawl_job.specs.declared.hop.Hop.TheVariants as hops
use Rattle.fetchers.specs.declared.closed_by.ClosedBy.{ClosedBy}
use Rattle.fetchers.specs.CauseText.{wire_fault_phrase}
use Rattle.crawl_shift.specs.Causes.{denial_phrase, refusal_phrase, spaced_words, stop_phrase}
use Rattle.crawl_shift.specs.declared.hop_row.HopRow.{HopRow}

-- the separator of columns
abbrev tab : List ℕ
tab = codes "\t"

-- a job's and hop's numbers, with token and page
abbrev pub place_text : ℕ → ℕ → List ℕ → List ℕ → List ℕ
place_text job hop token url =
    decimal job ++ (tab ++ (decimal hop ++ (tab ++ (token ++ (tab ++ (url ++ tab))))))

-- the word for a hop's outcome
abbrev pub outcome_word : Hop → List ℕ
outcome_word (hops.Page number reason status size cut) = codes "PAGE"
outcome_word (hops.No denial) = codes "NO"
outcome_word (hops.Fault number fault) = codes "FAULT"
outcome_word (hops.Err refusal) = codes "ERR"
outcome_word (hops.Stop stop) = codes "STOP"

-- the status of a response, if any
abbrev pub hop_status : Hop → Option ℕ
hop_status (hops.Page number reason status size cut) = Some status
hop_status _ = None

-- the octets taken of its body
abbrev pub octets_of : Hop → Option ℕ
octets_of (hops.Page number reason status size cut) = Some size
octets_of _ = None

-- a number, or nothing
abbrev pub number_text : Option ℕ → List ℕ
number_text (Some number) = decimal number
number_text None = []

-- a hop's outcome, status, octets and milliseconds
abbrev pub outcome_text : Hop → Option ℕ → List ℕ
outcome_text hop milliseconds = outcome_word hop ++ (tab ++
    (number_text (hop_status hop)
    ++ (tab ++ (number_text (octets_of hop) ++ (tab ++ (number_text milliseconds ++ tab))))))

-- whether the body was cut
abbrev pub end_text : Bool → List ℕ
end_text true = codes ", cut"
end_text false = []

-- the cause of a hop's outcome
abbrev pub cause_text : Hop → Option Failure → Option ClosedBy → List ℕ
cause_text (hops.Page number reason status size cut) _ _ = spaced_words (reason_words reason) ++ end_text cut
cause_text (hops.No denial) _ by = denial_phrase denial.cause by
cause_text (hops.Fault number fault) failure _ = wire_fault_phrase fault failure
cause_text (hops.Err refusal) _ _ = refusal_phrase refusal
cause_text (hops.Stop stop) _ _ = stop_phrase stop

-- the line of a hop
abbrev pub row_text : HopRow → List ℕ
row_text row = place_text row.job row.hop row.token.now row.url.now
    ++ (outcome_text row.end.now row.milliseconds ++ (cause_text row.end.now row.failure row.closed_by ++ codes "\n"))

-- the first line, with the names of the columns
abbrev pub columns_text : List ℕ
columns_text = codes "job\thop\ttoken\turl\toutcome\tstatus\toctets\tmilliseconds\tcause\n"
