-- The line of a hop, as docs/FORMATS.md has it.
-- Cited by `hop_text`.
use Rattle.std.specs.Prelude.{ℕ, ◌+◌, Bool, true, false, List, [], ◌∷◌, ◌++◌, codes, decimal}
use Rattle.gate_history.specs.declared.outcome.Reason.{Reason}
use Rattle.gate_history.specs.Wording.{reason_words}
use Rattle.http_wire.specs.declared.fault.WireFault.{WireFault}
use Rattle.http_wire.specs.declared.fault.WireFault.TheVariants as wire
use Rattle.robots_fetch.specs.declared.redirect.Stop.{Stop}
use Rattle.robots_fetch.specs.declared.redirect.Stop.TheVariants as stops
use Rattle.crawl_job.specs.declared.hop.Hop.{Hop}
use Rattle.crawl_job.specs.declared.hop.Hop.TheVariants as hops
use Rattle.line_text.specs.Pieces.{line_of}
use Rattle.command_lines.specs.RefusalText.{refusal_text}
use Rattle.command_lines.specs.ReplyText.{denial_text}

-- whether the body has more octets
abbrev pub end_word : Bool → List ℕ
end_word true = codes "cut"
end_word false = codes "whole"

-- a fetched page: why allowed, its status, and its body's length
abbrev pub page_text : Reason → ℕ → ℕ → Bool → List ℕ
page_text reason status size cut =
    line_of (codes "PAGE" ∷ (reason_words reason ++ (decimal status ∷ decimal size ∷ end_word cut ∷ [])))

-- a fault's number in docs/FORMATS.md
abbrev pub fault_word : WireFault → List ℕ
fault_word wire.EarlyEnd = codes "H1"
fault_word wire.BadHead = codes "H2"
fault_word wire.HeadTooLong = codes "H3"
fault_word wire.TooManyInterim = codes "H4"
fault_word wire.BadLength = codes "H5"
fault_word wire.BadChunk = codes "H6"
fault_word wire.Coding = codes "H7"
fault_word wire.Device = codes "H8"
fault_word wire.NoMemory = codes "H9"
fault_word wire.TooMuch = codes "H10"

-- a fetch that failed
abbrev pub fault_hop_text : WireFault → List ℕ
fault_hop_text fault = line_of (codes "FAULT" ∷ fault_word fault ∷ [])

-- why a redirect is not followed
abbrev pub stop_word : Stop → List ℕ
stop_word stops.TooManyRedirects = codes "toomany"
stop_word stops.BadRedirect = codes "redirect"
stop_word stops.Scheme = codes "scheme"

-- a redirect that is not followed
abbrev pub stop_text : Stop → List ℕ
stop_text stop = line_of (codes "STOP" ∷ stop_word stop ∷ [])

-- the line of a hop
abbrev pub hop_text : Hop → List ℕ
hop_text (hops.Page number reason status size cut) = page_text reason status size cut
hop_text (hops.No denial) = denial_text denial
hop_text (hops.Fault number fault) = fault_hop_text fault
hop_text (hops.Err refusal) = refusal_text refusal
hop_text (hops.Stop stop) = stop_text stop

-- the lead of a hop's line, and the hop's number, each with a space after it
abbrev pub lead_text : List ℕ → ℕ → List ℕ
lead_text lead number = lead ++ (codes " " ++ (decimal number ++ codes " "))

-- a line for each hop, numbered from here on
abbrev pub hops_text : List ℕ → ℕ → List Hop → List ℕ
hops_text lead number [] = []
hops_text lead number (hop ∷ hops) = (lead_text lead number ++ hop_text hop) ++ hops_text lead (number + 1) hops
