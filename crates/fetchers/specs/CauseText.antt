-- The words for why a fetch failed and what closed a site, as docs/FORMATS.md has them.
-- Used by `cause_words`, and by all that reports causes.
use Rattle.std.specs.Prelude.{ℕ, ◌/◌, List, ◌++◌, Option, None, Some, codes, decimal}
use Rattle.std.specs.Duration.{as_nanos}
use Rattle.std.specs.declared.time.Duration.{Duration}
use Rattle.http_wire.specs.declared.fault.WireFault.{WireFault}
use Rattle.http_wire.specs.declared.fault.WireFault.TheVariants as wire
use Rattle.http_client.specs.declared.failure.Failure.{Failure}
use Rattle.http_client.specs.declared.failure.Failure.TheVariants as failures
use Rattle.line_text.specs.Pieces.{piece_text}
use Rattle.fetchers.specs.declared.cause_words.CauseWords.{CauseWords}
use Rattle.fetchers.specs.declared.closed_by.ClosedBy.{ClosedBy}
use Rattle.fetchers.specs.declared.closed_by.ClosedBy.TheVariants as closings

-- an exceeded time limit, in whole seconds
abbrev pub past_text : List ℕ → Duration → List ℕ
past_text word limit = word ++ (decimal (as_nanos limit / 1_000_000_000) ++ codes " s")

-- why a device failed
abbrev pub failure_text : Failure → List ℕ
failure_text failures.NoName = codes "no such name"
failure_text failures.Refused = codes "refused"
failure_text failures.Unreachable = codes "unreachable"
failure_text failures.Reset = codes "reset"
failure_text (failures.NotConnected limit) = past_text (codes "no connection ") limit
failure_text (failures.Silent limit) = past_text (codes "silent ") limit
failure_text (failures.TooLong limit) = past_text (codes "unfinished ") limit
failure_text failures.NoTls = codes "no TLS connection"
failure_text failures.NoTlsProgram = codes "no TLS program"
failure_text failures.Stopped = codes "stopped"
failure_text failures.Other = codes "network"

-- why a response ended early; over TLS there may have been no connection
abbrev pub early_end_phrase : Option Failure → List ℕ
early_end_phrase (Some failures.NoTls) = codes "no TLS connection"
early_end_phrase _ = codes "ended early"

-- why a fetch failed
abbrev pub wire_fault_phrase : WireFault → Option Failure → List ℕ
wire_fault_phrase wire.Device (Some failure) = failure_text failure
wire_fault_phrase wire.Device None = codes "network"
wire_fault_phrase wire.EarlyEnd failure = early_end_phrase failure
wire_fault_phrase wire.BadHead _ = codes "bad head"
wire_fault_phrase wire.HeadTooLong _ = codes "head too long"
wire_fault_phrase wire.TooManyInterim _ = codes "too many interim heads"
wire_fault_phrase wire.BadLength _ = codes "bad length"
wire_fault_phrase wire.BadChunk _ = codes "bad chunk"
wire_fault_phrase wire.Coding _ = codes "coded"
wire_fault_phrase wire.NoMemory _ = codes "no memory"
wire_fault_phrase wire.TooMuch _ = codes "too much"

-- what closed a site
abbrev pub closing_phrase : ClosedBy → List ℕ
closing_phrase (closings.Status status) = decimal status
closing_phrase closings.BadRedirect = codes "redirect to no page"
closing_phrase closings.Https = codes "redirect to https"
closing_phrase closings.OtherScheme = codes "redirect to another scheme"
closing_phrase (closings.Fault fault failure) = wire_fault_phrase fault failure
closing_phrase closings.NoMemory = codes "no memory"

-- the text of a cause in parts
abbrev pub words_text : CauseWords → List ℕ
words_text words = words.of.now ++ (words.text.now ++ (piece_text words.number ++ words.unit.now))
