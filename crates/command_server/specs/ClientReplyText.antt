-- The reply to a client's line: docs/FORMATS.md, replies and hops.
-- Cited by `told` and the client's sessions.
use Rattle.std.specs.Prelude.{ℕ, List, [], ◌∷◌, ◌++◌, Result, Ok, Err, codes, decimal, length}
use Rattle.gate_history.specs.declared.outcome.Reason.{Reason}
use Rattle.gate_core.specs.declared.refusal.BeginRefusal.{BeginRefusal}
use Rattle.gate_core.specs.declared.refusal.Denial.{Denial}
use Rattle.gate_core.specs.declared.state.Standing.{Standing}
use Rattle.crawl_job.specs.declared.hop.Refusal.TheVariants as refusals
use Rattle.crawl_job.specs.declared.job.Outcome.{Outcome}
use Rattle.counted_io.specs.Lines.{line_feed}
use Rattle.line_text.specs.Pieces.{line_of}
use Rattle.command_lines.specs.FaultText.{line_fault_text}
use Rattle.command_lines.specs.HopText.{hops_text}
use Rattle.command_server.specs.InfoText.{info_text}
use Rattle.command_lines.specs.RefusalText.{refusal_text}
use Rattle.command_lines.specs.ReplyText.{arrive_text, ask_text, back_text, begin_text, bye_text, denial_text, finish_text, go_text, state_text, url_text}
use Rattle.command_lines.specs.SealText.{seal_text}
use Rattle.command_server.specs.WhyReply.{why_reply_text}
use Rattle.command_server.specs.declared.client_reply.ClientReply.{ClientReply}
use Rattle.command_server.specs.declared.client_reply.ClientReply.TheVariants as replies

-- the reply to START
abbrev pub spent_text : ℕ → Result Reason Denial → List ℕ
spent_text number (Ok reason) = go_text number reason
spent_text number (Err denial) = denial_text denial

-- the reply to REFRESH
abbrev pub refresh_text : List ℕ → Result Standing BeginRefusal → List ℕ
refresh_text authority (Ok standing) = arrive_text authority standing (Ok tt)
refresh_text authority (Err refusal) = begin_text authority (Err refusal)

-- a body's length in octets, the body, and a line end
abbrev pub body_text : List ℕ → List ℕ
body_text octets = line_of (codes "BODY" ∷ decimal (length octets) ∷ []) ++ (octets ++ line_feed ∷ [])

-- the reply to FETCH: a line for each hop, and the body
abbrev pub fetched_text : Outcome → List ℕ
fetched_text outcome = hops_text (codes "HOP") 1 outcome.hops.items ++ body_text outcome.body.items

-- the reply
abbrev pub client_reply_text : ClientReply → List ℕ
client_reply_text (replies.Fault fault) = line_fault_text fault
client_reply_text (replies.Asked result) = ask_text result
client_reply_text (replies.Started number result) = spent_text number result
client_reply_text (replies.Returned number result) = back_text number result
client_reply_text (replies.Finished number result) = finish_text number result
client_reply_text (replies.Known authority state) = state_text authority state
client_reply_text (replies.Sealed result) = seal_text result
client_reply_text (replies.Refreshed authority result) = refresh_text authority result
client_reply_text (replies.Fetched outcome) = fetched_text outcome
client_reply_text (replies.Written url) = url_text url
client_reply_text (replies.Counted info) = info_text info.now.gate info.now.server
client_reply_text (replies.Explained authority result closed_by) = why_reply_text authority result closed_by
client_reply_text replies.NoMemory = refusal_text refusals.NoMemory
client_reply_text replies.Bye = bye_text
