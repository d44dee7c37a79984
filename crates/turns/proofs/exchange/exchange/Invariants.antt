-- So far, what was read was heard, and what was written was pending.
use Rattle.std.proofs.Common.{◌<◌, ℕ, List, length}
use Rattle.std.specs.Io.KnownBytes.{Appends, Consumes}
use Rattle.turns.specs.Exchanges.{Sends}
use Rattle.turns.proofs.exchange.exchange.Given as goal

abbrev pub invariant-loop : goal.invariant-loop
invariant-loop g l =
    ((more : List ℕ) × Consumes (g.R.Read.remaining l.fn.reader) (g.R.Read.remaining l.reader) more
    × Appends (g.C.Conversation.heard l.fn.talk) (g.C.Conversation.heard l.talk) more)
    × ((more : List ℕ) × Appends (g.O.Write.contents l.fn.writer) (g.O.Write.contents l.writer) more
    × Sends (g.C.Conversation.pending l.fn.talk) more (g.C.Conversation.pending l.talk))
    × (0 < length l.buffer)
