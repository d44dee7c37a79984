-- The calls so far have their replies, and the rest have their room.
use Rattle.std.proofs.Common.{◌+◌, ◌≤◌, vec_len, vec_capacity}
use Rattle.gate_core.specs.Calls.{Replies}
use Rattle.gate_core.proofs.calls.run.Given as goal

abbrev pub invariant-loop-call : goal.invariant-loop-call
invariant-loop-call l =
    Replies l.fn.book l.yielded l.replies.items l.book
    × (vec_len l.replies + goal.iterator-loop-call.remaining l.call-iterator ≤ vec_capacity l.replies)
