-- The first fields are covered.
use Rattle.std.proofs.Common.{◌≡◌, length, map, take}
use Rattle.httparse.specs.Spans.{header_bytes}
use Rattle.http_wire.specs.Left.{pairs}
use Rattle.http_wire.proofs.fields.cover.Given as goal

abbrev pub invariant-loop-i : goal.invariant-loop-i
invariant-loop-i l =
    (pairs (take l.i l.fields) ≡ map (header_bytes l.head) (take l.i l.spans)) × (length l.fields ≡ length l.fn.fields)
