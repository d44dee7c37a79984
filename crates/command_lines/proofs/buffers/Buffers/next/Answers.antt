-- A write fault before the read takes nothing; one after it takes a part of a line.
use Rattle.std.proofs.Common.{◌≡◌, [], refl, inl, inr}
use Rattle.std.specs.Prelude.{◌⊎◌}
use Rattle.std.specs.Io.KnownBytes.{Appends}
use Rattle.std.proofs.lemmas.Result.{err_from_is_err_and}
use Rattle.command_lines.proofs.Serving.{finds_none, still_cut}
use Rattle.command_lines.proofs.buffers.Buffers.next.Goals as goal
use Rattle.command_lines.proofs.buffers.Buffers.next.Goals.{then-not-is_empty+then-not-has_line+in_ok-flush, else-not-is_empty}

pub returns-in_err-flush-clause-fault : goal.returns-in_err-flush-clause-fault
returns-in_err-flush-clause-fault g c =
    let p = err_from_is_err_and c.from_residual.result c.from_residual.ensures.1 in
    rw (p.1, p.2) (finds_none _ _, c.in_err-flush.ensures.err)

pub returns-in_err-flush-in-Err-NoMemory-clause-fault :
    goal.returns-in_err-flush-in-Err-NoMemory-clause-fault
returns-in_err-flush-in-Err-NoMemory-clause-fault g c =
    let p = err_from_is_err_and c.from_residual-in_err-flush-in-Err-NoMemory.result c.from_residual-in_err-flush-in-Err-NoMemory.ensures.1 in
    let taken = c.in-Err-NoMemory.ensures.fault in
    let cut = c.in_err-flush-in-Err-NoMemory.ensures.err in
    let reader : c.if-not-is_empty.self.reader ≡ c.args.self.now.reader =
    elim c.if-not-is_empty.branch [ then-not-is_empty+then-not-has_line+in_ok-flush w ↦ rw w.self-is refl | else-not-is_empty w ↦ rw w.self-is refl ]
    in
    let flushed : (Appends (g.W.Sink.written c.args.writer.now) (g.W.Sink.written c.if-not-is_empty.writer) c.args.self.now.output × (c.if-not-is_empty.self.output ≡ []))
    ⊎ ((g.W.Sink.written c.if-not-is_empty.writer ≡ g.W.Sink.written c.args.writer.now) × (c.if-not-is_empty.self.output ≡ c.args.self.now.output)) =
    elim c.if-not-is_empty.branch [
      | then-not-is_empty+then-not-has_line+in_ok-flush w ↦ inl (rw w.writer-is w.in_ok-flush.ensures.ok, rw w.self-is w.flush.ensures.empty)
      | else-not-is_empty w ↦ inr (rw w.writer-is refl, rw w.self-is refl)
    ]
    in
    rw (p.1, p.2) (record { part = c.next_line.new.line.items; taken = rw reader at taken }, still_cut _ _ _ _ _ flushed cut)
