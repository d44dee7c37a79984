-- Each exit of the loop ends the session.
use Rattle.std.proofs.Common.{◌≡◌, [], refl, inl, inr, arith, rules, Ok, Err}
use Rattle.std.proofs.lemmas.Result.{err_from_is_err_and}
use Rattle.std.proofs.KnownBytes.{Appends-nil, Consumes-nil}
use Rattle.std.specs.Io.KnownBytes.{prepend_known}
use Rattle.command_lines.specs.Input.{FindsLine}
use Rattle.command_lines.specs.declared.session_fault.SessionFault.TheVariants.{LongLine, Lines, NoMemory}
use Rattle.command_lines.proofs.Serving.{finds_none, served_start, served_further, served_line, given_at, lost_at, served_stops, line_stops, line_lost, fails_stops, took_line, took_last}
use Rattle.command_lines.proofs.session.run_session.Goals as goal

pub returns-in_err-buffers-clause-session : goal.returns-in_err-buffers-clause-session
returns-in_err-buffers-clause-session g c =
    let p = err_from_is_err_and c.from_residual.result c.from_residual.ensures.1 in
    let s = served_start (g.A.Answerer.answers c.args.answerer.now (g.W.Sink.failures c.args.writer.now)) c.args.limit c.args.state.now (g.R.Source.left c.args.reader.now) [] (g.W.Sink.written c.args.writer.now) [] refl refl in
    rw (p.1, p.2) (served_stops c.args.most [] _ _ (Err NoMemory) (Err NoMemory) s (omega arith) (refl, finds_none [] _) (inl refl) (Appends-nil _) (omega arith))

pub loop-taken-init : goal.loop-taken-init
loop-taken-init g c = record {
  served = served_start _ _ _ _ _ _ _ c.in_ok-buffers.ensures.reader c.in_ok-buffers.ensures.output;
  reads = refl;
  writes = refl;
}

pub returns-in_err-next-clause-session : goal.returns-in_err-next-clause-session
returns-in_err-next-clause-session g c =
    let p = err_from_is_err_and c.from_residual-in_err-next.result c.from_residual-in_err-next.ensures.1 in
    rw (p.1, p.2) (fails_stops c.args.most _ _ _ _ c.loop-taken.invariant.served (omega arith) c.in_err-next.ensures.fault c.in_err-next.ensures.few.0)

pub returns-in_err-answer-in-Line-clause-session : goal.returns-in_err-answer-in-Line-clause-session
returns-in_err-answer-in-Line-clause-session g c =
    let same : g.W.Sink.failures c.next.new.writer ≡ g.W.Sink.failures c.args.writer.now = search rules in
    let p = err_from_is_err_and c.from_residual-in_err-answer-in-Line.result c.from_residual-in_err-answer-in-Line.ensures.1 in
    let s = served_further c.loop-taken.invariant.served c.in_ok-next.ensures.passed in
    let line = rw c.in-Line.is at c.in_ok-next.ensures.takes in
    rw (p.1, p.2) (line_lost c.args.most _ _ _ s (took_line s.whole line) (omega arith) (lost_at (g.A.Answerer.answers c.args.answerer.now) same c.in_err-answer-in-Line.ensures.err) (finds_none _ _) c.in_ok-next.ensures.few.1)

pub returns-in-Ends-clause-session : goal.returns-in-Ends-clause-session
returns-in-Ends-clause-session g c =
    let s = served_further c.loop-taken.invariant.served c.in_ok-next.ensures.passed in
    let line = rw c.in-Line.is at c.in_ok-next.ensures.takes in
    let same : g.W.Sink.failures c.next.new.writer ≡ g.W.Sink.failures c.args.writer.now = search rules in
    let replies = given_at (g.A.Answerer.answers c.args.answerer.now) same (rw c.in-Ends.is at c.in_ok-answer-in-Line.ensures.ok) in
    line_stops c.args.most _ _ _ _ _ (Ok tt) _ s (took_line s.whole line) (omega arith) replies
    (record { kept = Consumes-nil _; none = inl refl }) c.close.ensures.results c.close.ensures.wrote c.close.ensures.few

pub returns-in_err-answer-in-Last-clause-session : goal.returns-in_err-answer-in-Last-clause-session
returns-in_err-answer-in-Last-clause-session g c =
    let same : g.W.Sink.failures c.next.new.writer ≡ g.W.Sink.failures c.args.writer.now = search rules in
    let p = err_from_is_err_and c.from_residual-in_err-answer-in-Last.result c.from_residual-in_err-answer-in-Last.ensures.1 in
    let s = served_further c.loop-taken.invariant.served c.in_ok-next.ensures.passed in
    let last = rw c.in-Last.is at c.in_ok-next.ensures.takes in
    rw (p.1, p.2) (line_lost c.args.most _ _ _ s (took_last s.whole last) (omega arith) (lost_at (g.A.Answerer.answers c.args.answerer.now) same c.in_err-answer-in-Last.ensures.err) (finds_none _ _) c.in_ok-next.ensures.few.1)

pub returns-in-Last-clause-session : goal.returns-in-Last-clause-session
returns-in-Last-clause-session g c =
    let same : g.W.Sink.failures c.next.new.writer ≡ g.W.Sink.failures c.args.writer.now = search rules in
    let s = served_further c.loop-taken.invariant.served c.in_ok-next.ensures.passed in
    let last = rw c.in-Last.is at c.in_ok-next.ensures.takes in
    line_stops c.args.most _ _ _ _ _ (Ok tt) _ s (took_last s.whole last) (omega arith) (given_at (g.A.Answerer.answers c.args.answerer.now) same c.in_ok-answer-in-Last.ensures.ok)
    (record { kept = Consumes-nil _; none = inr last.drained }) c.close-in-Last.ensures.results c.close-in-Last.ensures.wrote c.close-in-Last.ensures.few

pub returns-in-End-clause-session : goal.returns-in-End-clause-session
returns-in-End-clause-session g c =
    let s = served_further c.loop-taken.invariant.served c.in_ok-next.ensures.passed in
    let end = rw c.in-End.is at c.in_ok-next.ensures.takes in
    served_stops c.args.most _ _ _ (Ok tt) _ s (omega arith) (record { kept = end.kept; none = inr end.drained }) c.close-in-End.ensures.results c.close-in-End.ensures.wrote c.close-in-End.ensures.few

pub returns-in-TooLong-clause-session : goal.returns-in-TooLong-clause-session
returns-in-TooLong-clause-session g c =
    let s = served_further c.loop-taken.invariant.served c.in_ok-next.ensures.passed in
    let long = rw c.in-TooLong.is at c.in_ok-next.ensures.takes in
    served_stops c.args.most _ _ _ (Err LongLine) _ s (omega arith) (refl, long) c.close-in-TooLong.ensures.results c.close-in-TooLong.ensures.wrote c.close-in-TooLong.ensures.few

pub loop-taken-preserved : goal.loop-taken-preserved
loop-taken-preserved g c =
    let s = served_further c.loop-taken.invariant.served c.in_ok-next.ensures.passed in
    let line = rw c.in-Line.is at c.in_ok-next.ensures.takes in
    let same : g.W.Sink.failures c.next.new.writer ≡ g.W.Sink.failures c.args.writer.now = search rules in
    let replies = given_at (g.A.Answerer.answers c.args.answerer.now) same (rw c.in-Goes.is at c.in_ok-answer-in-Line.ensures.ok) in
    record {
      served = rw c.answer.ensures.reader (served_line _ s line replies);
      reads = search rules;
      writes = search rules;
    }

pub returns-in_err-next-2-clause-session : goal.returns-in_err-next-2-clause-session
returns-in_err-next-2-clause-session g c =
    let p = err_from_is_err_and c.from_residual-in_err-next-2.result c.from_residual-in_err-next-2.ensures.1 in
    rw (p.1, p.2) (fails_stops c.args.most _ _ _ _ c.loop-taken.invariant.served (omega arith) c.in_err-next-2.ensures.fault c.in_err-next-2.ensures.few.0)

pub returns-in-End-2-clause-session : goal.returns-in-End-2-clause-session
returns-in-End-2-clause-session g c =
    let s = served_further c.loop-taken.invariant.served c.in_ok-next-2.ensures.passed in
    let end = rw c.in-End-2.is at c.in_ok-next-2.ensures.takes in
    served_stops c.args.most _ _ _ (Ok tt) _ s (omega arith) (record { kept = end.kept; none = inr end.drained }) c.close-in-End-2.ensures.results c.close-in-End-2.ensures.wrote c.close-in-End-2.ensures.few

pub returns-in-TooLong-2-clause-session : goal.returns-in-TooLong-2-clause-session
returns-in-TooLong-2-clause-session g c =
    let s = served_further c.loop-taken.invariant.served c.in_ok-next-2.ensures.passed in
    let long = rw c.in-TooLong-2.is at c.in_ok-next-2.ensures.takes in
    served_stops c.args.most _ _ _ (Err LongLine) _ s (omega arith) (refl, long) c.close-in-TooLong-2.ensures.results c.close-in-TooLong-2.ensures.wrote c.close-in-TooLong-2.ensures.few

pub returns-clause-session : goal.returns-clause-session
returns-clause-session g c =
    let s = served_further c.loop-taken.invariant.served c.in_ok-next-2.ensures.passed in
    let takes = c.in_ok-next-2.ensures.takes in
    let further : FindsLine c.args.limit (prepend_known c.loop-taken.buffers.reader (g.R.Source.left c.loop-taken.reader)) c.next-2.new.self.reader (g.R.Source.left c.next-2.new.reader) =
    elim c.in-Line-2.is [
      | inl line ↦ record { line = c.next-2.new.self.line.items; taken = inl (rw line at takes) }
      | inr last ↦ record { line = c.next-2.new.self.line.items; taken = inr (rw last at takes) }
    ]
    in
    served_stops c.args.most _ _ _ (Err Lines) _ s (omega arith) (refl, omega arith, further) c.close-in-Line-2.ensures.results c.close-in-Line-2.ensures.wrote c.close-in-Line-2.ensures.few
