-- What was read is written and noted; without memory for notes, nothing is written.
use Rattle.std.proofs.Common.{◌≡◌, ◌∙◌, Option, Result, Ok, Err, sym, subst, ℕ, List}
use Rattle.std.specs.Prelude.{IfOk}
use Rattle.std.proofs.KnownBytes.{Appends-nil}
use Rattle.std.proofs.lemmas.Result.{err_from_is_err_and}
use Rattle.robots_check.specs.Notes.{IsNoted, NotesText, notes_text}
use Rattle.robots_check.specs.Checks.{ReadsBody}
use Rattle.robots_check.proofs.CallerLemmas.{as_front, prints_of, reads_none}
use Rattle.program_commands.proofs.records.lines_noted.Goals as goal

if_ok : {T E P : Type 0} (r : Result T E) → P → IfOk r (λ _. P)
if_ok (Ok _) fact = fact
if_ok (Err _) fact = tt

notes_read : (a b : Option (List ℕ)) (body slice : List ℕ) (written new : Option (List ℕ)) (failures after : ℕ) →
    ReadsBody a b body → slice ≡ body → IsNoted (notes_text slice) written new failures after → NotesText a b written new failures after
notes_read a b body slice written new failures after reads same noted = record {
  body = body;
  reads = reads.reads;
  noted = subst (λ (l : List ℕ). IsNoted (notes_text l) written new failures after) same noted;
}

pub returns-in_err-note_body-clause-prints : goal.returns-in_err-note_body-clause-prints
returns-in_err-note_body-clause-prints g c =
    let p = err_from_is_err_and c.from_residual-in_err-note_body.result c.from_residual-in_err-note_body.ensures.1 in
    rw (p.1, p.2) (as_front _ _ _ c.in_ok-body.ensures.body, Appends-nil _)

pub returns-clause-prints : goal.returns-clause-prints
returns-clause-prints g c =
    prints_of _ _ c.in_ok-body.body.items _ _ _ c.lines_of.result c.in_ok-body.ensures.body c.as_slice-2.ensures.value c.lines_of.ensures.lines

pub returns-clause-reads : goal.returns-clause-reads
returns-clause-reads g c =
    c.in_ok-body.ensures.reads ∙ sym (reads_none (g.R.Source.failures c.args.reader.now) c.as_slice-2.result.now (g.W.Sink.written c.args.writer.now) (g.W.Sink.written c.lines_of.new.writer) c.lines_of.result c.lines_of.ensures.lines)

pub returns-clause-notes : goal.returns-clause-notes
returns-clause-notes g c =
    if_ok c.lines_of.result
    (notes_read _ _ c.in_ok-body.body.items c.as_slice.result.now (g.E.Sink.written c.args.errors.now) (g.E.Sink.written c.note_body.new.errors)
    (g.E.Sink.failures c.args.errors.now) (g.E.Sink.failures c.note_body.new.errors) c.in_ok-body.ensures.body c.as_slice.ensures.value c.in_ok-note_body.ensures)
