-- The text of a body passes to the output, and is written or cut there.
use Rattle.std.proofs.Common.{◌≡◌, ℕ, List, [], ◌++◌, Option, flat_map, sym, subst, ap, ◌∙◌}
use Rattle.std.specs.Io.KnownBytes.{Appends}
use Rattle.std.proofs.KnownBytes.{Appends-nil, Appends-trans}
use Rattle.std.proofs.lemmas.Result.{err_from_is_err_and}
use Rattle.counted_io.specs.Device.{AppendsPrefix}
use Rattle.counted_io.specs.Output.{Passes}
use Rattle.counted_io.proofs.CallerLemmas.{Passes-cut-all}
use Rattle.robots_text.specs.Lines.{kept}
use Rattle.robots_text.specs.Records.{Numbered, numbered_records}
use Rattle.robots_check.specs.LinesText.{numbered_text, lines_text}
use Rattle.robots_check.proofs.writing.lines_of.Goals as goal

pushed_text : (pending text body : List ℕ) (records : List Numbered) → pending ≡ [] → records ≡ numbered_records text → text ≡ kept body →
    pending ++ flat_map numbered_text records ≡ lines_text body
pushed_text pending text body records none are text_is =
    ap (λ l. l ++ flat_map numbered_text records) none
    ∙ ap (flat_map numbered_text) (are ∙ ap numbered_records text_is)

all_written : (a b c : Option (List ℕ)) (text pending : List ℕ) → Passes a b text pending → Appends b c pending → Appends a c text
all_written a b c text pending p wrote = subst (Appends a c) (sym p.split) (Appends-trans a b c p.front pending p.wrote wrote)

pub returns-in_err-output-clause-lines : goal.returns-in_err-output-clause-lines
returns-in_err-output-clause-lines g c =
    let p = err_from_is_err_and c.from_residual-in_err-output.result c.from_residual-in_err-output.ensures.1 in
    rw (p.1, p.2) (Appends-nil _)

pub returns-in_err-flush-clause-lines : goal.returns-in_err-flush-clause-lines
returns-in_err-flush-clause-lines g c =
    let p = err_from_is_err_and c.from_residual-in_err-flush.result c.from_residual-in_err-flush.ensures.1 in
    let text = pushed_text _ _ c.args.body.now _ c.in_ok-output.ensures.empty c.records.ensures.records c.in_ok-text.ensures.kept in
    rw (p.1, p.2)
    (subst (λ l. AppendsPrefix (g.W.Sink.written c.args.writer.now) (g.W.Sink.written c.flush.new.sink) l) text
    (Passes-cut-all _ _ _ _ _ c.in_ok-push_records.ensures.ok c.in_err-flush.ensures.err))

pub returns-clause-lines : goal.returns-clause-lines
returns-clause-lines g c =
    let text = pushed_text _ _ c.args.body.now _ c.in_ok-output.ensures.empty c.records.ensures.records c.in_ok-text.ensures.kept in
    subst (λ l. Appends (g.W.Sink.written c.args.writer.now) (g.W.Sink.written c.flush.new.sink) l) text
    (all_written _ _ _ _ _ c.in_ok-push_records.ensures.ok c.in_ok-flush.ensures.ok)
