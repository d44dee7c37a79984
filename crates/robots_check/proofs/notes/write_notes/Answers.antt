-- What passed to the output is written, or cut there.
use Rattle.std.proofs.Common.{◌++◌, ◌∙◌, ℕ, List, Option, ap, inl, inr, subst, sym}
use Rattle.std.specs.Io.KnownBytes.{Appends}
use Rattle.std.proofs.KnownBytes.{Appends-trans}
use Rattle.counted_io.specs.Device.{AppendsPrefix, one_more}
use Rattle.counted_io.specs.Output.{Passes}
use Rattle.counted_io.proofs.CallerLemmas.{Passes-cut-all}
use Rattle.robots_text.specs.Records.{numbered_records}
use Rattle.robots_check.specs.Notes.{notes_of}
use Rattle.robots_check.proofs.notes.write_notes.Goals as goal

all_written : (a b c : Option (List ℕ)) (text pending : List ℕ) → Passes a b text pending → Appends b c pending → Appends a c text
all_written a b c text pending p wrote = subst (Appends a c) (sym p.split) (Appends-trans a b c p.front pending p.wrote wrote)

pub returns-in_err-push_notes : goal.returns-in_err-push_notes
returns-in_err-push_notes g c = inr (
  c.in_err-push_notes.ensures.count,
  subst (λ l. AppendsPrefix (g.E.Sink.written c.args.errors.now) (g.E.Sink.written c.push_notes.new.errors) (l ++ notes_of c.args.count (numbered_records c.args.said.now.text.now)))
      c.requires c.in_err-push_notes.ensures.err,
)

pub returns-in_err-flush : goal.returns-in_err-flush
returns-in_err-flush g c = inr (
  c.in_err-flush.ensures.count ∙ ap one_more c.in_ok-push_notes.ensures.count,
  subst (λ l. AppendsPrefix (g.E.Sink.written c.args.errors.now) (g.E.Sink.written c.flush.new.sink) (l ++ notes_of c.args.count (numbered_records c.args.said.now.text.now)))
      c.requires (Passes-cut-all _ _ _ _ _ c.in_ok-push_notes.ensures.ok c.in_err-flush.ensures.err),
)

pub returns : goal.returns
returns g c = inl (
  c.in_ok-flush.ensures.count ∙ c.in_ok-push_notes.ensures.count,
  subst (λ l. Appends (g.E.Sink.written c.args.errors.now) (g.E.Sink.written c.flush.new.sink) (l ++ notes_of c.args.count (numbered_records c.args.said.now.text.now)))
      c.requires (all_written _ _ _ _ _ c.in_ok-push_notes.ensures.ok c.in_ok-flush.ensures.ok),
)
