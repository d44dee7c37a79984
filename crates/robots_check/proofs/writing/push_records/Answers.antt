-- A prefix of the lines is a prefix of the text.
use Rattle.std.proofs.Common.{◌≡◌, ℕ, List, ◌∷◌, ◌++◌, Option, flat_map, append_assoc, sym, subst, ap, ◌∙◌}
use Rattle.counted_io.specs.Device.{AppendsPrefix, one_more}
use Rattle.counted_io.specs.Output.{Passes}
use Rattle.counted_io.proofs.CallerLemmas.{Passes-cut-piece, Passes-pieces, prefix_piece}
use Rattle.robots_text.specs.Records.{Numbered, line_seen}
use Rattle.line_text.proofs.CallerLemmas.{pushes_cut}
use Rattle.robots_check.specs.LinesText.{numbered_text}
use Rattle.robots_check.proofs.writing.push_records.Goals as goal

next_text : (all left rest : List Numbered) (item : Numbered) (done : List ℕ) → flat_map numbered_text all ≡ done ++ flat_map numbered_text left → left ≡ item ∷ rest →
    flat_map numbered_text all ≡ (done ++ numbered_text item) ++ flat_map numbered_text rest
next_text all left rest item done so_far step =
    so_far ∙ ap (λ l. done ++ flat_map numbered_text l) step ∙ sym (append_assoc done (numbered_text item) (flat_map numbered_text rest))

one_passes : (a b c : Option (List ℕ)) (first done pending left text line : List ℕ) → text ≡ line → Passes a b (first ++ done) pending → Passes b c (pending ++ text) left → Passes a c (first ++ (done ++ line)) left
one_passes a b c first done pending left text line same before this =
    subst (λ l. Passes a c (first ++ (done ++ l)) left) same (Passes-pieces a b c first done pending text left before this)

one_is_cut : (a b c : Option (List ℕ)) (first done pending text line rest : List ℕ) → text ≡ line → Passes a b (first ++ done) pending → AppendsPrefix b c (pending ++ text) → AppendsPrefix a c (first ++ ((done ++ line) ++ rest))
one_is_cut a b c first done pending text line rest same before this =
    prefix_piece a c first (done ++ line) rest
    (subst (λ l. AppendsPrefix a c (first ++ (done ++ l))) same (Passes-cut-piece a b c first done pending text before this))

pub loop-item-preserved : goal.loop-item-preserved
loop-item-preserved g c =
    let so_far = c.loop-item.invariant in
    record {
      done = so_far.done ++ numbered_text (line_seen c.in-Some.item);
      passed = one_passes _ _ _ c.args.output.now so_far.done _ _ _ _ c.record_pieces.ensures so_far.passed c.in_ok-push.ensures.ok;
      all = next_text _ _ _ _ so_far.done so_far.all c.in-Some.ensures.steps;
      count = c.in_ok-push.ensures.count ∙ so_far.count;
    }

pub returns-in_err-push : goal.returns-in_err-push
returns-in_err-push g c =
    let so_far = c.loop-item.invariant in
    pushes_cut _ _ _ _ _ _ _ c.from_residual.result c.from_residual.ensures.0
    (subst (λ (l : List ℕ). AppendsPrefix (g.W.Sink.written c.args.sink.now) (g.W.Sink.written c.push.new.sink) (c.args.output.now ++ l))
    (sym (next_text _ _ _ _ so_far.done so_far.all c.in-Some.ensures.steps))
    (one_is_cut _ _ _ c.args.output.now so_far.done _ _ _ _ c.record_pieces.ensures so_far.passed c.in_err-push.ensures.err))
    (c.in_err-push.ensures.count ∙ ap one_more so_far.count)
