-- Each round pushes the next answer, until none is behind the last one.
use Rattle.std.proofs.Common.{◌++◌, All, List, ℕ, ap, flat_map, refl, rules, subst, sym, ◌∙◌}
use Rattle.std.specs.Option.{option_copied}
use Rattle.std.proofs.lemmas.List.Elements.{All-nil}
use Rattle.counted_io.specs.Device.{AppendsPrefix, one_more}
use Rattle.counted_io.specs.Output.{Passes}
use Rattle.line_text.proofs.CallerLemmas.{pushes_cut}
use Rattle.authority_cache.specs.declared.standing_answer.StandingAnswer.{StandingAnswer}
use Rattle.history_text.specs.BaseFields.{IsAnswerRow}
use Rattle.history_text.specs.SpellBase.{ended}
use Rattle.history_text.proofs.AnswerLines.{all_taken, everything, line_of, pushed_cut, pushed_more}
use Rattle.history_text.proofs.answer_lines.push_each.Goals as goal

pub loop-answer-init : goal.loop-answer-init
loop-answer-init g c = record {
  count = 0;
  rest = everything c.args.base.now.standing;
  passes = search rules;
  none_failed = refl;
  fields = All-nil IsAnswerRow;
}

pub returns-in_err-push_line-clause-pushes : goal.returns-in_err-push_line-clause-pushes
returns-in_err-push_line-clause-pushes g c =
    let line = ap ended c.pieces.ensures.text in
    pushes_cut _ _ _ _ _ _ _ c.from_residual.result c.from_residual.ensures.0
    (pushed_cut c.args.base.now.standing (option_copied c.loop-answer.last) (g.W.Sink.written c.args.sink.now) (g.W.Sink.written c.loop-answer.sink) (g.W.Sink.written c.push_line.new.sink)
    (g.W.Sink.failures c.args.sink.now) (g.W.Sink.failures c.loop-answer.sink) (g.W.Sink.failures c.push_line.new.sink) c.args.output.now c.loop-answer.output c.push_line.new.output c.in-Some.answer.now
    c.loop-answer.invariant c.in-Some.ensures
    (subst (λ (l : List ℕ). AppendsPrefix (g.W.Sink.written c.loop-answer.sink) (g.W.Sink.written c.push_line.new.sink) (c.loop-answer.output ++ l)) line c.in_err-push_line.ensures.err))
    (c.in_err-push_line.ensures.count ∙ ap one_more c.loop-answer.invariant.none_failed)

pub loop-answer-preserved : goal.loop-answer-preserved
loop-answer-preserved g c =
    let line = ap ended c.pieces.ensures.text in
    pushed_more c.args.base.now.standing (option_copied c.loop-answer.last) (g.W.Sink.written c.args.sink.now) (g.W.Sink.written c.loop-answer.sink) (g.W.Sink.written c.push_line.new.sink)
    (g.W.Sink.failures c.args.sink.now) (g.W.Sink.failures c.loop-answer.sink) (g.W.Sink.failures c.push_line.new.sink) c.args.output.now c.loop-answer.output c.push_line.new.output c.in-Some.answer.now
    c.loop-answer.invariant c.in-Some.ensures
    (subst (λ (l : List ℕ). Passes (g.W.Sink.written c.loop-answer.sink) (g.W.Sink.written c.push_line.new.sink) (c.loop-answer.output ++ l) c.push_line.new.output) line c.in_ok-push_line.ensures.ok)
    c.in_ok-push_line.ensures.count c.pieces.ensures.fields

pub returns-clause-pushes : goal.returns-clause-pushes
returns-clause-pushes g c =
    let taken = all_taken c.args.base.now.standing c.loop-answer.invariant.count (sym c.loop-answer.invariant.rest ∙ c.in_default.ensures) in
    record {
      ok = subst (λ (xs : List StandingAnswer). Passes (g.W.Sink.written c.args.sink.now) (g.W.Sink.written c.loop-answer.sink) (c.args.output.now ++ flat_map line_of xs) c.loop-answer.output) taken
          c.loop-answer.invariant.passes;
      err = tt;
      count = c.loop-answer.invariant.none_failed;
    }

pub returns-clause-fields : goal.returns-clause-fields
returns-clause-fields g c =
    let taken = all_taken c.args.base.now.standing c.loop-answer.invariant.count (sym c.loop-answer.invariant.rest ∙ c.in_default.ensures) in
    subst (λ (xs : List StandingAnswer). All IsAnswerRow xs) taken c.loop-answer.invariant.fields
