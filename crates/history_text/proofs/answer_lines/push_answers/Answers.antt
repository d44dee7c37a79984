-- The lines of the sorted references are those of the answers in order.
use Rattle.std.proofs.Common.{◌≡◌, All, List, ℕ, ap, flat_map, map, subst, ◌∙◌}
use Rattle.std.proofs.lemmas.List.Elements.{All-map}
use Rattle.counted_io.specs.Output.{Pushes}
use Rattle.authority_cache.specs.declared.standing_answer.StandingAnswer.{StandingAnswer}
use Rattle.history_text.specs.BaseFields.{IsAnswerRow}
use Rattle.history_text.proofs.AnswerLines.{line_of, map_lines}
use Rattle.history_text.proofs.Exporting.{ok_so}
use Rattle.history_text.proofs.answer_lines.push_answers.Goals as goal

pub returns-in-Ok-clause-pushes : goal.returns-in-Ok-clause-pushes
returns-in-Ok-clause-pushes g c =
    let answers = c.as_slice.result.now in
    let same : map (λ answer. answer.now) answers ≡ c.args.base.now.standing = ap (map (λ answer. answer.now)) c.as_slice.ensures.value ∙ c.in-Ok.ensures in
    let text : flat_map (λ answer. line_of answer.now) answers ≡ flat_map line_of c.args.base.now.standing = map_lines (λ answer. answer.now) answers ∙ ap (flat_map line_of) same in
    subst (λ (text : List ℕ). Pushes (g.W.Sink.written c.args.sink.now) (g.W.Sink.written c.push_rows.new.sink) (g.W.Sink.failures c.args.sink.now) (g.W.Sink.failures c.push_rows.new.sink) c.args.output.now c.push_rows.new.output text c.push_rows.result)
    text c.push_rows.ensures.pushes

pub returns-in-Ok-clause-fields : goal.returns-in-Ok-clause-fields
returns-in-Ok-clause-fields g c =
    let answers = c.as_slice.result.now in
    let same : map (λ answer. answer.now) answers ≡ c.args.base.now.standing = ap (map (λ answer. answer.now)) c.as_slice.ensures.value ∙ c.in-Ok.ensures in
    ok_so c.push_rows.result c.push_rows.ensures.fields (λ all.
    subst (λ (xs : List StandingAnswer). All IsAnswerRow xs) same (All-map IsAnswerRow (λ answer. answer.now) answers all))
