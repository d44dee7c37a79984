-- The cut at the first space, and the place after it, are boundaries of the text.
use Rattle.std.proofs.Common.{◌≡◌, ◌∷◌, ◌+◌, drop, take, ap, sym, ◌∙◌, arith}
use Rattle.std.specs.List.{slice_range}
use Rattle.std.proofs.lemmas.Bool.{eqb-true}
use Rattle.std.proofs.lemmas.List.Quantifiers.{position-Some}
use Rattle.std.proofs.lemmas.Str.{IsCharBoundary-after_ascii, IsCharBoundary-before_ascii}
use Rattle.line_text.specs.Words.{is_space, words_of}
use Rattle.line_text.proofs.WordSplits.{words_of_found, words_of_whole}
use Rattle.line_text.proofs.words.cut.Goals as goal

pub range-requires-clause-end_boundary : goal.range-requires-clause-end_boundary
range-requires-clause-end_boundary c =
    let at = position-Some is_space c.args.text.now c.in-Some.place 0 (sym c.in-Some.ensures.place) in
    IsCharBoundary-before_ascii c.args.text.now c.in-Some.place at.0 (omega (arith, eqb-true _ _ at.1))

pub range_from-requires : goal.range_from-requires
range_from-requires c some =
    let at = position-Some is_space c.args.text.now c.in-Some.place 0 (sym c.in-Some.ensures.place) in
    IsCharBoundary-after_ascii c.args.text.now c.in-Some.place c.utf8.text at.0 (omega (arith, eqb-true _ _ at.1))

pub returns-in-Some : goal.returns-in-Some
returns-in-Some c =
    let front : slice_range c.args.text.now 0 c.in-Some.place ≡ take c.in-Some.place c.args.text.now = ap (λ n. take n c.args.text.now) (omega arith) in
    words_of_found c.args.text.now c.in-Some.place (sym c.in-Some.ensures.place) ∙ ap (λ word. word ∷ words_of (drop (c.in-Some.place + 1) c.args.text.now)) (sym (c.range.ensures.value ∙ front))
    ∙ ap (λ rest. c.range.result.now ∷ words_of rest) (sym c.range_from.ensures.value)

pub returns-in-None : goal.returns-in-None
returns-in-None c = words_of_whole c.args.text.now (sym c.in-None.ensures.place)
