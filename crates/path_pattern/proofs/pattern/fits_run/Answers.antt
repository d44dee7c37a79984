-- A literal matches as a prefix, and also as a suffix if anchored.
use Rattle.std.proofs.Common.{rules, ◌≡◌, ◌==◌, ◌∙◌, true, false, ap, drop, length, not, sym}
use Rattle.std.proofs.lemmas.Bool.{true≢false}
use Rattle.std.proofs.lemmas.List.{take_rest}
use Rattle.path_pattern.proofs.PlaceLemmas.{begun, not_begun}
use Rattle.path_pattern.proofs.SpellsLemmas.{fits_ended, fits_nowhere, fits_open}
use Rattle.path_pattern.proofs.pattern.fits_run.Goals as goal

pub returns-then-not-anchored : goal.returns-then-not-anchored
returns-then-not-anchored c =
    let free : c.args.anchored ≡ false = search rules in
    let path = c.args.path.now in
    let literal = c.args.literal.now in
    let is = begun path literal (c.begins_with.ensures.0 c.if-begins_with.true) in
    (λ _. fits_open literal c.args.anchored path (drop (length literal) path) c.requires is free, λ _. ap not free)

pub returns-else-not-anchored : goal.returns-else-not-anchored
returns-else-not-anchored c =
    let bound : c.args.anchored ≡ true = search rules in
    let path = c.args.path.now in
    let literal = c.args.literal.now in
    let is = begun path literal (c.begins_with.ensures.0 c.if-begins_with.true) in
    fits_ended literal c.args.anchored c.is_empty.result path (drop (length literal) path) c.requires is bound (c.is_empty.ensures ∙ ap (λ rest. length rest == 0) (take_rest path (length literal)))

pub returns-else-begins_with : goal.returns-else-begins_with
returns-else-begins_with c =
    let path = c.args.path.now in
    let literal = c.args.literal.now in
    let not = not_begun path literal (λ occurs. true≢false (sym (c.begins_with.ensures.1 occurs) ∙ c.if-begins_with.false)) in
    (λ yes. absurd (true≢false (sym yes ∙ c.if-begins_with.false)), λ spells. absurd (fits_nowhere literal c.args.anchored path c.requires not spells))
