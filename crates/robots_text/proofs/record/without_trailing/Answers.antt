-- A trailing blank goes; with another octet last, all is kept.
use Rattle.std.proofs.Common.{sym, ap, ◌∙◌}
use Rattle.robots_text.specs.Records.{without_trailing}
use Rattle.robots_text.proofs.Ends.{trailing_blank, trailing_other}
use Rattle.robots_text.proofs.record.without_trailing.Goals as goal

pub returns-then-not-is_blank : goal.returns-then-not-is_blank
returns-then-not-is_blank c =
    let split = c.in-Some.ensures.cases.0 in
    let other = sym c.is_blank.ensures ∙ c.if-not-is_blank.true in
    split ∙ sym (trailing_other c.in-Some.before.now c.in-Some.last.now other) ∙ ap without_trailing (sym split) ∙ c.loop-last.invariant

pub loop-last-preserved : goal.loop-last-preserved
loop-last-preserved c =
    let split = c.in-Some.ensures.cases.0 in
    let blank = sym c.is_blank.ensures ∙ c.if-not-is_blank.false in
    sym (trailing_blank c.in-Some.before.now c.in-Some.last.now blank) ∙ ap without_trailing (sym split) ∙ c.loop-last.invariant
