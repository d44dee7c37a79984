-- The path that is searched is the given one.
use Rattle.std.proofs.Common.{subst}
use Rattle.robots_text.specs.Records.{numbered_records}
use Rattle.robots_verdict.specs.Strongest.{IsBest}
use Rattle.robots_verdict.proofs.laws.verdict_plain.Goals as goal

pub returns : goal.returns
returns c =
    let lines = numbered_records c.args.policy.now in
    let word = c.args.token.now in
    c.verdict_on.ensures lines word (subst (λ path. IsBest lines word path c.strongest_by_text.result) c.new.ensures c.strongest_by_text.ensures)
