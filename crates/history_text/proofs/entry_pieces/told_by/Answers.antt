-- A robots text is octets, all of them kept.
use Rattle.std.proofs.Common.{◌∙◌, sym, subst, ap}
use Rattle.robots_verdict.specs.Answer.{said}
use Rattle.history_text.specs.Entries.{IsBody, IsSaid}
use Rattle.history_text.proofs.entry_pieces.told_by.Goals as goal

pub returns-in-Rules-clause-body : goal.returns-in-Rules-clause-body
returns-in-Rules-clause-body c =
    let is = c.bytes.ensures.value ∙ c.text.ensures ∙ c.policy.ensures in
    subst IsSaid (sym (ap said c.in-Rules.is)) (subst IsBody is (record { own = c.bytes.ensures.own; few = c.bytes.ensures.few; octets = c.octets.ensures.octets }))
