-- The line `E` ends a base whose numbers were read.
use Rattle.std.proofs.Common.{◌≡◌, [], ◌∷◌, inl, inr, ap, not, sym, ◌∙◌, rules}
use Rattle.std.specs.Prelude.{is_some}
use Rattle.std.proofs.lemmas.Bool.{true≢false}
use Rattle.crawl_audit.proofs.FirstLines.{end_taken}
use Rattle.crawl_audit.proofs.first_base.FirstBase.take.Goals as goal

pub returns-then-eq : goal.returns-then-eq
returns-then-eq c = λ lines reads.
    let is : c.args.line.now ≡ 69 ∷ [] = search rules in
    elim reads [
      | inl head ↦ absurd (true≢false (sym (c.is_none.ensures ∙ ap not c.if-is_none.false) ∙ ap is_some head.none))
      | inr rows ↦ end_taken c.args.self.now c.args.open_state.now lines c.args.line.now rows is
    ]
