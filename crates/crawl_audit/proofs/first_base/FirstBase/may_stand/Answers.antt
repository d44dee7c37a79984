-- The tests decide whether a row may come next.
use Rattle.std.proofs.Common.{sym, ap, ◌∙◌}
use Rattle.std.specs.Prelude.{unwrap_or}
use Rattle.std.proofs.lemmas.Bool.{true≢false}
use Rattle.crawl_audit.specs.FirstBase.{is_behind}
use Rattle.crawl_audit.specs.OpenRows.{row_of}
use Rattle.crawl_audit.proofs.StandingRows.{comes_behind, fits_too, stands_from}
use Rattle.crawl_audit.proofs.first_base.FirstBase.may_stand.Goals as goal

pub returns-then-is_before : goal.returns-then-is_before
returns-then-is_before c = λ b says fields.
    let first = c.args.self.now in
    let open_state = c.args.open_state.now in
    let row = row_of c.args.row.now in
    let same = ap (λ o. unwrap_or o c.in-Some.last) (sym c.in-Some.is ∙ says.last_is) in (
      λ is. stands_from first open_state b says row fields (ap (λ l. is_behind l row) (sym same) ∙ sym c.is_before.ensures ∙ c.if-is_before.true) (sym c.fits.ensures ∙ is),
      λ may. c.fits.ensures ∙ fits_too first open_state b says row may,
    )

pub returns-else-is_before : goal.returns-else-is_before
returns-else-is_before c = λ b says fields.
    let first = c.args.self.now in
    let open_state = c.args.open_state.now in
    let row = row_of c.args.row.now in
    let same = ap (λ o. unwrap_or o c.in-Some.last) (sym c.in-Some.is ∙ says.last_is) in (
      λ is. absurd (true≢false (sym is ∙ c.if-is_before.false)),
      λ may. c.is_before.ensures ∙ ap (λ l. is_behind l row) same ∙ comes_behind first open_state b says row may,
    )
